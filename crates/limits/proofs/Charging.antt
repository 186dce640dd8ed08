-- How a charge of a budget ends.
use Prim.Native.Nat.{ℕ, ◌+◌}
use mathlib.Core.Path.{◌≡◌, refl}
use Rattle.std.proofs.Common.{Ok, Err}
use mathlib.Core.Bool.{Bool, true, false, cond}
use lib.Dec.{leb}
use Rattle.limits.specs.declared.Resource.{Resource}
use Rattle.limits.specs.declared.Budget.{Budget}
use Rattle.limits.specs.Charge.{stop_of, charge_of}
use Rattle.limits.specs.Records.{limit_of, count_of, with_count, with_statistics}
use Rattle.limits.specs.Budget.{charge}
use Rattle.limits.specs.Budget as budgets
use Rattle.limits.proofs.Ends.{Ends, completes, stops}

-- a budget that was charged
abbrev pub billed : Resource → ℕ → Budget → Budget
billed r n b = with_statistics (with_count r (count_of r b.statistics + n) b.statistics) b

pub charge_ends : (r : Resource) (n : ℕ) (b : Budget) → Ends (λ _ c. c ≡ billed r n b) (λ e c. (e.resource ≡ r) × (c ≡ b)) (charge r n b)
unfolding charge charge_of
charge_ends r n b = go (leb (count_of r b.statistics + n) (limit_of r b.limits))
  where
    go : (t : Bool) → Ends (λ _ c. c ≡ billed r n b) (λ e c. (e.resource ≡ r) × (c ≡ b))
        (budgets.charged r b (cond t (Ok (count_of r b.statistics + n)) (Err (stop_of r (limit_of r b.limits) (count_of r b.statistics + n)))))
    go true = completes refl
    go false = stops (refl, refl)
