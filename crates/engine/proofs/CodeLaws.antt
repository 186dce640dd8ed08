-- What the seeds are copied to, from what `rounds::copy_in` makes of a budget and a table.
use Prim.Native.Nat.{ℕ}
use mathlib.Core.Path.{◌≡◌}
use mathlib.Core.List.{List}
use Rattle.std.proofs.Common.{Result}
use Rattle.limits.specs.declared.Stop.{Stop}
use Rattle.limits.specs.declared.Budget.{Budget}
use Rattle.limits.specs.Metered.{answered}
use Rattle.slots.specs.Slots.{copies}
use Rattle.slots.specs.Lent.{in_budget}
use Rattle.rounds.proofs.CodeLaws.{answered_budget}
use Rattle.engine.specs.Run.{Start, start, copying}

pub seeds_copied : (seeds : List ℕ) (n : ℕ) (s : Start) (r : Result (Unit {0}) Stop) (b : Budget) (copied : List ℕ) → answered r (b, copied) ≡ in_budget (copies seeds 0 n) (s.budget, s.current) →
    answered r (start b copied s.growth) ≡ copying seeds n s
seeds_copied seeds n s r b copied h = answered_budget (λ s. s.budget) (λ s. s.current) (λ b v s. start b v s.growth) (copies seeds 0 n) s r b copied h
