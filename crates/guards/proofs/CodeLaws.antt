-- What the code of guards answers of a guard's two operands, over plain variables.
use Prim.Native.Nat.{ℕ}
use native.Mathlib.Omega.{arith}
use mathlib.Core.Path.{◌≡◌, refl}
use mathlib.Core.List.{List}
use Rattle.std.proofs.Common.{Result}
use Rattle.limits.specs.declared.Stop.{Stop}
use Rattle.limits.specs.Metered.{Run, going, stopped, Metered, answered}
use Rattle.limits.specs.declared.Meter.{Meter}
use Rattle.limits.specs.Meter.{released}
use Rattle.limits.proofs.Answering.{answered_through}
use Rattle.limits.proofs.Monad.{bind_stop, bind_on, through_stop, through_on}
use Rattle.lattice.specs.Value.{Value}
use Rattle.rows.specs.Row.{entries_of}
use Rattle.refinements.specs.Refinement.{refinements_of}
use Rattle.rules.specs.declared.Guard.{Guard}
use Rattle.rules.specs.declared.Guard.TheVariants.{Compare, Membership}
use Rattle.evaluation.specs.declared.Operand.{Operand}
use Rattle.evaluation.specs.Evaluation.{Input, Values, both}
use Rattle.evaluation.specs.Operands.{operand, sees_both}
use Rattle.guards.specs.Guards.{Local, local, paying, fewer, dropping, with_both, compared, member, narrowed}
use Rattle.guards.specs.Operands.{bare}

-- ---- both operands of a guard

module _ (i : Input) (n : ℕ) (m : Meter) (p r : List ℕ) where
  module _ (left right : ℕ) (f : Value → Value → Metered Stop Local ℕ) where
    abbrev values : Metered Stop Meter Values
    values = both i p (refinements_of r n) left right

    pub both_stop : {e : Stop} {t : Meter} → stopped e t ≡ sees_both (values m) → stopped e (local t p r) ≡ with_both i n left right f (local m p r)
    unfolding with_both
    both_stop {e} {t} h = bind_stop (paying values) _ _ (through_stop _ _ _ _ values (local m p r) (go (values m) h))
      where
        go : (x : Run Stop Meter Values) → stopped e t ≡ sees_both x → stopped e t ≡ x
        go (going v u) h = let z : ◌≡◌ {A = ℕ} 0 1 = cc in absurd (omega arith)
        go (stopped d u) h = cc

    -- f asks no more of the values than their bounds
    pub both_done : ((u v : Value) → f (bare u.bound) (bare v.bound) ≡ f u v) → {o : Operand × Operand} {t : Meter} → going o t ≡ sees_both (values m) →
        (x : Result ℕ Stop) (t' : Meter) (p' r' : List ℕ) → answered x (local t' p' r') ≡ f (bare o.0.bound) (bare o.1.bound) (local t p r) →
        answered x (local (released o.0.entries (released o.1.entries t')) p' r') ≡ with_both i n left right f (local m p r)
    unfolding with_both
    both_done asks {o} {t} h x t' p' r' k = go (values m) refl h
      where
        go : (y : Run Stop Meter Values) → values m ≡ y → going o t ≡ sees_both y → answered x (local (released o.0.entries (released o.1.entries t')) p' r') ≡ with_both i n left right f (local m p r)
        go (stopped d u) q h = let z : ◌≡◌ {A = ℕ} 0 1 = cc in absurd (omega arith)
        go (going y u) q h =
            let d : o ≡ (operand y.first, operand y.second) = cc in
            let e : going y t ≡ values m = cc in
            rw d
            (bind_on (paying values) _ _ (through_on _ _ _ _ values (local m p r) e)
            (answered_through (λ s. s) (λ _ s. fewer (entries_of y.first) s) (dropping y.second (f y.first y.second)) (local t p r) x _
            (answered_through (λ s. s) (λ _ s. fewer (entries_of y.second) s) (f y.first y.second) (local t p r) x (local t' p' r') (rw (d, asks y.first y.second) at k))))

-- of the values no more than their bounds is asked
pub narrowed_asks : (i : Input) (n : ℕ) (g : Guard) (u v : Value) → narrowed i n g (bare u.bound) (bare v.bound) ≡ narrowed i n g u v
unfolding compared member
narrowed_asks i n (Compare left relation right) u v = refl
narrowed_asks i n (Membership slot low high) u v = refl
