-- A copy of a value is the value, and `same` is equality of bounds and of lists, whatever the reasons are.
use Prim.Native.Nat.{ℕ}
use native.Mathlib.Omega.{arith}
use mathlib.Core.Path.{◌≡◌, refl, ap}
use mathlib.Core.Logic.{◌↔◌}
use mathlib.Core.Bool.{true, false}
use mathlib.Core.List.{List, [], ◌∷◌}
use mathlib.Core.Option.{Option, some, none}
use borrow.Author.Tests.{eqb-true, eq-eqb}
use lib.Dec.{eqb}
use lib.ListN.{length}
use Rattle.limits.specs.Meter.{work}
use Rattle.limits.proofs.Monad.{Ensures, by_pure, by_test, then, weaken}
use Rattle.interval.specs.Bound.{same_bound}
use Rattle.interval.proofs.Members.{same_bound_is}
use Rattle.lattice.specs.Value.{Value}
use Rattle.lists.specs.Lists.{same_ids}
use Rattle.lattice.specs.Lattice.{copied_list, copied, same_lists, same}

pub copied_is : (v : Value) → Ensures (λ w. w ≡ v) (copied v)
unfolding copied
copied_is v = then (work 1) (then (copied_list v.values) (by_pure v refl))

same_ids_are : (l r : List ℕ) → length l ≡ length r → Ensures (λ t. (t ≡ true) ↔ (l ≡ r)) (same_ids l r)
unfolding same_ids
same_ids_are [] [] n = by_pure true (λ _. refl, λ _. refl)
same_ids_are [] (b ∷ r) n = absurd (omega arith)
same_ids_are (a ∷ l) [] n = absurd (omega arith)
same_ids_are (a ∷ l) (b ∷ r) n =
    then (work 1)
    (by_test (eqb a b)
    (λ e.
    let f = eqb-true a b e in
    weaken (λ t g. (λ h. let k = g.0 h in cc, λ (h : (a ∷ l) ≡ (b ∷ r)). g.1 (cc))) (same_ids_are l r (omega arith)))
    (λ e.
    by_pure false
    (λ h. cc, λ (h : (a ∷ l) ≡ (b ∷ r)). let k : a ≡ b = cc in let g : eqb a b ≡ true = eq-eqb a b k in cc)))

same_lists_are : (x y : Option (List ℕ)) → Ensures (λ t. (t ≡ true) ↔ (x ≡ y)) (same_lists x y)
same_lists_are none none = by_pure true (λ _. refl, λ _. refl)
same_lists_are none (some r) = by_pure false (λ h. cc, λ h. cc)
same_lists_are (some l) none = by_pure false (λ h. cc, λ h. cc)
same_lists_are (some l) (some r) =
    by_test (eqb (length l) (length r))
    (λ e. weaken (λ t g. (λ h. ap some (g.0 h), λ (h : some l ≡ some r). g.1 (cc))) (same_ids_are l r (eqb-true (length l) (length r) e)))
    (λ e.
    by_pure false
    (λ h. cc, λ (h : some l ≡ some r). let k : l ≡ r = cc in let g : eqb (length l) (length r) ≡ true = eq-eqb (length l) (length r) (ap length k) in cc))

pub same_is : (u v : Value) → Ensures (λ t. (t ≡ true) ↔ ((u.bound ≡ v.bound) × (u.values ≡ v.values))) (same u v)
unfolding same
same_is u v =
    then (work 1)
    (by_test (same_bound u.bound v.bound)
    (λ e. weaken (λ t g. (λ h. ((same_bound_is u.bound v.bound).0 e, g.0 h), λ h. g.1 h.1)) (same_lists_are u.values v.values))
    (λ e. by_pure false (λ h. absurd (never h), λ h. let g = (same_bound_is u.bound v.bound).1 h.0 in cc)))
  where
    never : false ≡ true → ⊥
    never h = let z : ◌≡◌ {A = ℕ} 0 1 = cc in omega arith
