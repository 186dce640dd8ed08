-- The loop of a merge, over plain lists and counts: what one turn takes of the two lists, and where the loop is left.
use Prim.Native.Nat.{ℕ, ◌+◌, ◌<◌, min}
use native.Mathlib.Omega.{arith}
use mathlib.Core.Path.{◌≡◌, refl, sym, subst, ◌∙◌}
use mathlib.Core.Bool.{true, false}
use mathlib.Core.List.{List, [], ◌∷◌, ◌++◌}
use mathlib.Core.Option.{some, none}
use borrow.Author.Tests.{lt-ltb, le-ltb, leb-true, eq-eqb, ne_eqb}
use lib.Dec.{leb}
use lib.ListN.{length}
use Rattle.std.specs.Prelude.{Some, None}
use Rattle.integers.proofs.ListLaws.{Compared, less, more, same, compared}
use Rattle.limits.specs.declared.Stop.{Stop}
use Rattle.limits.specs.Metered.{going, stopped, pure, after, ◌>>=◌}
use Rattle.limits.specs.declared.Meter.{Meter}
use Rattle.limits.proofs.Monad.{Holds, bind_stop, bind_on, pure_is}
use Rattle.lists.specs.Lists.{union, take_one, collect}
use Rattle.lists.specs.Ids.{next_of, past}
use Rattle.lists.proofs.ListLaws.{take_is}

-- the union of what is left is v and then the union of what is left behind it, which is less
pub record Stepped (x y : List ℕ) (v : ℕ) : Type 0 where
  pub union_is : union x y ≡ v ∷ union (past v x) (past v y)
  pub falls : length (past v x) + length (past v y) < length x + length y

stepped : (x y : List ℕ) (v : ℕ) → Some v ≡ next_of x y → Stepped x y v
stepped [] [] v e = let z : ◌≡◌ {A = ℕ} 0 1 = cc in absurd (omega arith)
stepped [] (b ∷ y) v e = let f : v ≡ b = cc in rw f (record { union_is = rw (eq-eqb b b refl); falls = rw (eq-eqb b b refl) (omega arith) })
stepped (a ∷ x) [] v e = let f : v ≡ a = cc in rw f (record { union_is = rw (eq-eqb a a refl); falls = rw (eq-eqb a a refl) (omega arith) })
stepped (a ∷ x) (b ∷ y) v e = let g : v ≡ min a b = cc in go g (compared a b)
  where
    go : v ≡ min a b → Compared a b → Stepped (a ∷ x) (b ∷ y) v
    go g (less h) =
        let f : v ≡ a = omega arith in
        rw f (record { union_is = rw (lt-ltb a b h, eq-eqb a a refl, ne_eqb b a (λ p. omega arith)); falls = rw (eq-eqb a a refl, ne_eqb b a (λ p. omega arith)) (omega arith) })
    go g (more h) =
        let f : v ≡ b = omega arith in
        rw f (record { union_is = rw (le-ltb a b (omega arith), lt-ltb b a h, eq-eqb b b refl, ne_eqb a b (λ p. omega arith)); falls = rw (eq-eqb b b refl, ne_eqb a b (λ p. omega arith)) (omega arith) })
    go g (same h) =
        let f : v ≡ a = omega arith in
        rw (f, ← h) (record { union_is = rw (le-ltb a a (omega arith), eq-eqb a a refl); falls = rw (eq-eqb a a refl) (omega arith) })

nothing_left : (x y : List ℕ) → None ≡ next_of x y → union x y ≡ []
nothing_left [] [] e = refl
nothing_left [] (b ∷ y) e = let z : ◌≡◌ {A = ℕ} 0 1 = cc in absurd (omega arith)
nothing_left (a ∷ x) [] e = let z : ◌≡◌ {A = ℕ} 0 1 = cc in absurd (omega arith)
nothing_left (a ∷ x) (b ∷ y) e = let z : ◌≡◌ {A = ℕ} 0 1 = cc in absurd (omega arith)

-- ---- the loop

-- the merge of l and r begun at m₀ is that of what is left, x and y, behind the ids that are kept
pub record Merging (l r : List ℕ) (width : ℕ) (m₀ : Meter) (kept x y : List ℕ) (m : Meter) : Type 0 where
  pub run : collect width [] (union l r) m₀ ≡ collect width kept (union x y) m

pub merging : (l r : List ℕ) (width : ℕ) (m : Meter) {kept : List ℕ} → kept ≡ [] → Merging l r width m kept l r m
merging l r width m e = record { run = rw e }

-- an id is taken only where there is room
pub taken_fits : (width n : ℕ) (m : Meter) {m' : Meter} → going true m' ≡ take_one width n m → n < 16
taken_fits width n m h =
    let k : true ≡ leb (n + 1) (min width 16) = subst (Holds (λ t. t ≡ leb (n + 1) (min width 16))) (sym h) ((take_is width n).at m) in
    omega (arith, leb-true (n + 1) (min width 16) (sym k))

module _ (l r : List ℕ) (width : ℕ) (m₀ : Meter) (kept x y : List ℕ) (m : Meter) (h : Merging l r width m₀ kept x y m) where
  pub merge_all : None ≡ next_of x y → going (some kept) m ≡ collect width [] (union l r) m₀
  unfolding collect pure
  merge_all f = rw (h.run, nothing_left x y f)

  module _ {v n : ℕ} (e : Some v ≡ next_of x y) (k : n ≡ length kept) where
    pub merge_stopped : {s : Stop} {m' : Meter} → stopped s m' ≡ take_one width n m → stopped s m' ≡ collect width [] (union l r) m₀
    unfolding collect
    merge_stopped {s} {m'} t = rw (h.run, (stepped x y v e).union_is) (bind_stop (take_one width (length kept)) m _ {e = s} {t = m'} (rw (← k) t))

    pub merge_none : {m' : Meter} → going false m' ≡ take_one width n m → going none m' ≡ collect width [] (union l r) m₀
    unfolding collect
    merge_none {m'} t = rw (h.run, (stepped x y v e).union_is) (bind_on (take_one width (length kept)) m _ {a = false} {t = m'} (rw (← k) t) (pure_is none _))

    pub merge_more : {m' : Meter} {kept' x' y' : List ℕ} → going true m' ≡ take_one width n m → kept' ≡ kept ++ (v ∷ []) → x' ≡ past v x → y' ≡ past v y → Merging l r width m₀ kept' x' y' m'
    unfolding collect ◌>>=◌ after
    merge_more t p q q' = record { run = h.run ∙ rw ((stepped x y v e).union_is, ← k, ← t, p, q, q') }

    pub merge_falls : {x' y' : List ℕ} → x' ≡ past v x → y' ≡ past v y → length x' + length y' < length x + length y
    merge_falls q q' = rw (q, q') ((stepped x y v e).falls)
