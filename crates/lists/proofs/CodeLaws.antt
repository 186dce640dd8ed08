-- What the code's answers are, over plain variables: one law for each way out of a step.
use Prim.Native.Nat.{◌^◌, ℕ, suc, ◌+◌, ◌-◌, ◌<◌, ◌≤◌, min}
use native.Mathlib.Omega.{arith}
use native.Mathlib.Numerals.{add-one}
use mathlib.Core.Path.{◌≡◌, refl, sym, subst, ◌∙◌}
use mathlib.Core.Bool.{Bool, true, false}
use mathlib.Core.List.{List, [], ◌∷◌}
use borrow.Author.Tests.{le-leb, lt-leb, eq-eqb, ne_eqb}
use lib.Dec.{eqb}
use lib.ListN.{length, drop, get_or, length-drop}
use lib.Seq.{drop-cons}
use Rattle.limits.specs.declared.Stop.{Stop}
use Rattle.limits.specs.declared.Meter.{Meter}
use Rattle.limits.specs.Metered.{Run, going, stopped, pure, after, ◌>>=◌, ◌>>◌}
use Rattle.limits.specs.Meter.{work, release, released, holding}
use Rattle.limits.proofs.Monad.{then_on, then_stop, pure_is, yes_on, no_on}
use Rattle.std.proofs.Common.{is_ok, Result, Ok, Err}
use Rattle.search.specs.Seek.{Place, found, absent, found?, seek, compareℕ}
use Rattle.search.proofs.Complete.{turns_same}
use Rattle.search.proofs.Looks.{AtMost, at_most_after, at_most_left, seek_at_most}
use Rattle.lists.specs.Lists.{push, retain_all, take_one, permits_in, Tells, same_ids}
use Rattle.lists.proofs.ListLaws.{permits_in_lem}
use Rattle.integers.specs.Lists.{Increasing}
use Rattle.integers.proofs.ListLaws.{has, has_at, at_has}
use Rattle.limits.proofs.Monad.{Holds}
use Rattle.limits.specs.Metered.{answered}
use Rattle.std.proofs.lemmas.List.{get_or_default}

-- ---- the entries of a list

-- those of a list begun at m₀ are those that are still to come at m, with `held` live
pub record Retaining (count : ℕ) (m₀ : Meter) (held : ℕ) (m : Meter) : Type 0 where
  pub run : retain_all 0 count m₀ ≡ retain_all held (count - held) m

pub retaining : (count : ℕ) (m : Meter) → Retaining count m 0 m
retaining count m = let z : count - 0 ≡ count = omega arith in record { run = rw z }

module _ (count : ℕ) (m₀ : Meter) (held : ℕ) {m : Meter} (r : Retaining count m₀ held m) where
  pub retained_all : count ≤ held → going tt m ≡ retain_all 0 count m₀
  unfolding retain_all pure
  retained_all h = let z : count - held ≡ 0 = omega arith in rw (r.run, z)

  module _ (h : held < count) where
    left_over : count - held ≡ suc (count - (held + 1))
    left_over = omega arith

    pub retained_stopped : {s : Stop} {m' : Meter} → stopped s m' ≡ push held m → stopped s m' ≡ retain_all 0 count m₀
    unfolding retain_all
    retained_stopped k = rw (r.run, left_over) (then_stop (push held) m _ k)

    pub retained_more : {m' : Meter} → going tt m' ≡ push held m → Retaining count m₀ (held + 1) m'
    unfolding retain_all ◌>>◌ ◌>>=◌ after
    retained_more k = record { run = r.run ∙ rw (left_over, ← k) }

-- ---- one step of a merge

module _ (width held : ℕ) (m : Meter) where
  pub take_stopped : {s : Stop} {m₁ : Meter} → stopped s m₁ ≡ holding held (work 1) m → stopped s m₁ ≡ take_one width held m
  unfolding take_one
  take_stopped h = then_stop (holding held (work 1)) m _ h

  module _ {m₁ : Meter} (h : going tt m₁ ≡ holding held (work 1) m) where
    pub take_wide : {m₂ : Meter} → min width 16 ≤ held → m₂ ≡ released held m₁ → going false m₂ ≡ take_one width held m
    unfolding take_one release
    take_wide k q = then_on (holding held (work 1)) m _ h (yes_on _ _ m₁ (le-leb (min width 16) held k) (then_on (release held) m₁ _ refl (rw q (pure_is false _))))

    pub push_stopped : {s : Stop} {m₂ : Meter} → held < min width 16 → stopped s m₂ ≡ push held m₁ → stopped s m₂ ≡ take_one width held m
    unfolding take_one
    push_stopped k q = then_on (holding held (work 1)) m _ h (no_on _ _ m₁ (lt-leb (min width 16) held k) (then_stop (push held) m₁ _ q))

    pub pushed : {m₂ : Meter} → held < min width 16 → going tt m₂ ≡ push held m₁ → going true m₂ ≡ take_one width held m
    unfolding take_one
    pushed k q = then_on (holding held (work 1)) m _ h (no_on _ _ m₁ (lt-leb (min width 16) held k) (then_on (push held) m₁ _ q (pure_is true _)))

-- ---- a search's end, as what permits answers

module _ (l : List ℕ) (id turns : ℕ) (m : Meter) {m' : Meter} where
  pub permits_ended : {p : Place} {t : Bool} → going p m' ≡ seek (λ i. compareℕ (get_or l i 0) id) turns 0 (length l) m → t ≡ is_ok p → going t m' ≡ permits_in turns l id m
  unfolding permits_in ◌>>=◌ after pure
  permits_ended {p} h e = rw (e, ← h) (go p)
    where
      go : (p : Place) → ◌≡◌ {A = Run Stop Meter Bool} (going (is_ok p) m') (going (found? p) m')
      go (found i) = refl
      go (absent i) = refl

  pub permits_stopped : {s : Stop} → stopped s m' ≡ seek (λ i. compareℕ (get_or l i 0) id) turns 0 (length l) m → stopped s m' ≡ permits_in turns l id m
  unfolding permits_in ◌>>=◌ after
  permits_stopped h = rw (← h)

-- ---- what a search of a list promises besides: whatever the list is, at most a unit of work a turn

permits_at_most : (turns : ℕ) (l : List ℕ) (id : ℕ) (m : Meter) → AtMost (m.work + turns) (permits_in turns l id m)
unfolding permits_in pure ◌>>=◌
permits_at_most turns l id m =
    at_most_after (λ p. pure (found? p)) (seek (λ i. compareℕ (get_or l i 0) id) turns 0 (length l) m) (omega arith)
    (seek_at_most (λ i. compareℕ (get_or l i 0) id) turns 0 (length l) m) (λ p m' h. h)

pub permits_looks : (turns : ℕ) (l : List ℕ) (id : ℕ) (m m' : Meter) (r : Result Bool Stop) → answered r m' ≡ permits_in turns l id m → m'.work ≤ m.work + turns
permits_looks turns l id m m' r e = at_most_left r m' (subst (AtMost (m.work + turns)) (sym e) (permits_at_most turns l id m))

-- any two numbers of turns that are enough are as good
pub permits_same : (f g : ℕ) (l : List ℕ) (id : ℕ) (m : Meter) → length l < 2 ^ f → length l < 2 ^ g → permits_in f l id m ≡ permits_in g l id m
unfolding permits_in
permits_same f g l id m h k = rw (turns_same (λ i. compareℕ (get_or l i 0) id) f g 0 (length l) (omega arith) (omega arith))

-- and on a list in order yes exactly for an id in it
pub permits_tells : (turns : ℕ) (l : List ℕ) (id : ℕ) (m m' : Meter) (r : Result Bool Stop) → Increasing l → length l < 2 ^ turns → answered r m' ≡ permits_in turns l id m → Tells l id r
permits_tells turns l id m m' (Ok told) s h e =
    let b : told ≡ has l id = subst (Holds (λ t. t ≡ has l id)) (sym e) ((permits_in_lem l id s turns h).at m) in (
      λ t. let w = has_at l id (sym b ∙ t) in (w.0, w.1, get_or_default l w.0 id 0 w.1 ∙ w.2),
      λ c. b ∙ at_has l c.0 id c.1 (sym (get_or_default l c.0 id 0 c.1) ∙ c.2),
    )
permits_tells turns l id m m' (Err stop) s h e = tt

-- ---- two lists, id by id

-- the comparison of l and r, begun at m₀, is that of what is left from i on
pub record Comparing (l r : List ℕ) (m₀ : Meter) (i : ℕ) (m : Meter) : Type 0 where
  pub run : same_ids l r m₀ ≡ same_ids (drop i l) (drop i r) m

pub comparing : (l r : List ℕ) (m : Meter) → Comparing l r m 0 m
comparing l r m = record { run = refl }

module _ (l r : List ℕ) (m₀ : Meter) (i : ℕ) {m : Meter} (c : Comparing l r m₀ i m) where
  pub compared_all : min (length l) (length r) ≤ i → going true m ≡ same_ids l r m₀
  unfolding same_ids pure
  compared_all h = rw c.run (ended (drop i l) (drop i r) (simp length-drop (omega arith)))
    where
      ended : (x y : List ℕ) → min (length x) (length y) ≤ 0 → going true m ≡ same_ids x y m
      ended [] y h = refl
      ended (a ∷ x) [] h = refl
      ended (a ∷ x) (b ∷ y) h = absurd (omega arith)

  module _ {x y : ℕ} (p : i < length l) (q : i < length r) (ex : x ≡ get_or l i 0) (ey : y ≡ get_or r i 0) where
    pub compare_stopped : {s : Stop} {m' : Meter} → stopped s m' ≡ work 1 m → stopped s m' ≡ same_ids l r m₀
    unfolding same_ids
    compare_stopped h = rw (c.run, drop-cons l i 0 p, drop-cons r i 0 q) (then_stop (work 1) m _ h)

    pub compare_other : {m' : Meter} → going tt m' ≡ work 1 m → (x ≡ y → ⊥) → going false m' ≡ same_ids l r m₀
    unfolding same_ids
    compare_other h d = rw (c.run, drop-cons l i 0 p, drop-cons r i 0 q) (then_on (work 1) m _ h (no_on {t = eqb (get_or l i 0) (get_or r i 0)} _ _ _ (rw (← ex, ← ey) (ne_eqb x y d)) (pure_is false _)))

    pub compare_more : {m' : Meter} → going tt m' ≡ work 1 m → x ≡ y → Comparing l r m₀ (i + 1) m'
    unfolding same_ids ◌>>◌ ◌>>=◌ after
    compare_more h d =
        let e : get_or l i 0 ≡ get_or r i 0 = cc in
        record { run = c.run ∙ rw (drop-cons l i 0 p, drop-cons r i 0 q, ← h, eq-eqb (get_or l i 0) (get_or r i 0) e, add-one) }
