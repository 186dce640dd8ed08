-- The two loops of a meet, over plain lists and counts: what stays of a list, and the hull of what it holds.
use Prim.Native.Nat.{ℕ, ◌+◌, ◌<◌, ◌≤◌}
use native.Mathlib.Omega.{arith}
use native.Mathlib.Numerals.{add-one}
use mathlib.Core.Path.{◌≡◌, refl, sym, ◌∙◌}
use mathlib.Core.Bool.{true, false}
use mathlib.Core.List.{List, [], ◌∷◌, ◌++◌}
use lib.ListN.{length, drop, get_or, length-append, drop_of_length-le}
use lib.Seq.{drop-cons}
use Rattle.limits.specs.declared.Stop.{Stop}
use Rattle.limits.specs.Metered.{going, stopped, Metered, pure, after, ◌>>=◌, ◌>>◌, fold_m}
use Rattle.limits.specs.declared.Meter.{Meter}
use Rattle.limits.specs.Meter.{work, holding}
use Rattle.limits.proofs.Monad.{bind_stop, bind_on, then_stop, then_on, pure_is}
use Rattle.interval.specs.declared.Bound.{Bound}
use Rattle.interval.specs.Bound.{bottom_bound, constant_bound, hull_bound, meet_bound}
use Rattle.lattice.specs.Value.{Value}
use Rattle.lattice.specs.Constants.{constant_at}
use Rattle.lattice.specs.Lattice.{keep_one, sift, reduce}

-- ---- what stays

-- of the first i ids some are kept, and the sifting begun at m₀ is that of what is left from i on
pub record Sifting (u v : Value) (b : Bound) (cs l : List ℕ) (m₀ : Meter) (kept : List ℕ) (i : ℕ) (m : Meter) : Type 0 where
  pub few : length kept ≤ i
  pub run : sift u v b cs [] l m₀ ≡ sift u v b cs kept (drop i l) m

module _ (u v : Value) (b : Bound) (cs l : List ℕ) (m₀ : Meter) where
  pub sifting : (kept : List ℕ) → kept ≡ [] → Sifting u v b cs l m₀ kept 0 m₀
  sifting kept e = rw e (record { few = omega arith; run = refl })

  module _ (kept : List ℕ) (i : ℕ) (m : Meter) (h : Sifting u v b cs l m₀ kept i m) where
    pub sift_done : length l ≤ i → going kept m ≡ sift u v b cs [] l m₀
    unfolding sift pure
    sift_done p = rw (h.run, drop_of_length-le l p)

    module _ {x n : ℕ} (p : i < length l) (ex : x ≡ get_or l i 0) (k : n ≡ length kept) {m' : Meter} where
      pub sift_stopped : {s : Stop} → stopped s m' ≡ keep_one u v b cs n x m → stopped s m' ≡ sift u v b cs [] l m₀
      unfolding sift
      sift_stopped {s} t = rw (h.run, drop-cons l i 0 p) (bind_stop (keep_one u v b cs (length kept) (get_or l i 0)) m _ {e = s} {t = m'} (rw (← k, ← ex) t))

      pub sift_left : going false m' ≡ keep_one u v b cs n x m → Sifting u v b cs l m₀ kept (i + 1) m'
      unfolding sift ◌>>=◌ after
      sift_left t = record { few = omega (arith, h.few); run = h.run ∙ rw (drop-cons l i 0 p, ← k, ← ex, ← t, add-one) }

      pub sift_taken : {kept' : List ℕ} → going true m' ≡ keep_one u v b cs n x m → kept' ≡ kept ++ (x ∷ []) → Sifting u v b cs l m₀ kept' (i + 1) m'
      unfolding sift ◌>>=◌ after
      sift_taken t q = rw q (record { few = simp length-append (omega (arith, h.few)); run = h.run ∙ rw (drop-cons l i 0 p, ← k, ← ex, ← t, add-one) })

-- ---- the hull of what a list holds

module _ (cs kept : List ℕ) where
  abbrev pub hulling : Bound → ℕ → Metered Stop Meter Bound
  hulling = λ h i. holding (length kept) (work 1) >> pure (hull_bound h (constant_bound (constant_at cs i)))

  -- h is the hull of the first i constants, and the hulls begun at m₀ go on from there
  pub record Hulling (m₀ : Meter) (h : Bound) (i : ℕ) (m : Meter) : Type 0 where
    pub run : fold_m hulling bottom_bound kept m₀ ≡ fold_m hulling h (drop i kept) m

  pub hull_begun : (m : Meter) → Hulling m bottom_bound 0 m
  hull_begun m = record { run = refl }

  module _ (b : Bound) (m₀ : Meter) (h : Bound) (i : ℕ) (m : Meter) (c : Hulling m₀ h i m) where
    pub hull_done : {b' : Bound} → length kept ≤ i → b' ≡ meet_bound b h → going b' m ≡ reduce b cs kept m₀
    unfolding reduce fold_m
    hull_done k q = rw q (bind_on _ _ _ (rw (c.run, drop_of_length-le kept k) (pure_is _ _)) (pure_is _ _))

    next_id : i < length kept → drop i kept ≡ get_or kept i 0 ∷ drop (i + 1) kept
    next_id k = rw (add-one, drop-cons kept i 0 k)

    module _ (k : i < length kept) {m' : Meter} where
      pub hull_stopped : {s : Stop} → stopped s m' ≡ holding (length kept) (work 1) m → stopped s m' ≡ reduce b cs kept m₀
      unfolding reduce fold_m
      hull_stopped p = bind_stop _ _ _ (rw (c.run, drop-cons kept i 0 k) (bind_stop _ _ _ (then_stop _ _ _ p)))

      pub hull_more : {h' : Bound} → going tt m' ≡ holding (length kept) (work 1) m → h' ≡ hull_bound h (constant_bound (constant_at cs (get_or kept i 0))) → Hulling m₀ h' (i + 1) m'
      unfolding fold_m
      hull_more p q = record { run = c.run ∙ rw (next_id k, q) (sym (bind_on _ _ _ (then_on _ _ _ p (pure_is _ _)) refl)) }
