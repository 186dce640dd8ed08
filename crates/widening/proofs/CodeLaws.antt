-- What the code of widening answers is what the definitions say, over plain variables.
use Prim.Native.Nat.{ℕ, ◌+◌, ◌*◌, ◌≤◌, ◌<◌}
use native.Mathlib.Omega.{arith}
use native.Mathlib.Numerals.{add-one}
use mathlib.Core.Path.{◌≡◌, refl, sym, ap, subst, ◌∙◌}
use mathlib.Core.Bool.{Bool, true, false, cond}
use mathlib.Core.List.{List, [], ◌∷◌, reverse, reverse-append}
use borrow.Author.Tests.{lt-ltb, le-ltb}
use lib.Dec.{ltb}
use lib.IntN.{ℤ}
use lib.ListN.{length, get_or, set}
use Rattle.std.specs.List.{push}
use Rattle.std.specs.Prelude.{Option, Some, None}
use Rattle.limits.specs.declared.Stop.{Stop}
use Rattle.limits.specs.Metered.{Run, Metered, going, stopped, pure, ◌>>=◌, ◌>>◌}
use Rattle.limits.specs.declared.Meter.{Meter}
use Rattle.limits.specs.Meter.{work}
use Rattle.limits.proofs.Monad.{bind_stop, bind_on, pure_is}
use Rattle.limits.proofs.Onward.{Onward, onward_ends, onward_yes, onward_no, then_stops, then_goes}
use Rattle.interval.specs.declared.Interval.{Interval}
use Rattle.interval.specs.Interval.{endpoints_of}
use Rattle.widening.specs.declared.Growth.{Growth}
use Rattle.widening.specs.Places.{counted}
use Rattle.widening.specs.Widening.{growth, Side, side, wide, nearest, grow_side, widen_low, widen_high, with_ends, widen, growth_at, put_growth, no_growth}

-- ---- growth in its cells

module _ (cells : List ℕ) (k : ℕ) where
  pub growth_beyond : 256 ≤ k → growth 0 0 ≡ growth_at cells k
  unfolding growth_at
  growth_beyond h = rw (le-ltb k 256 h)

  pub growth_is : {low high : ℕ} → k < 256 → low ≡ get_or cells (2 * k) 0 → high ≡ get_or cells (2 * k + 1) 0 → growth low high ≡ growth_at cells k
  unfolding growth_at
  growth_is h p q = rw (lt-ltb k 256 h, p, q)

  module _ (g : Growth) where
    pub put_beyond : 256 ≤ k → cells ≡ put_growth cells k g
    unfolding put_growth
    put_beyond h = rw (le-ltb k 256 h)

    pub put_both : {m r : List ℕ} → k < 256 → m ≡ set cells (2 * k) g.low → r ≡ set m (2 * k + 1) g.high → r ≡ put_growth cells k g
    unfolding put_growth
    put_both h p q = q ∙ rw (lt-ltb k 256 h, p, add-one)

  pub clear_more : {m r : List ℕ} → m ≡ no_growth cells k → r ≡ put_growth m k (growth 0 0) → r ≡ no_growth cells (k + 1)
  unfolding no_growth
  clear_more p q = q ∙ rw (p, add-one)

-- ---- a search: `rest` is what is left of the whole

module _ (beyond : ℤ → Bool) (end : ℤ) (whole : List ℤ) {rest : List ℤ} {m t : Meter} (h : Onward (nearest beyond end whole) m (nearest beyond end rest) t) where
  pub seeking_none : rest ≡ [] → going end t ≡ nearest beyond end whole m
  unfolding nearest
  seeking_none q = onward_ends h (ap (nearest beyond end) q)

  module _ {x : ℤ} {l : List ℤ} (q : rest ≡ x ∷ l) where
    looks : nearest beyond end rest ≡ (work 1 >> cond (beyond x) (pure x) (nearest beyond end l))
    unfolding nearest
    looks = ap (nearest beyond end) q

    pub seeking_stops : {stop : Stop} {u : Meter} → stopped stop u ≡ work 1 t → stopped stop u ≡ nearest beyond end whole m
    seeking_stops k = then_stops h (work 1) _ looks k

    module _ {u : Meter} (k : going tt u ≡ work 1 t) where
      pub seeking_hits : beyond x ≡ true → going x u ≡ nearest beyond end whole m
      seeking_hits b = onward_ends (onward_yes (pure x) (nearest beyond end l) (then_goes h (work 1) _ looks k) b) refl

      pub seeking_passes : beyond x ≡ false → Onward (nearest beyond end whole) m (nearest beyond end l) u
      seeking_passes b = onward_no (pure x) (nearest beyond end l) (then_goes h (work 1) _ looks k) b

-- from the top: the last item first
pub last_first : {l : List ℤ} (rest : List ℤ) (x : ℤ) → l ≡ push rest x → reverse l ≡ x ∷ reverse rest
last_first rest x e = rw e (reverse-append rest (x ∷ []))

pub all_seen : (l : List ℤ) → length l ≡ 0 → reverse l ≡ []
all_seen [] e = refl
all_seen (x ∷ l) e = absurd (omega arith)

-- ---- a side, by what the code finds of it

module _ (stays : Bool) (end : ℤ) (grown : ℕ) (search : Metered Stop Meter ℤ) (m : Meter) where
  -- what is found says what comes of the side
  abbrev Told : Run Stop Meter Side → Option Side → Type 0
  Told x (Some s) = going s m ≡ x
  Told x None = (search >>= (λ z. pure (side z grown))) m ≡ x

  told : (b c : Bool) →
      Told (cond b (pure (side end grown)) (cond c (pure (side end (grown + 1))) (search >>= (λ z. pure (side z grown)))) m) (cond b (Some (side end grown)) (cond c (Some (side end (grown + 1))) None))
  told true c = pure_is _ _
  told false true = pure_is _ _
  told false false = refl

  pub side_kept : {s : Side} → Some s ≡ counted stays end grown → going s m ≡ grow_side stays end grown search m
  side_kept h = subst (Told (grow_side stays end grown search m)) (sym h) (told stays (ltb grown 2))

  module _ (h : None ≡ counted stays end grown) where
    sought : (search >>= (λ z. pure (side z grown))) m ≡ grow_side stays end grown search m
    sought = subst (Told (grow_side stays end grown search m)) (sym h) (told stays (ltb grown 2))

    pub side_stops : {stop : Stop} {t : Meter} → stopped stop t ≡ search m → stopped stop t ≡ grow_side stays end grown search m
    side_stops k = bind_stop search m _ k ∙ sought

    pub side_moves : {z : ℤ} {t : Meter} → going z t ≡ search m → going (side z grown) t ≡ grow_side stays end grown search m
    side_moves k = bind_on search m _ k (pure_is _ _) ∙ sought

-- ---- both sides

module _ (thresholds : List ℤ) (previous next : Interval) (g : Growth) (m : Meter) where
  pub widen_from_nothing : None ≡ endpoints_of previous → going (wide next g) m ≡ widen thresholds previous next g m
  unfolding widen
  widen_from_nothing p = rw (← p) (pure_is _ _)

  module _ {a b : ℤ} (p : Some (a, b) ≡ endpoints_of previous) where
    pub widen_to_nothing : None ≡ endpoints_of next → going (wide next g) m ≡ widen thresholds previous next g m
    unfolding widen
    widen_to_nothing q = rw (← p, ← q) (pure_is _ _)

    module _ {c d : ℤ} (q : Some (c, d) ≡ endpoints_of next) where
      pub widen_stops_low : {stop : Stop} {t : Meter} → stopped stop t ≡ widen_low thresholds a c g.low m → stopped stop t ≡ widen thresholds previous next g m
      unfolding widen
      widen_stops_low k = rw (← p, ← q) (bind_stop (widen_low thresholds a c g.low) m _ k)

      module _ {l : Side} {t : Meter} (k : going l t ≡ widen_low thresholds a c g.low m) where
        pub widen_stops_high : {stop : Stop} {u : Meter} → stopped stop u ≡ widen_high thresholds b d g.high t → stopped stop u ≡ widen thresholds previous next g m
        unfolding widen
        widen_stops_high j = rw (← p, ← q) (bind_on (widen_low thresholds a c g.low) m _ k (bind_stop (widen_high thresholds b d g.high) t _ j))

        pub widen_moves : {h : Side} {u : Meter} {i : Interval} → going h u ≡ widen_high thresholds b d g.high t → i ≡ with_ends next l.end h.end →
            going (wide i (growth l.grown h.grown)) u ≡ widen thresholds previous next g m
        unfolding widen
        widen_moves j e = rw (← p, ← q, e) (bind_on (widen_low thresholds a c g.low) m _ k (bind_on (widen_high thresholds b d g.high) t _ j (pure_is _ _)))
