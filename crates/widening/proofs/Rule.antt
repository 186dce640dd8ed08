-- Widening is 01's rule (specs/Rule.antt), and nothing else is. Whatever the thresholds are, the new interval lies in what it gives.
use Prim.Native.Nat.{ℕ, suc, ◌+◌, ◌≤◌, ◌<◌}
use native.Mathlib.Omega.{arith}
use mathlib.Core.Path.{◌≡◌, refl, sym, ap, subst, ◌∙◌}
use mathlib.Core.Logic.{◌⊎◌, inl, inr, ⊎_elim}
use mathlib.Core.Bool.{Bool, true, false}
use mathlib.Core.List.Memᴰ
use mathlib.Core.List.{List, [], ◌∷◌, ◌++◌, reverse, reverse-cons, reverse-reverse, Memᴰ}
use borrow.Author.Tests.{ltb-true, ltb-false}
use lib.Dec.{ltb}
use lib.IntN.{ℤ, pos}
use lib.Signed.{le_z}
use lib.ListN.{length, get_or, take, length-take}
use lib.Seq.{get_or-take}
use Rattle.integers.specs.Order.{Le, Lt, Number, least32, greatest32}
use Rattle.integers.specs.Lists.{All}
use Rattle.integers.proofs.OrderLaws.{le_yes, le_no, le_antisym}
use Rattle.limits.specs.declared.Stop.{Stop}
use Rattle.limits.specs.Metered.{Metered, going, pure}
use Rattle.limits.specs.declared.Meter.{Meter}
use Rattle.limits.specs.Meter.{work}
use Rattle.limits.proofs.Monad.{Ensures, Steady, by_pure, by_test, weaken, bind, then, steady_pure, steady_test, steady_unit, steady_bind, steady_then}
use Rattle.limits.proofs.Live.{Lives, live_pure, live_test, live_bind, live_then, live_work}
use Rattle.interval.specs.declared.Interval.{Interval}
use Rattle.interval.specs.declared.Interval.TheVariants.{Bottom, Bounded, Unbounded}
use Rattle.std.specs.Prelude.{Option, Some, None}
use Rattle.std.proofs.lemmas.Option.{some_pair_parts}
use Rattle.interval.specs.Interval.{cousot, endpoints_of}
use Rattle.interval.specs.Proper.{Proper}
use Rattle.interval.specs.Cousot.{◌∋◌}
use Rattle.widening.specs.declared.Growth.{Growth}
use Rattle.widening.specs.Widening.{growth, Side, side, nearest, below, above, grow_side, widen_low, widen_high, Wide, wide, with_ends, widen_ends, widen}
use Rattle.widening.specs.Rule.{Rising, Which, lower, upper, AtOrBeyond, Grows, Stays, Nearest, MovesTo, Counted, Placed, ByRule}
use Rattle.widening.specs.Rule as rule

-- ---- the first `count` cells of a table that stand in order, as a list

pub rising_first : (t : List ℤ) (count : ℕ) → ((p q : ℕ) → p < q → q < count → Lt (get_or t p (pos 0)) (get_or t q (pos 0))) → Rising (take count t)
rising_first t count h = λ p q i j.
    let k : q < count = omega (arith, length-take count t) in
    rw (get_or-take count t p (pos 0) (omega arith), get_or-take count t q (pos 0) k) (h p q i k)

-- ---- lists in the order of a side: each later one is at or beyond

abbrev Outward : Which → List ℤ → Type 0
Outward s [] = Unit {0}
Outward s (t ∷ l) = ((u : ℤ) → Memᴰ u l → AtOrBeyond s t u) × Outward s l

place : {u : ℤ} (l : List ℤ) → Memᴰ u l → (i : ℕ) × (i < length l) × (get_or l i (pos 0) ≡ u)
place {u = u} [] x' = elim x' [ ]
place (t ∷ l) (Memᴰ.head e) = (0, omega arith, sym e)
place (t ∷ l) (Memᴰ.tail m) = let k = place l m in (suc k.0, omega (arith, k.1), k.2)

from_bottom : (l : List ℤ) → Rising l → Outward upper l
from_bottom [] r = tt
from_bottom (t ∷ l) r = (
  λ u m.
      let k = place l m in
      let o = r 0 (suc k.0) (omega arith) (omega (arith, k.1)) in
      let e = k.2 in
      subst (λ (v : ℤ). Le t v) e (omega arith),
  from_bottom l (λ p q i j. r (suc p) (suc q) (omega arith) (omega arith)),
)

in_reverse : {u : ℤ} (l : List ℤ) → Memᴰ u l → Memᴰ u (reverse l)
in_reverse {u = u} [] x' = elim x' [ ]
in_reverse (t ∷ l) (Memᴰ.head e) = rw (reverse-cons t l) (Memᴰ.append_right (reverse l) (Memᴰ.head e))
in_reverse (t ∷ l) (Memᴰ.tail m) = rw (reverse-cons t l) (Memᴰ.append_left (t ∷ []) (in_reverse l m))

reverse_in : {u : ℤ} (l : List ℤ) → Memᴰ u (reverse l) → Memᴰ u l
reverse_in {u} l m = subst (λ (r : List ℤ). Memᴰ u r) (reverse-reverse l) (in_reverse (reverse l) m)

one_more : (s : Which) (l : List ℤ) (t : ℤ) → Outward s l → ((u : ℤ) → Memᴰ u l → AtOrBeyond s u t) → Outward s (l ++ (t ∷ []))
one_more s [] t o h = (λ u m. absurd (Memᴰ.not-nil m), tt)
one_more s (a ∷ l) t o h = (
  λ u m.
      ⊎_elim (λ k. o.0 u k) (λ k. subst (λ (v : ℤ). AtOrBeyond s a v) (sym (Memᴰ.eq_of_singleton k)) (h a (Memᴰ.head refl)))
      (Memᴰ.append_cases l m),
  one_more s l t o.1 (λ u m. h u (Memᴰ.tail m)),
)

from_top : (l : List ℤ) → Outward upper l → Outward lower (reverse l)
from_top [] o = tt
from_top (t ∷ l) o = rw (reverse-cons t l) (one_more lower (reverse l) t (from_top l o.1) (λ u m. o.0 u (reverse_in l m)))

-- ---- a search gives the first that passes its test

data First (beyond : ℤ → Bool) (end : ℤ) : List ℤ → ℤ → Type 0 where
  here : {t : ℤ} {l : List ℤ} → beyond t ≡ true → First beyond end (t ∷ l) t
  further : {t z : ℤ} {l : List ℤ} → beyond t ≡ false → First beyond end l z → First beyond end (t ∷ l) z
  missed : First beyond end [] end

searched : (beyond : ℤ → Bool) (end : ℤ) (l : List ℤ) → Ensures (First beyond end l) (nearest beyond end l)
unfolding nearest
searched beyond end [] = by_pure end missed
searched beyond end (t ∷ l) = then (work 1) (by_test (beyond t) (λ e. by_pure t (here e)) (λ e. weaken (λ z h. further e h) (searched beyond end l)))

itself : (s : Which) (z : ℤ) → AtOrBeyond s z z
itself lower z = omega arith
itself upper z = omega arith

-- and where the test is that of a side
module _ (s : Which) {beyond : ℤ → Bool} {end : ℤ} (hits : (t : ℤ) → beyond t ≡ true → AtOrBeyond s end t) where
  first_beyond : {z : ℤ} {l : List ℤ} → First beyond end l z → AtOrBeyond s end z
  first_beyond (here {t} e) = hits t e
  first_beyond (further e h) = first_beyond h
  first_beyond missed = itself s end

  module _ (misses : (t : ℤ) → beyond t ≡ false → AtOrBeyond s end t → ⊥) where
    first_moves : {z : ℤ} (l : List ℤ) → Outward s l → First beyond end l z → MovesTo s l end z
    first_moves (t ∷ l) o (here e) = rule.nearest record {
      member = Memᴰ.head refl;
      beyond = hits t e;
      first = λ u m b. ⊎_elim (λ q. subst (λ (v : ℤ). AtOrBeyond s t v) (sym q) (itself s t)) (λ k. o.0 u k) (Memᴰ.cases_cons m);
    }
    first_moves {z} (t ∷ l) o (further e h) = go (first_moves l o.1 h)
      where
        not_first : {P : Type 0} {u : ℤ} → u ≡ t → AtOrBeyond s end u → P
        not_first q b = absurd (misses t e (subst (λ (v : ℤ). AtOrBeyond s end v) q b))

        go : MovesTo s l end z → MovesTo s (t ∷ l) end z
        go (rule.nearest n) = rule.nearest record {
          member = Memᴰ.tail n.member;
          beyond = n.beyond;
          first = λ u m b. ⊎_elim (λ q. not_first q b) (λ k. n.first u k b) (Memᴰ.cases_cons m);
        }
        go (rule.none n q) = rule.none (λ u m b. ⊎_elim (λ q. not_first q b) (λ k. n u k b) (Memᴰ.cases_cons m)) q
    first_moves [] o missed = rule.none (λ u m. absurd (Memᴰ.not-nil m)) refl

first_number : {beyond : ℤ → Bool} {end z : ℤ} (l : List ℤ) → All Number l → Number end → First beyond end l z → Number z
first_number (t ∷ l) h n (here e) = h.0
first_number (t ∷ l) h n (further e f) = first_number l h.1 n f
first_number [] h n missed = n

all_reverse : (P : ℤ → Type 0) (l : List ℤ) → All P l → All P (reverse l)
all_reverse P [] h = tt
all_reverse P (t ∷ l) h = rw (reverse-cons t l) (more (reverse l) (all_reverse P l h.1))
  where
    more : (m : List ℤ) → All P m → All P (m ++ (t ∷ []))
    more [] k = (h.0, tt)
    more (a ∷ m) k = (k.0, more m k.1)

-- ---- where a search of the thresholds ends: at or beyond, whatever they are; at the nearest, where they rise

record Reaches (s : Which) (thresholds : List ℤ) (end z : ℤ) : Type 0 where
  beyond : AtOrBeyond s end z
  number : All Number thresholds → Number end → Number z
  moves : Rising thresholds → MovesTo s thresholds end z

below_reaches : (thresholds : List ℤ) (low : ℤ) → Ensures (Reaches lower thresholds low) (below thresholds low)
unfolding below
below_reaches thresholds low = weaken reach (searched (λ t. le_z t low) low (reverse thresholds))
  where
    misses : (t : ℤ) → le_z t low ≡ false → Le t low → ⊥
    misses t e b = let h = le_no t low e in omega arith

    back : {z : ℤ} → MovesTo lower (reverse thresholds) low z → MovesTo lower thresholds low z
    back (rule.nearest n) = rule.nearest record { member = reverse_in thresholds n.member; beyond = n.beyond; first = λ u m b. n.first u (in_reverse thresholds m) b }
    back (rule.none n q) = rule.none (λ u m b. n u (in_reverse thresholds m) b) q

    reach : (z : ℤ) → First (λ t. le_z t low) low (reverse thresholds) z → Reaches lower thresholds low z
    reach z f = record {
      beyond = first_beyond lower (λ t e. le_yes t low e) f;
      number = λ h n. first_number (reverse thresholds) (all_reverse Number thresholds h) n f;
      moves = λ r. back (first_moves lower (λ t e. le_yes t low e) misses (reverse thresholds) (from_top thresholds (from_bottom thresholds r)) f);
    }

above_reaches : (thresholds : List ℤ) (high : ℤ) → Ensures (Reaches upper thresholds high) (above thresholds high)
unfolding above
above_reaches thresholds high = weaken reach (searched (λ t. le_z high t) high thresholds)
  where
    misses : (t : ℤ) → le_z high t ≡ false → Le high t → ⊥
    misses t e b = let h = le_no high t e in omega arith

    reach : (z : ℤ) → First (λ t. le_z high t) high thresholds z → Reaches upper thresholds high z
    reach z f = record {
      beyond = first_beyond upper (λ t e. le_yes high t e) f;
      number = λ h n. first_number thresholds h n f;
      moves = λ r. first_moves upper (λ t e. le_yes high t e) misses thresholds (from_bottom thresholds r) f;
    }

-- ---- a side, in three ways

data Becomes (s : Which) (thresholds : List ℤ) (old new : ℤ) (n : ℕ) : Side → Type 0 where
  stayed : Stays s old new → Becomes s thresholds old new n (side new n)
  counted : Grows s old new → n < 2 → Becomes s thresholds old new n (side new (n + 1))
  moved : {z : ℤ} → Grows s old new → 2 ≤ n → Reaches s thresholds new z → Becomes s thresholds old new n (side z n)

sided : (s : Which) (thresholds : List ℤ) (old new : ℤ) (n : ℕ) (stays : Bool) {search : Metered Stop Meter ℤ} → (stays ≡ true → Stays s old new) → (stays ≡ false → Grows s old new) →
    Ensures (Reaches s thresholds new) search → Ensures (Becomes s thresholds old new n) (grow_side stays new n search)
sided s thresholds old new n stays in_it out_of_it h =
    by_test stays (λ e. by_pure _ (stayed (in_it e)))
    (λ e.
    by_test (ltb n 2) (λ f. by_pure _ (counted (out_of_it e) (ltb-true n 2 f)))
    (λ f. bind h (λ z r. by_pure _ (moved (out_of_it e) (ltb-false n 2 f) r))))

low_becomes : (thresholds : List ℤ) (old low : ℤ) (n : ℕ) → Ensures (Becomes lower thresholds old low n) (widen_low thresholds old low n)
unfolding widen_low
low_becomes thresholds old low n = sided lower thresholds old low n (le_z old low) (λ e. le_yes old low e) (λ e. le_no old low e) (below_reaches thresholds low)

high_becomes : (thresholds : List ℤ) (old high : ℤ) (n : ℕ) → Ensures (Becomes upper thresholds old high n) (widen_high thresholds old high n)
unfolding widen_high
high_becomes thresholds old high n = sided upper thresholds old high n (le_z high old) (λ e. le_yes high old e) (λ e. le_no high old e) (above_reaches thresholds high)

-- a side does not both grow and stay
not_both : {P : Type 0} (s : Which) (old new : ℤ) → Grows s old new → Stays s old new → P
not_both lower old new g h = absurd (omega arith)
not_both upper old new g h = absurd (omega arith)

module _ {s : Which} {thresholds : List ℤ} {old new : ℤ} {n : ℕ} where
  side_beyond : {r : Side} → Becomes s thresholds old new n r → AtOrBeyond s new r.end
  side_beyond (stayed h) = itself s new
  side_beyond (counted g k) = itself s new
  side_beyond (moved g k h) = h.beyond

  side_number : {r : Side} → All Number thresholds → Number new → Becomes s thresholds old new n r → Number r.end
  side_number a b (stayed h) = b
  side_number a b (counted g k) = b
  side_number a b (moved g k h) = h.number a b

  side_counted : {r : Side} → Becomes s thresholds old new n r → Counted s old new n r.grown
  side_counted (stayed h) = record { stays = λ _. refl; early = λ g _. not_both s old new g h; late = λ _ _. refl }
  side_counted (counted g k) = record { stays = λ h. not_both s old new g h; early = λ _ _. refl; late = λ _ l. absurd (omega arith) }
  side_counted (moved g k h) = record { stays = λ _. refl; early = λ _ l. absurd (omega arith); late = λ _ _. refl }

  side_placed : {r : Side} → Rising thresholds → Becomes s thresholds old new n r → Placed s thresholds old new n r.end
  side_placed o (stayed h) = record { stays = λ _. refl; early = λ _ _. refl; late = λ g _. not_both s old new g h }
  side_placed o (counted g k) = record { stays = λ _. refl; early = λ _ _. refl; late = λ _ l. absurd (omega arith) }
  side_placed o (moved g k h) = record { stays = λ i. not_both s old new g i; early = λ _ l. absurd (omega arith); late = λ _ _. h.moves o }

-- ---- both sides

ends_same : {a b c d : ℤ} {o : Option (ℤ × ℤ)} → o ≡ Some (a, b) → o ≡ Some (c, d) → (a ≡ c) × (b ≡ d)
ends_same e f = some_pair_parts _ _ _ _ (sym e ∙ f)

module _ (thresholds : List ℤ) (next : Interval) (g : Growth) where
  data Ways : Option (ℤ × ℤ) → Option (ℤ × ℤ) → Wide → Type 0 where
    from_nothing : {n : Option (ℤ × ℤ)} → Ways None n (wide next g)
    to_nothing : {a b : ℤ} → Ways (Some (a, b)) None (wide next g)
    both : {a b c d : ℤ} {l h : Side} → Becomes lower thresholds a c g.low l → Becomes upper thresholds b d g.high h →
        Ways (Some (a, b)) (Some (c, d)) (wide (with_ends next l.end h.end) (growth l.grown h.grown))

  ends_ways : (p n : Option (ℤ × ℤ)) → Ensures (Ways p n) (widen_ends thresholds next g p n)
  ends_ways None n = by_pure _ from_nothing
  ends_ways (Some (a, b)) None = by_pure _ to_nothing
  ends_ways (Some (a, b)) (Some (c, d)) = bind (low_becomes thresholds a c g.low) (λ l p. bind (high_becomes thresholds b d g.high) (λ h q. by_pure _ (both p q)))

module _ (thresholds : List ℤ) (previous next : Interval) (g : Growth) where
  ways : Ensures (Ways thresholds next g (endpoints_of previous) (endpoints_of next)) (widen thresholds previous next g)
  unfolding widen
  ways = ends_ways thresholds next g (endpoints_of previous) (endpoints_of next)

  -- ---- 01's rule

  by_rule : Rising thresholds → {p n : Option (ℤ × ℤ)} {w : Wide} → endpoints_of previous ≡ p → endpoints_of next ≡ n → Ways thresholds next g p n w → ByRule thresholds previous next g w
  by_rule r ep en from_nothing = record {
    empty = λ _. refl;
    counts = λ e _. let z : ◌≡◌ {A = ℕ} 0 1 = cc in absurd (omega arith);
    places = λ e _. let z : ◌≡◌ {A = ℕ} 0 1 = cc in absurd (omega arith);
    unbounded = λ e. e;
  }
  by_rule r ep en to_nothing = record {
    empty = λ _. refl;
    counts = λ _ e. let z : ◌≡◌ {A = ℕ} 0 1 = cc in absurd (omega arith);
    places = λ _ e. let f = ap endpoints_of e in let z : ◌≡◌ {A = ℕ} 0 1 = cc in absurd (omega arith);
    unbounded = λ e. e;
  }
  by_rule r ep en (both {a} {b} {c} {d} {l} {h} p q) = record {
    empty = λ e. ⊎_elim
        (λ k. let f = ap endpoints_of k in let z : ◌≡◌ {A = ℕ} 0 1 = cc in absurd (omega arith))
        (λ k. let f = ap endpoints_of k in let z : ◌≡◌ {A = ℕ} 0 1 = cc in absurd (omega arith))
        e;
    counts = λ {a = a'} {b = b'} {c = c'} {d = d'} e f.
        let ea : a ≡ a' = (ends_same ep e).0 in
        let eb : b ≡ b' = (ends_same ep e).1 in
        let ec : c ≡ c' = (ends_same en f).0 in
        let ed : d ≡ d' = (ends_same en f).1 in
        record { low = rw (ea, ec) at (side_counted p); high = rw (eb, ed) at (side_counted q) };
    places = λ {a = a'} {b = b'} {c = c'} {d = d'} e k.
        let f = ap endpoints_of k in
        let ea : a ≡ a' = (ends_same ep e).0 in
        let eb : b ≡ b' = (ends_same ep e).1 in
        let ec : c ≡ c' = (ends_same en f).0 in
        let ed : d ≡ d' = (ends_same en f).1 in
        record { low = l.end; high = h.end; is = rw k; lows = rw (ea, ec) at (side_placed r p); highs = rw (eb, ed) at (side_placed r q) };
    unbounded = λ k. rw k;
  }

  pub widen_by_rule : Rising thresholds → Ensures (ByRule thresholds previous next g) (widen thresholds previous next g)
  widen_by_rule r = weaken (λ w k. by_rule r refl refl k) ways

  -- ---- "if either interval is empty the new one is returned, uncounted", and nothing is charged

  pub widen_empty : (previous ≡ Bottom) ⊎ (next ≡ Bottom) → (m : Meter) → widen thresholds previous next g m ≡ going (wide next g) m
  unfolding widen pure
  widen_empty e m = ⊎_elim (λ k. rw k) (λ k. rw k (to_bottom (endpoints_of previous))) e
    where
      to_bottom : (p : Option (ℤ × ℤ)) → widen_ends thresholds Bottom g p None m ≡ going (wide Bottom g) m
      to_bottom None = refl
      to_bottom (Some (a, b)) = refl

  -- ---- whatever the thresholds are, every number of the new interval is in the result

  have : {p n : Option (ℤ × ℤ)} {w : Wide} → endpoints_of next ≡ n → Ways thresholds next g p n w → (k : ℤ) → cousot next ∋ k → cousot w.interval ∋ k
  have en from_nothing k m = m
  have en to_nothing k m = m
  have en (both {c = c} {d = d} {l = l} {h = h} p q) k m = go next en m
    where
      go : (i : Interval) → endpoints_of i ≡ Some (c, d) → cousot i ∋ k → cousot (with_ends i l.end h.end) ∋ k
      go Bottom e m = m
      go (Bounded x y) e m =
          let ex : c ≡ x = (ends_same e refl).0 in
          let ey : d ≡ y = (ends_same e refl).1 in
          let lo : Le l.end x = rw ex at (side_beyond p) in
          let hi : Le y h.end = rw ey at (side_beyond q) in
          (omega (arith, m.0), omega (arith, m.1))
      go Unbounded e m = (tt, tt)

  pub widen_contains : Ensures (λ w. (k : ℤ) → cousot next ∋ k → cousot w.interval ∋ k) (widen thresholds previous next g)
  widen_contains = weaken (λ w h. have refl h) ways

-- ---- and its ends are numbers of 32 bits that ascend, if those of the new interval are and the thresholds are numbers

module _ (thresholds : List ℤ) (previous next : Interval) (g : Growth) where
  proper : All Number thresholds → Proper next → {p n : Option (ℤ × ℤ)} {w : Wide} → endpoints_of next ≡ n → Ways thresholds next g p n w → Proper w.interval
  proper a i en from_nothing = i
  proper a i en to_nothing = i
  proper a i en (both {c = c} {d = d} {l = l} {h = h} p q) = go next i en
    where
      go : (i : Interval) → Proper i → endpoints_of i ≡ Some (c, d) → Proper (with_ends i l.end h.end)
      go Bottom k e = tt
      go (Bounded x y) k e =
          let ex : x ≡ c = (ends_same refl e).0 in
          let ey : y ≡ d = (ends_same refl e).1 in
          let lo = side_beyond p in
          let hi = side_beyond q in
          let o : Le c d = rw (ex, ey) at k.1.1 in
          (side_number a (rw ex at k.0) p, (side_number a (rw ey at k.1.0) q, omega arith))
      go Unbounded k e = tt

  pub widen_proper : All Number thresholds → Proper next → Ensures (λ w. Proper w.interval) (widen thresholds previous next g)
  widen_proper a i = weaken (λ w h. proper a i refl h) (ways thresholds previous next g)

-- ---- the meter decides only whether it completes, and no entries are charged

nearest_steady : (beyond : ℤ → Bool) (end : ℤ) (l : List ℤ) → Steady (nearest beyond end l)
unfolding nearest
nearest_steady beyond end [] = steady_pure end
nearest_steady beyond end (t ∷ l) = steady_then (steady_unit (work 1)) (steady_test (beyond t) (λ _. steady_pure t) (λ _. nearest_steady beyond end l))

nearest_lives : (beyond : ℤ → Bool) (end : ℤ) (l : List ℤ) → Lives 0 (λ _. 0) (nearest beyond end l)
unfolding nearest
nearest_lives beyond end [] = live_pure 0 end refl
nearest_lives beyond end (t ∷ l) = live_then (live_work 1) (live_test (beyond t) (λ _. live_pure 0 t refl) (λ _. nearest_lives beyond end l))

module _ (stays : Bool) (end : ℤ) (grown : ℕ) {search : Metered Stop Meter ℤ} where
  grow_steady : Steady search → Steady (grow_side stays end grown search)
  grow_steady h = steady_test stays (λ _. steady_pure _) (λ _. steady_test (ltb grown 2) (λ _. steady_pure _) (λ _. steady_bind h (λ z. steady_pure _)))

  grow_lives : Lives 0 (λ _. 0) search → Lives 0 (λ _. 0) (grow_side stays end grown search)
  grow_lives h = live_test stays (λ _. live_pure 0 _ refl) (λ _. live_test (ltb grown 2) (λ _. live_pure 0 _ refl) (λ _. live_bind h (λ z. live_pure 0 _ refl)))

module _ (thresholds : List ℤ) (previous next : Interval) (g : Growth) where
  pub widen_steady : Steady (widen thresholds previous next g)
  unfolding widen widen_low widen_high below above
  widen_steady = go (endpoints_of previous) (endpoints_of next)
    where
      go : (p n : Option (ℤ × ℤ)) → Steady (widen_ends thresholds next g p n)
      go None n = steady_pure _
      go (Some (a, b)) None = steady_pure _
      go (Some (a, b)) (Some (c, d)) =
          steady_bind (grow_steady (le_z a c) c g.low (nearest_steady (λ t. le_z t c) c (reverse thresholds)))
          (λ l. steady_bind (grow_steady (le_z d b) d g.high (nearest_steady (λ t. le_z d t) d thresholds)) (λ h. steady_pure _))

  pub widen_lives : Lives 0 (λ _. 0) (widen thresholds previous next g)
  unfolding widen widen_low widen_high below above
  widen_lives = go (endpoints_of previous) (endpoints_of next)
    where
      go : (p n : Option (ℤ × ℤ)) → Lives 0 (λ _. 0) (widen_ends thresholds next g p n)
      go None n = live_pure 0 _ refl
      go (Some (a, b)) None = live_pure 0 _ refl
      go (Some (a, b)) (Some (c, d)) =
          live_bind (grow_lives (le_z a c) c g.low (nearest_lives (λ t. le_z t c) c (reverse thresholds)))
          (λ l. live_bind (grow_lives (le_z d b) d g.high (nearest_lives (λ t. le_z d t) d thresholds)) (λ h. live_pure 0 _ refl))

-- ---- in a run both ends of 32 bits are thresholds: a side that moves finds one

pub moves_nearest : (s : Which) {thresholds : List ℤ} {end z : ℤ} → Memᴰ least32 thresholds → Memᴰ greatest32 thresholds → Number end →
    MovesTo s thresholds end z → Nearest s thresholds end z
moves_nearest s l h n (rule.nearest k) = k
moves_nearest lower l h n (rule.none k e) = absurd (k least32 l n.0)
moves_nearest upper l h n (rule.none k e) = absurd (k greatest32 h n.1)

-- ---- the rule leaves nothing open

alike : (s : Which) {a b : ℤ} → AtOrBeyond s a b → AtOrBeyond s b a → a ≡ b
alike lower {a} {b} p q = le_antisym a b q p
alike upper {a} {b} p q = le_antisym a b p q

one_place : (s : Which) {thresholds : List ℤ} {end y z : ℤ} → MovesTo s thresholds end y → MovesTo s thresholds end z → y ≡ z
one_place s {y = y} {z = z} (rule.nearest j) (rule.nearest k) = alike s (j.first z k.member k.beyond) (k.first y j.member j.beyond)
one_place s {y = y} (rule.nearest j) (rule.none k e) = absurd (k y j.member j.beyond)
one_place s {z = z} (rule.none j e) (rule.nearest k) = absurd (j z k.member k.beyond)
one_place s (rule.none j e) (rule.none k f) = e ∙ sym f

-- a side stays, or grows early or late
data Turn (s : Which) (old new : ℤ) (n : ℕ) : Type 0 where
  stay : Stays s old new → Turn s old new n
  early : Grows s old new → n < 2 → Turn s old new n
  late : Grows s old new → 2 ≤ n → Turn s old new n

turn : (s : Which) (old new : ℤ) (n : ℕ) → Turn s old new n
turn s old new n = go s
  where
    by : (s : Which) (t u : Bool) → (t ≡ true → Stays s old new) → (t ≡ false → Grows s old new) → ltb n 2 ≡ u → Turn s old new n
    by s true u p q e = stay (p refl)
    by s false true p q e = early (q refl) (ltb-true n 2 e)
    by s false false p q e = late (q refl) (ltb-false n 2 e)

    go : (s : Which) → Turn s old new n
    go lower = by lower (le_z old new) (ltb n 2) (λ e. le_yes old new e) (λ e. le_no old new e) refl
    go upper = by upper (le_z new old) (ltb n 2) (λ e. le_yes new old e) (λ e. le_no new old e) refl

module _ {s : Which} {old new : ℤ} {n : ℕ} where
  one_count : {m k : ℕ} → Counted s old new n m → Counted s old new n k → m ≡ k
  one_count {m} {k} p q = go (turn s old new n)
    where
      go : Turn s old new n → m ≡ k
      go (stay h) = p.stays h ∙ sym (q.stays h)
      go (early g h) = p.early g h ∙ sym (q.early g h)
      go (late g h) = p.late g h ∙ sym (q.late g h)

  one_end : {thresholds : List ℤ} {y z : ℤ} → Placed s thresholds old new n y → Placed s thresholds old new n z → y ≡ z
  one_end {y} {z} p q = go (turn s old new n)
    where
      go : Turn s old new n → y ≡ z
      go (stay h) = p.stays h ∙ sym (q.stays h)
      go (early g h) = p.early g h ∙ sym (q.early g h)
      go (late g h) = one_place s (p.late g h) (q.late g h)

same_wide : (v w : Wide) → v.interval ≡ w.interval → v.growth.low ≡ w.growth.low → v.growth.high ≡ w.growth.high → v ≡ w
same_wide v w e f h =
    ap (λ (i : Interval). wide i v.growth) e
    ∙ ap (λ (n : ℕ). wide w.interval (growth n v.growth.high)) f
    ∙ ap (λ (n : ℕ). wide w.interval (growth w.growth.low n)) h

module _ {thresholds : List ℤ} {g : Growth} {v w : Wide} where
  pub rule_one : (previous next : Interval) → ByRule thresholds previous next g v → ByRule thresholds previous next g w → v ≡ w
  rule_one previous next p q = go previous next p q
    where
      sides : (i j : Interval) {a b c d : ℤ} → ByRule thresholds i j g v → ByRule thresholds i j g w → endpoints_of i ≡ Some (a, b) → endpoints_of j ≡ Some (c, d) → v.interval ≡ w.interval → v ≡ w
      sides i j p q e f h =
          let m = p.counts e f in
          let n = q.counts e f in
          same_wide v w h (one_count m.low n.low) (one_count m.high n.high)

      bounded : (i : Interval) {a b c d : ℤ} → endpoints_of i ≡ Some (a, b) → ByRule thresholds i (Bounded c d) g v → ByRule thresholds i (Bounded c d) g w → v ≡ w
      bounded i {c = c} {d = d} e p q =
          let m = p.places e refl in
          let n = q.places e refl in
          let x = one_end m.lows n.lows in
          let y = one_end m.highs n.highs in
          sides i (Bounded c d) p q e refl (m.is ∙ (rw (x, y) (sym n.is)))

      unbounded : (i : Interval) {a b : ℤ} → endpoints_of i ≡ Some (a, b) → ByRule thresholds i Unbounded g v → ByRule thresholds i Unbounded g w → v ≡ w
      unbounded i e p q = sides i Unbounded p q e refl (p.unbounded refl ∙ sym (q.unbounded refl))

      go : (i j : Interval) → ByRule thresholds i j g v → ByRule thresholds i j g w → v ≡ w
      go Bottom j p q = p.empty (inl refl) ∙ sym (q.empty (inl refl))
      go (Bounded a b) Bottom p q = p.empty (inr refl) ∙ sym (q.empty (inr refl))
      go Unbounded Bottom p q = p.empty (inr refl) ∙ sym (q.empty (inr refl))
      go (Bounded a b) (Bounded c d) p q = bounded (Bounded a b) refl p q
      go Unbounded (Bounded c d) p q = bounded Unbounded refl p q
      go (Bounded a b) Unbounded p q = unbounded (Bounded a b) refl p q
      go Unbounded Unbounded p q = unbounded Unbounded refl p q
