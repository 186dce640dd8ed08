-- The key order holds exactly the retained constants, in the reader's order, so that a key has one id and the search for it is complete.
-- A new constant, retained or not, keeps it so.
use Prim.Native.Nat.{ℕ, zero, suc, ◌+◌, ◌-◌, ◌*◌, ◌≤◌, ◌<◌}
use native.Mathlib.Omega.{arith}
use native.Mathlib.Decide.{dec_lt}
use Rattle.std.proofs.Common.{Ok, Err}
use mathlib.Core.Path.{◌≡◌, refl, sym, ap, ◌∙◌}
use mathlib.Core.Logic.{inl, inr}
use mathlib.Core.Bool.{Bool, true, false, cond}
use mathlib.Core.List.{List, []}
use lib.Dec.{leb, ltb}
use lib.ListN.{length, get_or}
use Rattle.integers.specs.Order.{Number}
use Rattle.integers.specs.Lists.{inserted}
use Rattle.integers.proofs.ListLaws.{Compared, less, more, same, compared}
use Rattle.integers.proofs.Insertion.{inserted_below, inserted_at, inserted_above}
use Rattle.limits.specs.declared.Resource.TheVariants.{Work}
use Rattle.limits.specs.declared.Stop.{Stop}
use Rattle.limits.specs.Charge.{stop_of, charge_of}
use Rattle.limits.specs.Metered.{Run, going, stopped, Metered, pure, ◌>>◌}
use Rattle.limits.specs.declared.Meter.{Meter}
use Rattle.limits.specs.Meter.{with_work, charged, work}
use Rattle.limits.proofs.Monad.{Holds, Ensures, weaken}
use Rattle.limits.proofs.Ends.{Ends, completes, stops, ends_pure, ends_then}
use Rattle.std.specs.declared.cmp.Ordering.{Ordering}
use Rattle.std.specs.declared.cmp.Ordering.TheVariants.{Less, Equal, Greater}
use Rattle.search.specs.Seek.{Place, found, absent, by, middle, seek}
use Rattle.search.proofs.Total.{alike}
use Rattle.search.proofs.Complete as search
use Rattle.lattice.specs.Constants.{Retained}
use Rattle.keys.specs.Key.{Key, number, name, compare_keys, kind_at, payload_at, key_at, put_cells, put_name, probe, seek_key}
use Rattle.keys.proofs.CodecLaws.{number_back, name_back, kind_back, payload_back, kind_kept, payload_kept, cells_kept, name_kept}
use Rattle.keys.proofs.KeyOrder.{total_keys, Ordered, key_found, insert_keeps, write_keeps}
use Rattle.constants.specs.Constant.{bytes_of, kind_cell, payload_cell}

-- a number of 32 bits, or a name of at most 64 bytes
abbrev pub Proper : Key → Type 0
Proper (number v) = Number v
Proper (name s) = length s ≤ 64

-- the id stands at one of the first m places of the key order
abbrev pub Standing : List ℕ → ℕ → ℕ → Type 0
Standing order m id = (p : ℕ) × (p < m) × (get_or order p 0 ≡ id)

-- n constants stand, and m of them are retained
pub record Keyed (n m : ℕ) (names cells order : List ℕ) : Type 0 where
  pub fewer : m ≤ n
  -- the key order holds ids of retained constants, and their keys go up strictly
  pub inside : (p : ℕ) → p < m → get_or order p 0 < n
  pub held : (p : ℕ) → p < m → Retained cells (get_or order p 0)
  pub sorted : (p q : ℕ) → p < q → q < m → compare_keys (key_at names cells (get_or order p 0)) (key_at names cells (get_or order q 0)) ≡ Less
  -- all of them
  pub all : (id : ℕ) → id < n → Retained cells id → Standing order m id
  -- a constant is of kind 0, which is not retained, 1 or 2, and a name has at most 64 bytes
  pub kinds : (id : ℕ) → id < n → kind_at cells id ≤ 2
  pub short : (id : ℕ) → id < n → kind_at cells id ≡ 2 → payload_at cells id ≤ 64

-- whatever the tables hold
pub keyed_none : (names cells order : List ℕ) → Keyed 0 0 names cells order
keyed_none names cells order = record {
  fewer = omega arith;
  inside = λ p h. absurd (omega arith);
  held = λ p h. absurd (omega arith);
  sorted = λ p q h k. absurd (omega arith);
  all = λ id h r. absurd (omega arith);
  kinds = λ id h. absurd (omega arith);
  short = λ id h e. absurd (omega arith);
}

unretained : (cells : List ℕ) (id : ℕ) → kind_at cells id ≡ 0 → Retained cells id → ⊥
unretained cells id e (inl h) = omega arith
unretained cells id e (inr h) = omega arith

-- ---- a search is stopped by nothing but work

work_stops : (n : ℕ) (s : Meter) → Ends (λ _ _. Unit {0}) (λ e _. e.resource ≡ Work) (work n s)
unfolding work charge_of
work_stops n s = go (leb (s.work + n) s.max_work)
  where
    go : (t : Bool) → Ends (λ _ _. Unit {0}) (λ e _. e.resource ≡ Work) (charged (λ i. with_work i s) s (cond t (Ok (s.work + n)) (Err (stop_of Work s.max_work (s.work + n)))))
    go true = completes tt
    go false = stops refl

abbrev Worked : Metered Stop Meter Place → Type 0
Worked m = (s : Meter) → Ends (λ _ _. Unit {0}) (λ e _. e.resource ≡ Work) (m s)

by_stops : (o : Ordering) (x y z : Metered Stop Meter Place) → Worked x → Worked y → Worked z → Worked (by o x y z)
by_stops Less x y z f g h = f
by_stops Equal x y z f g h = g
by_stops Greater x y z f g h = h

turn_stops : (t : Bool) (low : ℕ) (m : Metered Stop Meter Place) → Worked m → Worked (cond t (work 1 >> m) (pure (absent low)))
turn_stops true low m h s = ends_then (work 1) m s (work_stops 1 s) (λ _ u _. h u) (λ e u f. f)
turn_stops false low m h s = ends_pure (absent low) s tt

seek_stops : (look : ℕ → Ordering) (turns low high : ℕ) → Worked (seek look turns low high)
unfolding seek
seek_stops look zero low high = λ s. ends_pure (absent low) s tt
seek_stops look (suc f) low high =
    turn_stops (ltb low high) low _
    (by_stops (look (middle low high)) _ _ _ (seek_stops look f (middle low high + 1) high) (λ s. ends_pure (found (middle low high)) s tt) (seek_stops look f low (middle low high)))

-- ---- a key has one id, and the search finds it

-- where the search for the key of an id ends: at a place of that id
abbrev pub Finds : List ℕ → ℕ → ℕ → Place → Type 0
Finds order m id (found p) = (p < m) × (get_or order p 0 ≡ id)
Finds order m id (absent low) = ⊥

module _ {n m : ℕ} (names cells order : List ℕ) (w : Keyed n m names cells order) where
  apart : (k : Key) (p q : ℕ) → p < q → q < m → key_at names cells (get_or order p 0) ≡ k → key_at names cells (get_or order q 0) ≡ k → ⊥
  apart k p q h l e f =
      let a : Less ≡ Equal = sym (w.sorted p q h l) ∙ alike total_keys _ _ (e ∙ sym f) in
      let z : ◌≡◌ {A = ℕ} 0 1 = cc in
      omega arith

  pub one_id : (k : Key) (i j : ℕ) → i < n → j < n → Retained cells i → Retained cells j → key_at names cells i ≡ k → key_at names cells j ≡ k → i ≡ j
  one_id k i j h l r s e f = go (w.all i h r) (w.all j l s)
    where
      go : Standing order m i → Standing order m j → i ≡ j
      go x y = by_place (compared x.0 y.0)
        where
          first : key_at names cells (get_or order x.0 0) ≡ k
          first = ap (key_at names cells) x.2 ∙ e

          second : key_at names cells (get_or order y.0 0) ≡ k
          second = ap (key_at names cells) y.2 ∙ f

          by_place : Compared x.0 y.0 → i ≡ j
          by_place (less b) = absurd (apart k x.0 y.0 b y.1 first second)
          by_place (more b) = absurd (apart k y.0 x.0 b x.1 second first)
          by_place (same b) = sym x.2 ∙ ap (λ (p : ℕ). get_or order p 0) b ∙ y.2

  finds : (k : Key) (id : ℕ) → id < n → Retained cells id → key_at names cells id ≡ k → Ensures (Finds order m id) (seek_key names cells order m k)
  finds k id h r e = go (w.all id h r)
    where
      go : Standing order m id → Ensures (Finds order m id) (seek_key names cells order m k)
      go x = weaken at_place (key_found names cells order m k w.sorted x.0 x.1 (ap (key_at names cells) x.2 ∙ e))
        where
          at_place : (p : Place) → p ≡ found x.0 → Finds order m id p
          at_place (found p) f = let g : p ≡ x.0 = cc in rw g (x.1, x.2)
          at_place (absent low) f = let z : ◌≡◌ {A = ℕ} 0 1 = cc in absurd (omega arith)

  -- from any meter it ends there, or is stopped for want of work
  pub search_complete : (k : Key) (id : ℕ) → id < n → Retained cells id → key_at names cells id ≡ k → (s : Meter) → Ends (λ p _. Finds order m id p) (λ e _. e.resource ≡ Work) (seek_key names cells order m k s)
  unfolding seek_key
  search_complete k id h r e s = go (seek_key names cells order m k s) ((finds k id h r e).at s) (seek_stops (probe names cells order k) m 0 m s)
    where
      go : (x : Run Stop Meter Place) → Holds (Finds order m id) x → Ends (λ _ _. Unit {0}) (λ e _. e.resource ≡ Work) x → Ends (λ p _. Finds order m id p) (λ e _. e.resource ≡ Work) x
      go (going p u) f g = completes f
      go (stopped x u) f (stops g) = stops g

-- ---- a new constant

-- what is written of it leaves the constants before it
module _ (cells : List ℕ) (n kind payload i : ℕ) (h : i < n) where
  pub old_kind : kind_at (put_cells cells n kind payload) i ≡ kind_at cells i
  old_kind = kind_kept cells n i kind payload (λ e. omega arith)

  pub old_payload : payload_at (put_cells cells n kind payload) i ≡ payload_at cells i
  old_payload = payload_kept cells n i kind payload (λ e. omega arith)

  pub old_key : (names text : List ℕ) → length text ≤ 64 → key_at (put_name names n text) (put_cells cells n kind payload) i ≡ key_at names cells i
  old_key names text few = name_kept names n i text few (λ e. omega arith) (put_cells cells n kind payload) ∙ cells_kept cells n i kind payload (λ e. omega arith) names

-- and its own key reads back
pub key_back : (names cells : List ℕ) (n : ℕ) (k : Key) → Proper k → 2 * n + 2 ≤ length cells → 64 * n + 64 ≤ length names →
    key_at (put_name names n (bytes_of k)) (put_cells cells n (kind_cell k) (payload_cell k)) n ≡ k
key_back names cells n (number v) p c l = number_back names cells n c v p
key_back names cells n (name s) p c l = name_back names cells n c s p (omega arith)

pub proper_bytes : (k : Key) → Proper k → length (bytes_of k) ≤ 64
proper_bytes (number v) p = omega arith
proper_bytes (name s) p = p

pub retained_new : (cells : List ℕ) (n : ℕ) (k : Key) → 2 * n + 2 ≤ length cells → Retained (put_cells cells n (kind_cell k) (payload_cell k)) n
retained_new cells n (number v) c = inl (kind_back cells n c 1 (payload_cell (number v)))
retained_new cells n (name s) c = inr (kind_back cells n c 2 (length s))

module _ (n m : ℕ) (names cells order : List ℕ) (w : Keyed n m names cells order) (c : 2 * n + 2 ≤ length cells) where
  -- its cells: all that `kinds` and `short` say of one id more
  module _ (kind payload : ℕ) where
    abbrev cells' : List ℕ
    cells' = put_cells cells n kind payload

    kinds_more : kind ≤ 2 → (i : ℕ) → i < n + 1 → kind_at cells' i ≤ 2
    kinds_more h i l = go (dec_lt i n)
      where
        go : Dec (i < n) → kind_at cells' i ≤ 2
        go (yes b) = rw (old_kind cells n kind payload i b) (w.kinds i b)
        go (no b) = let e : i ≡ n = omega arith in rw (e, kind_back cells n c kind payload) h

    short_more : (kind ≡ 2 → payload ≤ 64) → (i : ℕ) → i < n + 1 → kind_at cells' i ≡ 2 → payload_at cells' i ≤ 64
    short_more h i l f = go (dec_lt i n)
      where
        go : Dec (i < n) → payload_at cells' i ≤ 64
        go (yes b) = rw (old_payload cells n kind payload i b) (w.short i b (sym (old_kind cells n kind payload i b) ∙ f))
        go (no b) =
            let e : i ≡ n = omega arith in
            rw (e, payload_back cells n c kind payload) (h (sym (kind_back cells n c kind payload) ∙ ap (λ (j : ℕ). kind_at cells' j) (sym e) ∙ f))

  -- one that is not retained
  pub keyed_large : Keyed (n + 1) m names (put_cells cells n 0 0) order
  keyed_large = record {
    fewer = omega (arith, w.fewer);
    inside = λ p h. omega (arith, w.inside p h);
    held = λ p h. rw (old_kind cells n 0 0 (get_or order p 0) (w.inside p h)) (w.held p h);
    sorted = λ p q h k.
        rw (old_key cells n 0 0 (get_or order p 0) (w.inside p (omega arith)) names [] (omega arith), old_key cells n 0 0 (get_or order q 0) (w.inside q k) names [] (omega arith))
        (w.sorted p q h k);
    all = every;
    kinds = kinds_more 0 0 (omega arith);
    short = short_more 0 0 (λ e. omega arith);
  }
    where
      every : (i : ℕ) → i < n + 1 → Retained (put_cells cells n 0 0) i → Standing order m i
      every i h r = go (dec_lt i n)
        where
          go : Dec (i < n) → Standing order m i
          go (yes b) = w.all i b (rw (old_kind cells n 0 0 i b) at r)
          go (no b) = let e : i ≡ n = omega arith in absurd (unretained (put_cells cells n 0 0) n (kind_back cells n c 0 0) (rw e at r))

  -- one that is, where the search for its key ended
  module _ (k : Key) (proper : Proper k) (l : 64 * n + 64 ≤ length names) (o : m < length order) (low : ℕ) (ended : search.Ends (probe names cells order k) m (absent low)) where
    abbrev names₁ : List ℕ
    names₁ = put_name names n (bytes_of k)

    abbrev cells₁ : List ℕ
    cells₁ = put_cells cells n (kind_cell k) (payload_cell k)

    abbrev order₁ : List ℕ
    order₁ = inserted order low m n

    kind_old : (i : ℕ) → i < n → kind_at cells₁ i ≡ kind_at cells i
    kind_old i h = old_kind cells n (kind_cell k) (payload_cell k) i h

    key_old : (i : ℕ) → i < n → key_at names₁ cells₁ i ≡ key_at names cells i
    key_old i h = old_key cells n (kind_cell k) (payload_cell k) i h names (bytes_of k) (proper_bytes k proper)

    -- a place of the longer order has the new id, or one that stood
    data From (p : ℕ) : Type 0 where
      new : get_or order₁ p 0 ≡ n → From p
      old : (q : ℕ) → q < m → get_or order₁ p 0 ≡ get_or order q 0 → From p

    from : (p : ℕ) → p < m + 1 → From p
    from p h = go (compared p low)
      where
        go : Compared p low → From p
        go (less b) = old p (omega (arith, ended.0)) (inserted_below 0 order low m n p b)
        go (more b) =
            let e : (p - 1) + 1 ≡ p = omega arith in
            old (p - 1) (omega arith) (ap (λ (q : ℕ). get_or order₁ q 0) (sym e) ∙ inserted_above 0 order low m n ended.0 o (p - 1) (omega arith) (omega arith))
        go (same b) = new (ap (λ (q : ℕ). get_or order₁ q 0) b ∙ inserted_at 0 order low m n ended.0 o)

    inside₁ : (p : ℕ) → From p → get_or order₁ p 0 < n + 1
    inside₁ p (new e) = omega arith
    inside₁ p (old q h e) = omega (arith, w.inside q h)

    held₁ : (p : ℕ) → From p → Retained cells₁ (get_or order₁ p 0)
    held₁ p (new e) = rw e (retained_new cells n k c)
    held₁ p (old q h e) = rw (e, kind_old (get_or order q 0) (w.inside q h)) (w.held q h)

    sorted₁ : Ordered names₁ cells₁ order₁ (m + 1)
    sorted₁ =
        insert_keeps names₁ cells₁ order m k
        (write_keeps names cells order m n (kind_cell k) (payload_cell k) (bytes_of k) (proper_bytes k proper) (λ i h e. omega (arith, w.inside i h)) w.sorted)
        low n (
          ended.0,
          (λ i h. rw (key_old (get_or order i 0) (w.inside i (omega (arith, ended.0)))) (ended.1 i h)),
          (λ i h g. rw (key_old (get_or order i 0) (w.inside i g)) (ended.2 i h g)),
        )
        o (key_back names cells n k proper c l)

    stays : (i : ℕ) → Standing order m i → Standing order₁ (m + 1) i
    stays i x = go (dec_lt x.0 low)
      where
        go : Dec (x.0 < low) → Standing order₁ (m + 1) i
        go (yes b) = (x.0, omega (arith, x.1), inserted_below 0 order low m n x.0 b ∙ x.2)
        go (no b) = (x.0 + 1, omega (arith, x.1), inserted_above 0 order low m n ended.0 o x.0 (omega arith) x.1 ∙ x.2)

    every₁ : (i : ℕ) → i < n + 1 → Retained cells₁ i → Standing order₁ (m + 1) i
    every₁ i h r = go (dec_lt i n)
      where
        go : Dec (i < n) → Standing order₁ (m + 1) i
        go (yes b) = stays i (w.all i b (rw (kind_old i b) at r))
        go (no b) = let e : n ≡ i = omega arith in (low, omega (arith, ended.0), inserted_at 0 order low m n ended.0 o ∙ e)

    kind_few : (x : Key) → kind_cell x ≤ 2
    kind_few (number v) = omega arith
    kind_few (name s) = omega arith

    name_few : (x : Key) → Proper x → kind_cell x ≡ 2 → payload_cell x ≤ 64
    name_few (number v) p e = absurd (omega arith)
    name_few (name s) p e = p

    pub keyed_key : Keyed (n + 1) (m + 1) names₁ cells₁ order₁
    keyed_key = record {
      fewer = omega (arith, w.fewer);
      inside = λ p h. inside₁ p (from p h);
      held = λ p h. held₁ p (from p h);
      sorted = sorted₁;
      all = every₁;
      kinds = kinds_more (kind_cell k) (payload_cell k) (kind_few k);
      short = short_more (kind_cell k) (payload_cell k) (name_few k proper);
    }
