-- The reader's order of keys is total, so the search in a key order that goes up strictly is complete.
use Prim.Native.Nat.{ℕ, ◌+◌, ◌≤◌, ◌<◌}
use native.Mathlib.Omega.{arith}
use mathlib.Core.Path.{◌≡◌, refl, sym, ap, ap₂, ◌∙◌}
use mathlib.Core.Logic.{◌↔◌}
use mathlib.Core.List.{List, [], ◌∷◌}
use lib.ListN.{length, get_or}
use Rattle.integers.specs.Lists.{inserted}
use Rattle.integers.proofs.ListLaws.{Compared, less, more, same, compared}
use Rattle.limits.proofs.Monad.{Ensures, weaken}
use Rattle.std.specs.declared.cmp.Ordering.TheVariants.{Less, Equal, Greater}
use Rattle.search.specs.Seek.{found, absent}
use Rattle.search.proofs.Turns.{is_less, is_greater, is_equal}
use Rattle.search.proofs.Total.{turn, Total, Sorted, before_turn, after_turn, alike, rising, Gap, gap, its_place, inserted_sorted}
use Rattle.search.proofs.Integers.{total_ℤ}
use Rattle.search.proofs.Complete.{Rising, Ends, search_ends, enough}
use Rattle.keys.specs.Key.{Key, number, name, compare_bytes, compare_keys, key_at, put_cells, put_name, probe, seek_key}
use Rattle.keys.proofs.CodecLaws.{cells_kept, name_kept}

-- ---- names

module _ (x y : ℕ) (xs ys : List ℕ) where
  head_less : x < y → compare_bytes (x ∷ xs) (y ∷ ys) ≡ Less
  unfolding compare_bytes
  head_less h = rw (is_less x y h)

  head_greater : y < x → compare_bytes (x ∷ xs) (y ∷ ys) ≡ Greater
  unfolding compare_bytes
  head_greater h = rw (is_greater x y h)

  head_equal : x ≡ y → compare_bytes (x ∷ xs) (y ∷ ys) ≡ compare_bytes xs ys
  unfolding compare_bytes
  head_equal h = rw (is_equal x y (omega arith) (omega arith))

turned_bytes : (a b : List ℕ) → compare_bytes b a ≡ turn (compare_bytes a b)
unfolding compare_bytes
turned_bytes [] [] = refl
turned_bytes [] (y ∷ ys) = refl
turned_bytes (x ∷ xs) [] = refl
turned_bytes (x ∷ xs) (y ∷ ys) = go (compared x y) (turned_bytes xs ys)
  where
    go : Compared x y → compare_bytes ys xs ≡ turn (compare_bytes xs ys) → compare_bytes (y ∷ ys) (x ∷ xs) ≡ turn (compare_bytes (x ∷ xs) (y ∷ ys))
    go (less h) r = head_greater y x ys xs h ∙ sym (ap turn (head_less x y xs ys h))
    go (more h) r = head_less y x ys xs h ∙ sym (ap turn (head_greater x y xs ys h))
    go (same h) r = head_equal y x ys xs (sym h) ∙ r ∙ sym (ap turn (head_equal x y xs ys h))

equal_bytes : (a b : List ℕ) → compare_bytes a b ≡ Equal → a ≡ b
unfolding compare_bytes
equal_bytes [] [] e = refl
equal_bytes [] (y ∷ ys) e = let z : ◌≡◌ {A = ℕ} 0 1 = cc in absurd (omega arith)
equal_bytes (x ∷ xs) [] e = let z : ◌≡◌ {A = ℕ} 0 1 = cc in absurd (omega arith)
equal_bytes (x ∷ xs) (y ∷ ys) e = go (compared x y) (equal_bytes xs ys)
  where
    go : Compared x y → (compare_bytes xs ys ≡ Equal → xs ≡ ys) → x ∷ xs ≡ y ∷ ys
    go (less h) r = let f = sym (head_less x y xs ys h) ∙ e in let z : ◌≡◌ {A = ℕ} 0 1 = cc in absurd (omega arith)
    go (more h) r = let f = sym (head_greater x y xs ys h) ∙ e in let z : ◌≡◌ {A = ℕ} 0 1 = cc in absurd (omega arith)
    go (same h) r = ap₂ ◌∷◌ h (r (sym (head_equal x y xs ys h) ∙ e))

-- two names come one after the other by their first bytes, or behind equal ones
data Before (x y : ℕ) (xs ys : List ℕ) : Type 0 where
  at_once : x < y → Before x y xs ys
  later : x ≡ y → compare_bytes xs ys ≡ Less → Before x y xs ys

before : (x y : ℕ) (xs ys : List ℕ) → compare_bytes (x ∷ xs) (y ∷ ys) ≡ Less → Before x y xs ys
before x y xs ys e = go (compared x y)
  where
    go : Compared x y → Before x y xs ys
    go (less h) = at_once h
    go (more h) = let f = sym (head_greater x y xs ys h) ∙ e in let z : ◌≡◌ {A = ℕ} 0 1 = cc in absurd (omega arith)
    go (same h) = later h (sym (head_equal x y xs ys h) ∙ e)

is_before : (x y : ℕ) (xs ys : List ℕ) → Before x y xs ys → compare_bytes (x ∷ xs) (y ∷ ys) ≡ Less
is_before x y xs ys (at_once h) = head_less x y xs ys h
is_before x y xs ys (later h e) = head_equal x y xs ys h ∙ e

trans_bytes : (a b c : List ℕ) → compare_bytes a b ≡ Less → compare_bytes b c ≡ Less → compare_bytes a c ≡ Less
unfolding compare_bytes
trans_bytes [] [] c p q = q
trans_bytes [] (y ∷ ys) [] p q = let z : ◌≡◌ {A = ℕ} 0 1 = cc in absurd (omega arith)
trans_bytes [] (y ∷ ys) (z ∷ zs) p q = refl
trans_bytes (x ∷ xs) [] c p q = let z : ◌≡◌ {A = ℕ} 0 1 = cc in absurd (omega arith)
trans_bytes (x ∷ xs) (y ∷ ys) [] p q = let z : ◌≡◌ {A = ℕ} 0 1 = cc in absurd (omega arith)
trans_bytes (x ∷ xs) (y ∷ ys) (z ∷ zs) p q = is_before x z xs zs (go (before x y xs ys p) (before y z ys zs q) (trans_bytes xs ys zs))
  where
    go : Before x y xs ys → Before y z ys zs → (compare_bytes xs ys ≡ Less → compare_bytes ys zs ≡ Less → compare_bytes xs zs ≡ Less) → Before x z xs zs
    go (at_once h) (at_once k) r = at_once (omega arith)
    go (at_once h) (later k l) r = at_once (omega arith)
    go (later h j) (at_once k) r = at_once (omega arith)
    go (later h j) (later k l) r = later (h ∙ k) (r j l)

pub total_bytes : Total compare_bytes
total_bytes = record { turned = turned_bytes; trans = trans_bytes; equal = equal_bytes }

-- ---- keys

turned_keys : (a b : Key) → compare_keys b a ≡ turn (compare_keys a b)
turned_keys (number a) (number b) = total_ℤ.turned a b
turned_keys (number a) (name t) = refl
turned_keys (name s) (number b) = refl
turned_keys (name s) (name t) = turned_bytes s t

trans_keys : (a b c : Key) → compare_keys a b ≡ Less → compare_keys b c ≡ Less → compare_keys a c ≡ Less
trans_keys (number a) (number b) (number c) p q = total_ℤ.trans a b c p q
trans_keys (number a) (number b) (name c) p q = refl
trans_keys (number a) (name b) (number c) p q = let z : ◌≡◌ {A = ℕ} 0 1 = cc in absurd (omega arith)
trans_keys (number a) (name b) (name c) p q = refl
trans_keys (name a) (number b) c p q = let z : ◌≡◌ {A = ℕ} 0 1 = cc in absurd (omega arith)
trans_keys (name a) (name b) (number c) p q = let z : ◌≡◌ {A = ℕ} 0 1 = cc in absurd (omega arith)
trans_keys (name a) (name b) (name c) p q = trans_bytes a b c p q

equal_keys : (a b : Key) → compare_keys a b ≡ Equal → a ≡ b
equal_keys (number a) (number b) e = ap number (total_ℤ.equal a b e)
equal_keys (number a) (name t) e = let z : ◌≡◌ {A = ℕ} 0 1 = cc in absurd (omega arith)
equal_keys (name s) (number b) e = let z : ◌≡◌ {A = ℕ} 0 1 = cc in absurd (omega arith)
equal_keys (name s) (name t) e = ap name (equal_bytes s t e)

pub total_keys : Total compare_keys
total_keys = record { turned = turned_keys; trans = trans_keys; equal = equal_keys }

pub less_greater : (a b : Key) → (compare_keys a b ≡ Less) ↔ (compare_keys b a ≡ Greater)
less_greater a b = (before_turn total_keys a b, after_turn total_keys b a)

pub equal_same : (a b : Key) → (compare_keys a b ≡ Equal) ↔ (a ≡ b)
equal_same a b = (equal_keys a b, alike total_keys a b)

-- ---- the search in a key order that goes up strictly

-- the key of the i-th id
abbrev pub key_of_order : List ℕ → List ℕ → List ℕ → ℕ → Key
key_of_order names cells order i = key_at names cells (get_or order i 0)

-- the first `count` keys go up strictly
abbrev pub Ordered : List ℕ → List ℕ → List ℕ → ℕ → Type 0
Ordered names cells order count = Sorted compare_keys (key_of_order names cells order) count

module _ (names cells order : List ℕ) (count : ℕ) (k : Key) (s : Ordered names cells order count) where
  pub probe_rises : Rising (probe names cells order k) count
  probe_rises = rising total_keys (key_of_order names cells order) k count s

  -- where it ends: at an equal key, or with all below the place less and all from it on greater
  pub search_complete : Ensures (Ends (probe names cells order k) count) (seek_key names cells order count k)
  unfolding seek_key
  search_complete = search_ends (probe names cells order k) count probe_rises count (enough count)

  -- an equal key is found at its place
  pub key_found : (i : ℕ) → i < count → key_of_order names cells order i ≡ k → Ensures (λ p. p ≡ found i) (seek_key names cells order count k)
  key_found i h e = weaken (its_place total_keys (key_of_order names cells order) count k s i h e) search_complete

  -- otherwise the place has all smaller keys below it and all greater ones from it on
  pub key_absent : ((i : ℕ) → i < count → key_of_order names cells order i ≡ k → ⊥) →
      Ensures (Gap total_keys (key_of_order names cells order) count k) (seek_key names cells order count k)
  key_absent f = weaken (gap total_keys (key_of_order names cells order) count k f) search_complete

  -- and the key that is inserted there keeps the order
  pub insert_keeps : (low id : ℕ) → Gap total_keys (key_of_order names cells order) count k (absent low) → count < length order → key_at names cells id ≡ k →
      Ordered names cells (inserted order low count id) (count + 1)
  insert_keeps low id g h e =
      inserted_sorted total_keys (key_at names cells) 0 order count low id g.0 h s (rw e g.1) (rw e g.2)

-- the tables of an id that is not in the key order may be written
module _ (names cells order : List ℕ) (count id kind payload : ℕ) (text : List ℕ) (few : length text ≤ 64) (new : (i : ℕ) → i < count → get_or order i 0 ≡ id → ⊥) where
  stays : (i : ℕ) → i < count → key_of_order (put_name names id text) (put_cells cells id kind payload) order i ≡ key_of_order names cells order i
  stays i h =
      name_kept names id (get_or order i 0) text few (new i h) (put_cells cells id kind payload)
      ∙ cells_kept cells id (get_or order i 0) kind payload (new i h) names

  pub write_keeps : Ordered names cells order count → Ordered (put_name names id text) (put_cells cells id kind payload) order count
  write_keeps s p q h k = rw (stays p (omega arith), stays q k) (s p q h k)
