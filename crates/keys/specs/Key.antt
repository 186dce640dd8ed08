-- Keys, their order, where the lent tables hold them, and the search for one. 01, "The added reader".
use Rattle.std.specs.Prelude.{ℕ, ◌+◌, ◌*◌, min, cond, List, [], ◌∷◌, eqb, ℤ, get_or, take, drop}
use Rattle.sizes.specs.Sizes as size
use Rattle.std.proofs.lemmas.List.Edits.{sets}
use Rattle.limits.specs.declared.Stop.{Stop}
use Rattle.limits.specs.Metered.{Metered}
use Rattle.limits.specs.declared.Meter.{Meter}
use Rattle.cells.specs.Cells.{of_cell}
use Rattle.std.specs.declared.cmp.Ordering.{Ordering}
use Rattle.std.specs.declared.cmp.Ordering.TheVariants.{Less, Equal, Greater}
use Rattle.keys.specs.declared.Key as declared
use Rattle.keys.specs.declared.Key.TheVariants.{Number, Name}
use Rattle.search.specs.Seek.{Place, by, compareℕ, compareℤ, seek}

-- 01: "a key is a signed 32-bit number or a name of 0 to 64 bytes"
pub data Key : Type 0 where
  number : ℤ → Key
  name : List ℕ → Key

-- ---- 01: "Numbers precede names; numbers go by value, names by bytes, a proper prefix first"

unfoldable pub compare_bytes : List ℕ → List ℕ → Ordering
compare_bytes [] [] = Equal
compare_bytes [] (y ∷ ys) = Less
compare_bytes (x ∷ xs) [] = Greater
compare_bytes (x ∷ xs) (y ∷ ys) = by (compareℕ x y) Less (compare_bytes xs ys) Greater

abbrev pub compare_keys : Key → Key → Ordering
compare_keys (number a) (number b) = compareℤ a b
compare_keys (number a) (name t) = Less
compare_keys (name s) (number b) = Greater
compare_keys (name s) (name t) = compare_bytes s t

-- ---- at rest: two cells, kind and payload, and for a name 64 bytes of the name store at 64 times the id

-- The payload of a name is its length, and no name is longer than 64 bytes. Bytes beyond the store are missing.
unfoldable pub name_at : List ℕ → ℕ → ℕ → List ℕ
name_at names id len = take (min len size.name) (drop (size.name * id) names)

-- a cell beyond the table reads as 0
abbrev pub kind_at : List ℕ → ℕ → ℕ
kind_at cells id = get_or cells (size.constant_row * id) 0

abbrev pub payload_at : List ℕ → ℕ → ℕ
payload_at cells id = get_or cells (size.constant_row * id + 1) 0

-- Kind 1 is a number; any other reads as a name. The key order holds ids of retained constants only, of kind 1 or 2.
unfoldable pub key_at : List ℕ → List ℕ → ℕ → Key
key_at names cells id = cond (eqb (kind_at cells id) 1) (number (of_cell (payload_at cells id))) (name (name_at names id (payload_at cells id)))

-- what is written of a constant: its two cells, and the bytes of a retained name; the rest of its 64 stay
abbrev pub put_cells : List ℕ → ℕ → ℕ → ℕ → List ℕ
put_cells cells id kind payload = sets cells (size.constant_row * id) (kind ∷ payload ∷ [])

abbrev pub put_name : List ℕ → ℕ → List ℕ → List ℕ
put_name names id text = sets names (size.name * id) text

-- ---- the search

-- a key of the code as one of the definitions: the bytes of a name are those of its slice
abbrev pub key_of : declared.Key → Key
key_of (Number z) = number z
key_of (Name text) = name text.now

-- how the key of the i-th id of the key order stands to k
abbrev pub probe : List ℕ → List ℕ → List ℕ → Key → ℕ → Ordering
probe names cells order k i = compare_keys (key_at names cells (get_or order i 0)) k

-- among the first `count` ids; one unit of work for each key that is looked at, and, 01: "Comparing charges nothing"
unfoldable pub seek_key : List ℕ → List ℕ → List ℕ → ℕ → Key → Metered Stop Meter Place
seek_key names cells order count k = seek (probe names cells order k) count 0 count
