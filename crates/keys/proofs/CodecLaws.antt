-- A key that was written reads back, and the keys of other ids are as they were.
use Prim.Native.Nat.{ℕ, min, ◌+◌, ◌*◌, ◌≤◌, ◌<◌}
use native.Mathlib.Omega.{arith}
use native.Mathlib.Nat.{add-zero, zero-add}
use mathlib.Core.Path.{◌≡◌, refl, sym, ap, subst, ◌∙◌}
use mathlib.Core.List.{List, [], ◌∷◌}
use lib.IntN.{ℤ}
use lib.ListN.{length, get_or}
use lib.Seq.{length-sets, take_all}
use Rattle.integers.specs.Order.{Number}
use Rattle.integers.proofs.ListLaws.{Compared, less, more, same, compared}
use Rattle.integers.proofs.Stores.{sets_before, sets_after, sets_in, part_same}
use Rattle.cells.specs.Cells.{to_cell}
use Rattle.cells.proofs.CellLaws.{of_to}
use Rattle.keys.specs.Key.{number, name, name_at, kind_at, payload_at, key_at, put_cells, put_name}

-- ---- its own cells and bytes

module _ (cells : List ℕ) (id : ℕ) (room : 2 * id + 2 ≤ length cells) (kind payload : ℕ) where
  pub kind_back : kind_at (put_cells cells id kind payload) id ≡ kind
  kind_back =
      subst (λ (j : ℕ). get_or (put_cells cells id kind payload) j 0 ≡ kind) (add-zero (2 * id))
      (sets_in 0 (kind ∷ payload ∷ []) cells (2 * id) 0 (omega arith) (omega arith))

  pub payload_back : payload_at (put_cells cells id kind payload) id ≡ payload
  payload_back = sets_in 0 (kind ∷ payload ∷ []) cells (2 * id) 1 (omega arith) (omega arith)

module _ (names : List ℕ) (id : ℕ) (s : List ℕ) (few : length s ≤ 64) (room : 64 * id + length s ≤ length names) where
  bytes_back : name_at (put_name names id s) id (length s) ≡ s
  unfolding name_at
  bytes_back =
      let e : min (length s) 64 ≡ length s = omega arith in
      rw e
      (part_same 0 (put_name names id s) s (64 * id) 0 (length s) (simp length-sets (omega arith))
      (λ i h. sets_in 0 s names (64 * id) i h room ∙ sym (rw zero-add))
      ∙ take_all (length s) s (omega arith))

module _ (names cells : List ℕ) (id : ℕ) (room : 2 * id + 2 ≤ length cells) where
  pub number_back : (z : ℤ) → Number z → key_at names (put_cells cells id 1 (to_cell z)) id ≡ number z
  unfolding key_at
  number_back z h = rw (kind_back cells id room 1 (to_cell z), payload_back cells id room 1 (to_cell z)) (ap number (of_to z h))

  pub name_back : (s : List ℕ) → length s ≤ 64 → 64 * id + length s ≤ length names → key_at (put_name names id s) (put_cells cells id 2 (length s)) id ≡ name s
  unfolding key_at
  name_back s few space = rw (kind_back cells id room 2 (length s), payload_back cells id room 2 (length s)) (ap name (bytes_back names id s few space))

-- ---- another id, whatever the tables hold

module _ (cells : List ℕ) (id j kind payload : ℕ) (other : j ≡ id → ⊥) where
  cell_kept : (i : ℕ) → i < 2 → get_or (put_cells cells id kind payload) (2 * j + i) 0 ≡ get_or cells (2 * j + i) 0
  cell_kept i h = go (compared j id)
    where
      go : Compared j id → get_or (put_cells cells id kind payload) (2 * j + i) 0 ≡ get_or cells (2 * j + i) 0
      go (less b) = sets_before 0 (kind ∷ payload ∷ []) cells (2 * id) (2 * j + i) (omega arith)
      go (more b) = sets_after 0 (kind ∷ payload ∷ []) cells (2 * id) (2 * j + i) (omega arith)
      go (same b) = absurd (other b)

  pub kind_kept : kind_at (put_cells cells id kind payload) j ≡ kind_at cells j
  kind_kept = subst (λ (i : ℕ). get_or (put_cells cells id kind payload) i 0 ≡ get_or cells i 0) (add-zero (2 * j)) (cell_kept 0 (omega arith))

  pub payload_kept : payload_at (put_cells cells id kind payload) j ≡ payload_at cells j
  payload_kept = cell_kept 1 (omega arith)

  pub cells_kept : (names : List ℕ) → key_at names (put_cells cells id kind payload) j ≡ key_at names cells j
  unfolding key_at
  cells_kept names = rw (kind_kept, payload_kept)

module _ (names : List ℕ) (id j : ℕ) (s : List ℕ) (few : length s ≤ 64) (other : j ≡ id → ⊥) where
  byte_kept : (i : ℕ) → i < 64 → get_or (put_name names id s) (64 * j + i) 0 ≡ get_or names (64 * j + i) 0
  byte_kept i h = go (compared j id)
    where
      go : Compared j id → get_or (put_name names id s) (64 * j + i) 0 ≡ get_or names (64 * j + i) 0
      go (less b) = sets_before 0 s names (64 * id) (64 * j + i) (omega arith)
      go (more b) = sets_after 0 s names (64 * id) (64 * j + i) (omega arith)
      go (same b) = absurd (other b)

  pub bytes_kept : (len : ℕ) → name_at (put_name names id s) j len ≡ name_at names j len
  unfolding name_at
  bytes_kept len = part_same 0 (put_name names id s) names (64 * j) (64 * j) (min len 64) (simp length-sets refl) (λ i h. byte_kept i (omega arith))

  pub name_kept : (cells : List ℕ) → key_at (put_name names id s) cells j ≡ key_at names cells j
  unfolding key_at
  name_kept cells = rw (bytes_kept (payload_at cells j))
