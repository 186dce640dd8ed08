-- How many rows of a table have lost their list: none comes back where a value is joined with another one.
use Prim.Native.Nat.{ℕ, suc, ◌+◌, ◌*◌, ◌≤◌}
use native.Mathlib.Omega.{arith}
use mathlib.Core.Path.{◌≡◌, refl, ap, ◌∙◌}
use mathlib.Core.Bool.{cond}
use mathlib.Core.List.{List}
use mathlib.Core.Option.{Option, some, none}
use lib.Dec.{leb, eqb}
use lib.ListN.{length, get_or, take, drop}
use Rattle.integers.proofs.Tests.{by_cond}
use Rattle.integers.proofs.Stores.{sets_in}
use Rattle.integers.proofs.Totals.{total, total_same, total_most}
use Rattle.lists.specs.Lists.{union}
use Rattle.lists.proofs.ListLaws.{room}
use Rattle.lattice.specs.Value.{Value}
use Rattle.lattice.specs.Lattice.{loses}
use Rattle.lattice.proofs.Joins.{joined_list}
use Rattle.sizes.specs.Sizes.{value_row}
use Rattle.rows.specs.Row.{padded, encode, decode, kept_cell, row_ids, value_at, put}
use Rattle.rows.proofs.RowLaws.{length_encode, row_cell, put_other}

-- 1 where there is no list
abbrev pub lost : Option (List ℕ) → ℕ
lost none = 1
lost (some l) = 0

-- how many of the first n rows have no list
abbrev pub lost_in : List ℕ → ℕ → ℕ
lost_in cells n = total (λ i. lost (value_at cells i).values) n

-- a list that is lost is one lost list more; none comes back
pub lost_step : (width : ℕ) (x y : Option (List ℕ)) → lost x + cond (loses x (joined_list width x y)) 1 0 ≡ lost (joined_list width x y)
lost_step width none y = refl
lost_step width (some x) none = refl
lost_step width (some x) (some y) =
    by_cond (λ o. lost (some x) + cond (loses (some x) o) 1 0 ≡ lost o) (leb (length (union x y)) (room width)) (λ _. refl) (λ _. refl)

lost_most : (x : Option (List ℕ)) → lost x ≤ 1
lost_most none = omega arith
lost_most (some l) = omega arith

-- n rows more
pub lost_in_more : (cells : List ℕ) (k n : ℕ) → lost_in cells (k + n) ≤ lost_in cells k + n
lost_in_more cells k n = total_most (λ i. lost (value_at cells i).values) k n (λ i. lost_most (value_at cells i).values)

pub lost_in_most : (cells : List ℕ) (n : ℕ) → lost_in cells n ≤ n
unfolding total
lost_in_most cells n = let e : 0 + n ≡ n = omega arith in let d = ap (lost_in cells) e in omega (arith, lost_in_more cells 0 n)

-- ---- a row that was put, whatever its value

module _ (cells : List ℕ) (i : ℕ) (v : Value) (inside : value_row * i + value_row ≤ length cells) where
  kept_put : get_or (padded value_row (drop (value_row * i) (put cells i v))) 4 0 ≡ kept_cell v.values
  unfolding put encode
  kept_put =
      row_cell (put cells i v) (value_row * i) 4 (omega arith)
      ∙ sets_in 0 (encode v) cells (value_row * i) 4 (omega (arith, length_encode v)) (omega (arith, length_encode v))

  pub lost_row : lost (value_at (put cells i v) i).values ≡ lost v.values
  unfolding value_at decode
  lost_row = rw kept_put (go v.values)
    where
      go : (x : Option (List ℕ)) → lost (cond (eqb (kept_cell x) 0) none (some (take (get_or (padded value_row (drop (value_row * i) (put cells i v))) 5 0) (row_ids (padded value_row (drop (value_row * i) (put cells i v))))))) ≡ lost x
      go none = refl
      go (some l) = refl

-- the rows before it keep their lists
pub lost_in_put : (cells : List ℕ) (n : ℕ) (v : Value) → value_row * n + value_row ≤ length cells → lost_in (put cells n v) (suc n) ≡ lost_in cells n + lost v.values
unfolding total
lost_in_put cells n v h =
    let e = total_same (λ i. lost (value_at cells i).values) (λ i. lost (value_at (put cells n v) i).values) n (λ i l. ap (λ (w : Value). lost w.values) (put_other cells n v i (λ d. omega arith))) in
    let d = lost_row cells n v h in
    omega arith
