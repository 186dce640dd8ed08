-- Theorems about cells: a number comes back from its cell and a cell from its number, and cells stand in the order of the numbers.
use Prim.Native.Nat.{ℕ, suc, ◌+◌, ◌≤◌, ◌<◌, ◌^◌}
use native.Mathlib.Omega.{arith}
use mathlib.Core.Path.{◌≡◌, refl, sym, ap, ◌∙◌}
use mathlib.Core.Logic.{◌↔◌}
use borrow.Author.Tests.{le-ltb}
use lib.IntN.{ℤ, pos, negsuc, nat_abs, ◌+ℤ◌, ◌-ℤ◌, +ℤ-neg_ℤ_cancel, -ℤ-+ℤ_cancel}
use Rattle.integers.specs.Order.{up, dn, Le, Number}
use Rattle.integers.proofs.Sums.{add_split, sub_split_ℤ}
use Rattle.cells.specs.Cells.{to_cell, of_cell}

module _ (z : ℤ) (h : Number z) where
  -- shifted up, a number is not negative
  pub shifted_up : z +ℤ pos (2 ^ 31) ≡ pos (to_cell z)
  shifted_up = go z h
    where
      go : (z : ℤ) → Number z → z +ℤ pos (2 ^ 31) ≡ pos (to_cell z)
      go (pos n) h = refl
      go (negsuc n) h = rw (le-ltb 2147483648 (suc n) (omega (arith, h.0)))

  -- the cell, as `omega` reads it
  pub cell_split : to_cell z + dn z ≡ up z + 2 ^ 31
  cell_split = omega (arith, add_split z (pos (2 ^ 31)), ap up shifted_up, ap dn shifted_up)

  pub cell_small : to_cell z < 2 ^ 32
  cell_small = omega (arith, cell_split, h.1)

  pub of_to : of_cell (to_cell z) ≡ z
  of_to = ap (λ (x : ℤ). x -ℤ pos (2 ^ 31)) (sym shifted_up) ∙ +ℤ-neg_ℤ_cancel z (pos (2 ^ 31))

pub to_of : (n : ℕ) → to_cell (of_cell n) ≡ n
to_of n = ap nat_abs (-ℤ-+ℤ_cancel (pos n) (pos (2 ^ 31)))

pub of_number : (n : ℕ) → n < 2 ^ 32 → Number (of_cell n)
of_number n h = let s = sub_split_ℤ (pos n) (pos (2 ^ 31)) in (omega arith, omega arith)

pub cells_ordered : (a b : ℤ) → Number a → Number b → Le a b ↔ (to_cell a ≤ to_cell b)
cells_ordered a b ha hb =
    let sa = cell_split a ha in
    let sb = cell_split b hb in
    (λ h. omega arith, λ h. omega arith)
