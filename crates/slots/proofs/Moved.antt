-- The rows of one table in another.
use Prim.Native.Nat.{ℕ, zero, suc, ◌*◌, ◌≤◌, ◌<◌}
use native.Mathlib.Omega.{arith}
use native.Mathlib.Decide.{dec_lt}
use mathlib.Core.Path.{◌≡◌, refl, ◌∙◌}
use mathlib.Core.List.{List}
use lib.ListN.{length}
use Rattle.sizes.specs.Sizes.{value_row}
use Rattle.rows.specs.Row.{value_at, moved}
use Rattle.rows.proofs.RowLaws.{length_put, put_back, put_other}
use Rattle.slots.specs.Slots.{total}
use Rattle.slots.proofs.Live.{Formed, formed_put, total_same}

pub length_moved : (from to : List ℕ) (n : ℕ) → length (moved from n to) ≡ length to
unfolding moved
length_moved from to zero = refl
length_moved from to (suc n) = length_put (moved from n to) n (value_at from n) ∙ length_moved from to n

module _ (from to : List ℕ) (formed : Formed from) where
  -- the first n rows are those of the other table
  pub moved_row : (n a : ℕ) → value_row * n ≤ length to → a < n → value_at (moved from n to) a ≡ value_at from a
  unfolding moved
  moved_row zero a r l = absurd (omega arith)
  moved_row (suc n) a r l = elim (dec_lt a n) [
    | yes m ↦ put_other (moved from n to) n (value_at from n) a (λ e. omega arith) ∙ moved_row n a (omega arith) m
    | no m ↦
        let e : a ≡ n = omega arith in
        rw e (put_back (moved from n to) n (value_at from n) (omega (arith, length_moved from to n)) (formed n).formed)
  ]

  pub moved_formed : (n : ℕ) → value_row * n ≤ length to → Formed to → Formed (moved from n to)
  unfolding moved
  moved_formed zero r f = f
  moved_formed (suc n) r f = formed_put (moved from n to) n (value_at from n) (omega (arith, length_moved from to n)) (formed n) (moved_formed n (omega arith) f)

  pub moved_total : (n : ℕ) → value_row * n ≤ length to → total (moved from n to) n ≡ total from n
  moved_total n r = total_same from (moved from n to) n (λ a l. moved_row n a r l)
