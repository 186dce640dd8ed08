-- Copies of rows are the rows.
use Prim.Native.Nat.{ℕ, zero, suc, ◌+◌, ◌*◌, ◌≤◌, ◌<◌}
use native.Mathlib.Omega.{arith}
use native.Mathlib.Decide.{dec_lt}
use mathlib.Core.Path.{◌≡◌, refl, subst, ◌∙◌}
use mathlib.Core.List.{List}
use lib.ListN.{length}
use Rattle.limits.specs.Metered.{◌>>◌}
use Rattle.limits.proofs.Ends.{Ends, completes, ends_pure, ends_bind, ends_then, ends_through, with_value}
use Rattle.lattice.specs.Value.{Value}
use Rattle.lattice.specs.Lattice.{copied}
use Rattle.lattice.proofs.Copies.{copied_is}
use Rattle.sizes.specs.Sizes.{value_row}
use Rattle.rows.specs.Row.{value_at, put}
use Rattle.rows.specs.WellFormed.{WellFormed}
use Rattle.rows.proofs.RowLaws.{length_put, put_back, put_other}
use Rattle.slots.specs.Slots.{Slots, paying, holding_rows, putting, copies}

-- the first k rows of a table are those of another
abbrev pub Same : List ℕ → ℕ → List ℕ → Type 0
Same domains k rows = (j : ℕ) → j < k → value_at rows j ≡ value_at domains j

module _ (domains : List ℕ) (bound : ℕ) (formed : (j : ℕ) → j < bound → WellFormed (value_at domains j)) where
  one : (k : ℕ) → k < bound → (rows : List ℕ) → value_row * k + value_row ≤ length rows → Same domains k rows → Same domains (k + 1) (put rows k (value_at domains k))
  one k b rows r h j l = elim (dec_lt j k) [
    | yes m ↦ put_other rows k (value_at domains k) j (λ e. omega arith) ∙ h j m
    | no m ↦ let e : j ≡ k = omega arith in rw e (put_back rows k (value_at domains k) r (formed k b))
  ]

  pub copies_same : (k n : ℕ) → k + n ≤ bound → (s : Slots) → value_row * (k + n) ≤ length s.rows → Same domains k s.rows → Ends (λ _ t. Same domains (k + n) t.rows) (λ _ _. Unit {0}) (copies domains k n s)
  unfolding copies
  copies_same k zero b s r h = ends_pure tt s (λ j l. h j (omega arith))
  copies_same k (suc n) b s r h =
      ends_bind {P = λ v t. (v ≡ value_at domains k) × (t.rows ≡ s.rows)} {Q = λ _ _. Unit {0}} (holding_rows k (paying (copied (value_at domains k)))) (λ v. putting k v >> copies domains (k + 1) n) s
      (ends_through _ _ _ _ {P = λ v t. (v ≡ value_at domains k) × (t.rows ≡ s.rows)} {Q = λ _ _. Unit {0}} (paying (copied (value_at domains k))) s
      (ends_through _ _ _ _ {P = λ v _. v ≡ value_at domains k} {Q = λ _ _. Unit {0}} (copied (value_at domains k)) s
      (with_value (copied (value_at domains k) s.meter) ((copied_is (value_at domains k)).at s.meter)) (λ v _ e. (e, refl)) (λ _ _ _. tt))
      (λ v t e. e) (λ _ _ _. tt))
      (λ v t e.
      ends_then {P = λ _ u. Same domains (k + 1) u.rows × (length u.rows ≡ length s.rows)} {Q = λ _ _. Unit {0}} (putting k v) (copies domains (k + 1) n) t
      (completes (next k n b s r h v t e))
      (λ _ u p. more k n u (copies_same (k + 1) n (omega arith) u (omega (arith, p.1)) p.0))
      (λ _ _ _. tt))
      (λ _ _ _. tt)
    where
      next : (k n : ℕ) → k + suc n ≤ bound → (s : Slots) → value_row * (k + suc n) ≤ length s.rows → Same domains k s.rows → (v : Value) (t : Slots) → (v ≡ value_at domains k) × (t.rows ≡ s.rows) →
          Same domains (k + 1) (put t.rows k v) × (length (put t.rows k v) ≡ length s.rows)
      next k n b s r h v t e =
          rw (e.0, e.1) (one k (omega arith) s.rows (omega arith) h, length_put s.rows k (value_at domains k))

      more : (k n : ℕ) (u : Slots) → Ends (λ _ t. Same domains (k + 1 + n) t.rows) (λ _ _. Unit {0}) (copies domains (k + 1) n u) → Ends (λ _ t. Same domains (k + suc n) t.rows) (λ _ _. Unit {0}) (copies domains (k + 1) n u)
      more k n u x = subst (λ (i : ℕ). Ends (λ _ t. Same domains i t.rows) (λ _ _. Unit {0}) (copies domains (k + 1) n u)) (omega arith) x
