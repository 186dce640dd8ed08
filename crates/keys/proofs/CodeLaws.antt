-- What the code's answers are, over plain variables.
use Prim.Native.Nat.{min, ◌+◌, ◌-◌, ◌*◌}
use native.Mathlib.Omega.{arith}
use native.Mathlib.Decide.{dec_lt}
use mathlib.Core.Path.{◌≡◌, refl, sym, ap, ◌∙◌}
use mathlib.Core.List.{List, [], ◌∷◌}
use borrow.Author.Tests.{ne_eqb}
use lib.IntN.{ℤ}
use lib.ListN.{length, take, drop, length-drop}
use lib.Seq.{sets, take_all}
use Rattle.std.proofs.Common.{ℕ}
use Rattle.integers.proofs.Stores.{sets_min, sets_out, drop_min, take_min, Writing, writing_all}
use Rattle.cells.specs.Cells.{of_cell}
use Rattle.std.specs.declared.cmp.Ordering.{Ordering}
use Rattle.std.specs.declared.cmp.Ordering.TheVariants.{Less, Equal, Greater}
use Rattle.std.specs.Ordering.{nat_cmp, ordering_then}
use Rattle.std.specs.Cmp.Lexicographic.{slice_cmp}
use Rattle.search.specs.Seek.{by}
use Rattle.keys.specs.declared.Key as declared
use Rattle.keys.specs.declared.Key.TheVariants.{Number, Name}
use Rattle.keys.specs.contracts.KeyOrd.TheImpl as key_ord
use Rattle.keys.specs.Key.{number, name, compare_bytes, compare_keys, name_at, kind_at, payload_at, key_at, put_name, key_of}

-- ---- the derived order is the reader's

by_bytes : (s t : List ℕ) → slice_cmp nat_cmp s t ≡ compare_bytes s t
unfolding compare_bytes
by_bytes [] [] = refl
by_bytes [] (y ∷ t) = refl
by_bytes (x ∷ s) [] = refl
by_bytes (x ∷ s) (y ∷ t) = go (nat_cmp x y) (by_bytes s t)
  where
    go : (o : Ordering) → slice_cmp nat_cmp s t ≡ compare_bytes s t → ordering_then o (slice_cmp nat_cmp s t) ≡ by o Less (compare_bytes s t) Greater
    go Less h = refl
    go Equal h = h
    go Greater h = refl

pub ordered : (a b : declared.Key) → (key_ord.ghosts).cmp a b ≡ compare_keys (key_of a) (key_of b)
ordered (Number x) (Number y) = refl
ordered (Number x) (Name t) = refl
ordered (Name s) (Number y) = refl
ordered (Name s) (Name t) = by_bytes s.now t.now

-- ---- the key of a constant

module _ (names cells : List ℕ) (id : ℕ) {kind payload : ℕ} (h : kind ≡ kind_at cells id) (k : payload ≡ payload_at cells id) where
  pub number_read : {v : ℤ} → kind ≡ 1 → v ≡ of_cell payload → number v ≡ key_at names cells id
  unfolding key_at
  number_read e f = rw (← h, e, ← k, f)

  pub name_read : {s : List ℕ} → (kind ≡ 1 → ⊥) → s ≡ name_at names id payload → name s ≡ key_at names cells id
  unfolding key_at
  name_read e f = rw (← h, ne_eqb kind 1 e, ← k, f)

-- ---- parts of the name store

module _ (names : List ℕ) (id start : ℕ) (h : start ≡ min (64 * id) (length names)) where
  pub name_part : (len n : ℕ) → n ≡ min (min len 64) (length (take (length names - start) (drop start names))) → take n (take (length names - start) (drop start names)) ≡ name_at names id len
  unfolding name_at
  name_part len n e =
      let f : take (length names - start) (drop start names) ≡ drop (64 * id) names
      = take_all (length names - start) (drop start names) (simp length-drop (omega arith)) ∙ ap (λ (i : ℕ). drop i names) h ∙ drop_min names (64 * id) in
      rw (e, f) (take_min (drop (64 * id) names) (min len 64))

  -- as many bytes as there are, or as the store has room for
  pub name_put : (text : List ℕ) (n : ℕ) {m : List ℕ} → Writing (sets names start text) m start text n → length m ≡ length names → n ≡ min (length text) (length names - start) → m ≡ put_name names id text
  name_put text n {m} p e f =
      let s : sets names start text ≡ sets names (64 * id) text = rw h (sets_min text names (64 * id)) in
      elim (dec_lt n (length text)) [
        | yes g ↦ sym (p.rest ∙ sets_out (drop n text) m (start + n) (omega arith)) ∙ s
        | no g ↦ writing_all p (omega arith) ∙ s
      ]
