-- What is read of a whole word: exactly the words of a number, and its own decimal among them.
use Prim.Native.Nat.{ℕ, suc, ◌^◌, ◌<◌, ◌≤◌}
use native.Mathlib.Omega.{arith}
use mathlib.Core.Path.{◌≡◌, refl, sym, ◌∙◌}
use mathlib.Core.Bool.{Bool, true, false, cond}
use mathlib.Core.List.{List, ◌∷◌}
use borrow.Author.Tests.{le-leb, leb-true, eqb-true}
use lib.Dec.{leb, eqb}
use lib.IntN.{ℤ, pos, negsuc}
use Rattle.std.proofs.Common.{inl, inr}
use Rattle.std.specs.Prelude.{Option, Some, None}
use Rattle.integers.specs.Order.{Number}
use Rattle.text.specs.Text.{decimal, integer}
use Rattle.words.specs.declared.Word.{Word}
use Rattle.words.specs.Words.{started, read, natural, signed}
use Rattle.words.specs.Written.{Natural, Signed, natural_of, signed_of}
use Rattle.words.proofs.Reading.{written_in, written_only}

-- ---- a number from 0 on

pub natural_in : (most n : ℕ) (l : List ℕ) → most < 2 ^ 64 → Natural most n l → natural_of l most ≡ Some n
natural_in most n l h (k, inl w) = rw (written_in false n l w (omega arith), le-leb n most k)
natural_in most n l h (k, inr (e, w)) = rw (written_in true 0 l w (omega arith), e, le-leb 0 most (omega arith))

natural_state : (most n : ℕ) (l : List ℕ) (g : Bool) (v : Option ℕ) → read started l ≡ Some (record { negative = g; value = v }) →
    natural (record { negative = g; value = v }) most ≡ Some n → Natural most n l
natural_state most n l g None e h = cc
natural_state most n l false (Some m) e h = go (leb m most) refl
  where
    go : (t : Bool) → leb m most ≡ t → Natural most n l
    go true p = let k = rw p at h in let q : m ≡ n = cc in (rw (← q) (leb-true m most p), inl (rw (← q) (written_only false m l e)))
    go false p = let k = rw p at h in cc
natural_state most n l true (Some m) e h = go (leb m most) (eqb m 0) refl refl
  where
    go : (t u : Bool) → leb m most ≡ t → eqb m 0 ≡ u → Natural most n l
    go true true p r =
        let k = rw (p, r) at h in
        let q : m ≡ n = cc in
        let z : m ≡ 0 = eqb-true m 0 r in
        (rw (← q) (leb-true m most p), inr (sym q ∙ z, rw z at (written_only true m l e)))
    go true false p r = let k = rw (p, r) at h in cc
    go false u p r = let k = rw p at h in cc

pub natural_only : (most n : ℕ) (l : List ℕ) → natural_of l most ≡ Some n → Natural most n l
natural_only most n l h = go (read started l) refl
  where
    go : (o : Option Word) → read started l ≡ o → Natural most n l
    go None e = let k = rw e at h in cc
    go (Some w) e = natural_state most n l w.negative w.value e (rw e at h)

pub decimal_read : (most n : ℕ) → most < 2 ^ 64 → n ≤ most → natural_of (decimal n) most ≡ Some n
decimal_read most n h k = natural_in most n (decimal n) h (k, inl (0, refl))

-- ---- a number of 32 signed bits

pub signed_in : (z : ℤ) (l : List ℕ) → Signed z l → signed_of l ≡ Some z
signed_in z l (false, (n, (e, (k, w)))) = rw (written_in false n l w (omega arith), le-leb n 2147483647 k, e)
signed_in z l (true, (n, (e, (k, w)))) = rw (written_in true n l w (omega arith), le-leb n 2147483648 k, e)

signed_state : (z : ℤ) (l : List ℕ) (g : Bool) (v : Option ℕ) → read started l ≡ Some (record { negative = g; value = v }) →
    signed (record { negative = g; value = v }) ≡ Some z → Signed z l
signed_state z l g None e h = cc
signed_state z l g (Some m) e h = go (leb m (cond g 2147483648 2147483647)) refl
  where
    go : (t : Bool) → leb m (cond g 2147483648 2147483647) ≡ t → Signed z l
    go true p = let k = rw p at h in (g, (m, (cc, (leb-true m (cond g 2147483648 2147483647) p, written_only g m l e))))
    go false p = let k = rw p at h in cc

pub signed_only : (z : ℤ) (l : List ℕ) → signed_of l ≡ Some z → Signed z l
signed_only z l h = go (read started l) refl
  where
    go : (o : Option Word) → read started l ≡ o → Signed z l
    go None e = let k = rw e at h in cc
    go (Some w) e = signed_state z l w.negative w.value e (rw e at h)

pub integer_read : (z : ℤ) → Number z → signed_of (integer z) ≡ Some z
unfolding integer
integer_read (pos n) h = signed_in (pos n) (decimal n) (false, (n, (refl, (omega (arith, h.1), (0, refl)))))
integer_read (negsuc n) h = signed_in (negsuc n) (45 ∷ decimal (suc n)) (true, (suc n, (refl, (omega (arith, h.0), (0, refl)))))
