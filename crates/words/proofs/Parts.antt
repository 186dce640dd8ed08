-- A text from the left: where its first word ends, and a word byte by byte.
use Prim.Native.Nat.{ℕ, suc, ◌+◌, ◌<◌, ◌≤◌}
use native.Mathlib.Omega.{arith}
use native.Mathlib.Numerals.{add-one}
use mathlib.Core.Path.{◌≡◌, refl}
use mathlib.Core.Bool.{Bool, true, false}
use mathlib.Core.List.{List, [], ◌∷◌}
use lib.ListN.{length, get_or, drop, drop_of_length-le}
use lib.Seq.{drop-cons}
use Rattle.std.specs.Prelude.{Some, None, fold}
use Rattle.words.specs.declared.Word.{Word}
use Rattle.words.specs.Words.{parts, word_length, pushed, onward, read}

-- ---- where a word ends

-- the bytes behind the i-th
behind : (text : List ℕ) (i : ℕ) → i < length text → drop i text ≡ get_or text i 0 ∷ drop (i + 1) text
behind text i h = rw (drop-cons text i 0 h, add-one)

pub length_here : (text : List ℕ) (i : ℕ) → i < length text → parts (get_or text i 0) ≡ true → word_length (drop i text) ≡ 0
unfolding word_length
length_here text i h e = rw (behind text i h, e)

pub length_more : (text : List ℕ) (i : ℕ) → i < length text → parts (get_or text i 0) ≡ false → word_length (drop i text) ≡ suc (word_length (drop (i + 1) text))
unfolding word_length
length_more text i h e = rw (behind text i h, e)

pub length_end : (text : List ℕ) (i : ℕ) → length text ≤ i → word_length (drop i text) ≡ 0
unfolding word_length
length_end text i h = rw (drop_of_length-le text h)

pub length_within : (text : List ℕ) → word_length text ≤ length text
unfolding word_length
length_within [] = omega arith
length_within (b ∷ l) = go (parts b) refl (length_within l)
  where
    go : (t : Bool) → parts b ≡ t → word_length l ≤ length l → word_length (b ∷ l) ≤ suc (length l)
    go true e h = rw e (omega arith)
    go false e h = rw e (omega arith)

-- ---- one byte more

pub read_none : (w : Word) → read w [] ≡ Some w
unfolding read
read_none w = refl

pub read_more : (w : Word) (b : ℕ) (l : List ℕ) {v : Word} → pushed w b ≡ Some v → read w (b ∷ l) ≡ read v l
unfolding read
read_more w b l e = rw e

pub stays_none : (l : List ℕ) → fold onward None l ≡ None
stays_none [] = refl
stays_none (b ∷ l) = stays_none l

pub read_broken : (w : Word) (b : ℕ) (l : List ℕ) → pushed w b ≡ None → read w (b ∷ l) ≡ None
unfolding read
read_broken w b l e = rw e (stays_none l)

-- the same, at the i-th byte of a part
module _ (w : Word) (part : List ℕ) (i : ℕ) where
  pub more_at : {v : Word} → i < length part → pushed w (get_or part i 0) ≡ Some v → read w (drop i part) ≡ read v (drop (i + 1) part)
  more_at h e = rw (behind part i h) (read_more w (get_or part i 0) (drop (i + 1) part) e)

  pub broken_at : i < length part → pushed w (get_or part i 0) ≡ None → read w (drop i part) ≡ None
  broken_at h e = rw (behind part i h) (read_broken w (get_or part i 0) (drop (i + 1) part) e)

  pub end_at : length part ≤ i → read w (drop i part) ≡ Some w
  end_at h = rw (drop_of_length-le part h) (read_none w)
