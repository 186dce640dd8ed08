-- What a live step keeps: good words stay good, and their bytes grow by the byte that is read.
use Rattle.std.specs.Prelude.{ℕ, Bool, ◌≤◌, ◌<◌, ◌+◌, true, eqb, ltb, length, ◌≡◌, refl, List, [], ◌∷◌, ◌++◌}
use mathlib.Core.Path.{sym, ap, subst, ◌∙◌}
use native.Mathlib.Omega.{arith}
use Rattle.std.proofs.Math.Option.{Option, some, none}
use Rattle.std.proofs.lemmas.Bool.{eqb-true, leb-true, ltb-true}
use Rattle.std.proofs.lemmas.List.{append_assoc, length-append}
use Rattle.integers.specs.Lists.{All}
use Rattle.integers.proofs.Tests.{by_cond, and_left, and_right}
use Rattle.grammar.specs.Bytes.{Blanks, Digit, Capital, Lower, LetterOrDigit}
use Rattle.grammar.specs.Grammar.{Word, word, Piece, byte, word_pieces, literal_pieces, IsDigits, IsName, IsVariable}
use Rattle.grammar.specs.Reader.{Class, digit, capital, lower, within, class_of, and_then, longer, name_longer}
use Rattle.grammar.specs.Reader as reader
use Rattle.grammar.proofs.SoundParts.{byte_in, more_name, more_digits}
use Rattle.grammar.proofs.Grows.{Grows}

-- ---- what is true of a step's answer, if it is alive

abbrev pub Kept : {A : Type 0} → (A → Type 0) → Option A → Type 0
Kept P none = Unit {0}
Kept P (some a) = P a

pub kept_map : {A B : Type 0} (P : A → Type 0) (Q : B → Type 0) (f : A → B) → ((a : A) → P a → Q (f a)) → (o : Option A) → Kept P o → Kept Q (and_then o (λ a. some (f a)))
kept_map P Q f h none k = tt
kept_map P Q f h (some a) k = h a k

pub kept_more : {A : Type 0} {P Q : A → Type 0} → ((a : A) → P a → Q a) → (o : Option A) → Kept P o → Kept Q o
kept_more h none k = tt
kept_more h (some a) k = h a k

pub kept_at : {A : Type 0} (P : A → Type 0) (o : Option A) {a : A} → o ≡ some a → Kept P o → P a
kept_at P o e k = subst (Kept P) e k

-- ---- classes

abbrev pub GoodClass : Class → Type 0
GoodClass (digit b) = Digit b
GoodClass (capital b) = Capital b
GoodClass (lower b) = Lower b
GoodClass c = Unit {0}

between : (low high b : ℕ) → within low high b ≡ true → (low ≤ b) × (b ≤ high)
between low high b e = (leb-true low b (and_left _ _ e), leb-true b high (and_right _ _ e))

pub class_good : (b : ℕ) → GoodClass (class_of b)
unfolding class_of
class_good b =
    by_cond GoodClass (eqb b 32) (λ e. tt) (λ n. by_cond GoodClass (eqb b 10) (λ e. tt) (λ n.
    by_cond GoodClass (within 48 57 b) (λ e. between 48 57 b e) (λ n. by_cond GoodClass (within 65 90 b) (λ e. between 65 90 b e) (λ n.
    by_cond GoodClass (within 97 122 b) (λ e. between 97 122 b e) (λ n.
    by_cond GoodClass (eqb b 40) (λ e. tt) (λ n. by_cond GoodClass (eqb b 41) (λ e. tt) (λ n. by_cond GoodClass (eqb b 42) (λ e. tt) (λ n.
    by_cond GoodClass (eqb b 43) (λ e. tt) (λ n. by_cond GoodClass (eqb b 44) (λ e. tt) (λ n. by_cond GoodClass (eqb b 45) (λ e. tt) (λ n.
    by_cond GoodClass (eqb b 46) (λ e. tt) (λ n. by_cond GoodClass (eqb b 58) (λ e. tt) (λ n. by_cond GoodClass (eqb b 60) (λ e. tt) (λ n.
    by_cond GoodClass (eqb b 61) (λ e. tt) (λ n. by_cond GoodClass (eqb b 62) (λ e. tt) (λ n. by_cond GoodClass (eqb b 33) (λ e. tt) (λ n. tt)))))))))))))))))

-- ---- a class tells its byte

abbrev pub Tells : ℕ → Class → Type 0
Tells b c = (c ≡ reader.other → ⊥) → byte_in c ≡ b

pub class_tells : (b : ℕ) → Tells b (class_of b)
unfolding class_of
class_tells b =
    by_cond (Tells b) (eqb b 32) (λ e n. sym (eqb-true b 32 e)) (λ n.
    by_cond (Tells b) (eqb b 10) (λ e n. sym (eqb-true b 10 e)) (λ n.
    by_cond (Tells b) (within 48 57 b) (λ e n. refl) (λ n.
    by_cond (Tells b) (within 65 90 b) (λ e n. refl) (λ n.
    by_cond (Tells b) (within 97 122 b) (λ e n. refl) (λ n.
    by_cond (Tells b) (eqb b 40) (λ e n. sym (eqb-true b 40 e)) (λ n.
    by_cond (Tells b) (eqb b 41) (λ e n. sym (eqb-true b 41 e)) (λ n.
    by_cond (Tells b) (eqb b 42) (λ e n. sym (eqb-true b 42 e)) (λ n.
    by_cond (Tells b) (eqb b 43) (λ e n. sym (eqb-true b 43 e)) (λ n.
    by_cond (Tells b) (eqb b 44) (λ e n. sym (eqb-true b 44 e)) (λ n.
    by_cond (Tells b) (eqb b 45) (λ e n. sym (eqb-true b 45 e)) (λ n.
    by_cond (Tells b) (eqb b 46) (λ e n. sym (eqb-true b 46 e)) (λ n.
    by_cond (Tells b) (eqb b 58) (λ e n. sym (eqb-true b 58 e)) (λ n.
    by_cond (Tells b) (eqb b 60) (λ e n. sym (eqb-true b 60 e)) (λ n.
    by_cond (Tells b) (eqb b 61) (λ e n. sym (eqb-true b 61 e)) (λ n.
    by_cond (Tells b) (eqb b 62) (λ e n. sym (eqb-true b 62 e)) (λ n.
    by_cond (Tells b) (eqb b 33) (λ e n. sym (eqb-true b 33 e)) (λ n.
    (λ o. absurd (o refl)))))))))))))))))))

-- ---- words

-- one byte more at the end of the second of two
pub end_more : (c d a : List Piece) (b : ℕ) → d ≡ c ++ (byte b ∷ []) → a ++ d ≡ (a ++ c) ++ (byte b ∷ [])
end_more c d a b e = ap (λ k. a ++ k) e ∙ sym (append_assoc a c (byte b ∷ []))

pub all_more : {A : Type 0} (P : A → Type 0) (s : List A) (b : A) → All P s → P b → All P (s ++ (b ∷ []))
all_more P [] b a p = (p, tt)
all_more P (c ∷ s) b a p = (a.0, all_more P s b a.1 p)

more_length : (s : List ℕ) (b : ℕ) → length s < 64 → length (s ++ (b ∷ [])) ≤ 64
more_length s b m = let e : length (s ++ (b ∷ [])) ≡ length s + 1 = length-append s (b ∷ []) in omega (arith, m, e)

name_more : (s : List ℕ) (b : ℕ) → IsName s → LetterOrDigit b → length s < 64 → IsName (s ++ (b ∷ []))
name_more [] b h p m = absurd h
name_more (c ∷ s) b h p m = (h.0, (all_more LetterOrDigit s b h.1.0 p, more_length (c ∷ s) b m))

variable_more : (s : List ℕ) (b : ℕ) → IsVariable s → LetterOrDigit b → length s < 64 → IsVariable (s ++ (b ∷ []))
variable_more [] b h p m = absurd h
variable_more (c ∷ s) b h p m = (h.0, (all_more LetterOrDigit s b h.1.0 p, more_length (c ∷ s) b m))

digits_more : (s : List ℕ) (b : ℕ) → IsDigits s → Digit b → IsDigits (s ++ (b ∷ []))
digits_more [] b h p = absurd h
digits_more (c ∷ s) b h p = (h.0, all_more Digit s b h.1 p)

-- a word that is good and has one byte more
abbrev pub Longer : (List ℕ → Type 0) → Word → ℕ → Word → Type 0
Longer P w b v = P v.bytes × (word_pieces v ≡ word_pieces w ++ (byte b ∷ []))

longer_kept : (P : List ℕ → Type 0) (s : List ℕ) (k : Blanks) (b : ℕ) → P (s ++ (b ∷ [])) → Kept (Longer P (word s k) b) (longer (word s k) b)
longer_kept P s [] b p = (p, more_name s b)
longer_kept P s (x ∷ k) b p = tt

pub name_grows : (w : Word) (b : ℕ) → IsName w.bytes → LetterOrDigit b → Kept (Longer IsName w b) (name_longer w b)
name_grows w b h p = by_cond (Kept (Longer IsName w b)) (ltb (length w.bytes) 64) (λ e. longer_kept IsName w.bytes w.blanks b (name_more w.bytes b h p (ltb-true _ _ e))) (λ n. tt)

pub variable_grows : (w : Word) (b : ℕ) → IsVariable w.bytes → LetterOrDigit b → Kept (Longer IsVariable w b) (name_longer w b)
variable_grows w b h p = by_cond (Kept (Longer IsVariable w b)) (ltb (length w.bytes) 64) (λ e. longer_kept IsVariable w.bytes w.blanks b (variable_more w.bytes b h p (ltb-true _ _ e))) (λ n. tt)

-- digits that are good and have one more
abbrev pub LongerDigits : Word → ℕ → Word → Type 0
LongerDigits w b v = IsDigits v.bytes × ((own : Bool) → Grows b (literal_pieces own w) (literal_pieces own v))

digits_kept : (s : List ℕ) (k : Blanks) (b : ℕ) → IsDigits (s ++ (b ∷ [])) → Kept (LongerDigits (word s k) b) (longer (word s k) b)
digits_kept s [] b p = (p, λ own. more_digits own s b)
digits_kept s (x ∷ k) b p = tt

pub digits_grow : (w : Word) (b : ℕ) → IsDigits w.bytes → Digit b → Kept (LongerDigits w b) (longer w b)
digits_grow w b h p = digits_kept w.bytes w.blanks b (digits_more w.bytes b h p)
