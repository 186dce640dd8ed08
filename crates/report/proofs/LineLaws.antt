-- The lines of the report from the words put into them, over plain variables, and what a lent buffer then holds.
use Rattle.sizes.specs.Sizes as size
use Prim.Native.Nat.{ℕ, ◌≤◌}
use native.Mathlib.Omega.{arith}
use mathlib.Core.Path.{◌≡◌, refl, sym}
use mathlib.Core.Bool.{Bool}
use mathlib.Core.List.{List, [], ◌∷◌, append-nil}
use borrow.Author.Tests.{eq-eqb, ne_eqb}
use lib.ListN.{length}
use lib.Seq.{sets}
use Rattle.limits.specs.declared.Stop.{Stop}
use Rattle.limits.specs.declared.Refusal.{Refusal}
use Rattle.limits.specs.declared.Refusal.TheVariants.{Closed, Shape, Full, Limit, Missing, Descending, MissingSlot}
use Rattle.limits.specs.Refusal.{told}
use Rattle.limits.specs.Charge.{observed}
use Rattle.integers.proofs.Stores.{Writing, writing_all}
use Rattle.lattice.specs.Value.{value_of}
use Rattle.store.specs.declared.Store.{Store}
use Rattle.text.specs.Text.{decimal, spaced, spaced_words}
use Rattle.text.specs.Answers.{Puts}
use Rattle.text.proofs.Putting.{Leads, leads_all, puts_then, puts_same}
use Rattle.text.proofs.Words.{spaced_words_lem}
use Rattle.numeric.specs.declared.Ended.{Ended}
use Rattle.numeric.specs.Reading.{Reading, given, refused, argument_reading, slot_reading, status_reading}
use Rattle.numeric.specs.Answers.{reads, status}
use Rattle.std.proofs.Common.{Result, Ok, Err}
use Rattle.std.specs.Prelude.{IsErrAnd}
use Rattle.std.proofs.lemmas.Result.{err_from_is_err_and}
use Rattle.interval.specs.declared.Bound.{Bound}
use Rattle.lattice.specs.declared.Abstract.{Abstract}
use Rattle.report.specs.Line.{Lined, told_words, status_text, argument_text, slot_text, statistics_text, refusal_text, line_of, status_line, argument_line, slot_line, statistics_line, refusal_line, lined, on_buffer, written}

-- ---- a head word

pub word_put : (w l : List ℕ) (n : ℕ) {m : List ℕ} → Writing (sets l 0 w) m 0 w n → length w ≤ n → Puts w 0 l (length w) m
word_put w l n p h = record { place = omega arith; line = writing_all p h }

-- ---- the end of a line

-- its last words, and the line feed
pub line_last : {t : List ℕ} {a b c d : ℕ} {l m n o : List ℕ} (ws : List (List ℕ)) →
    Leads t a l (spaced ws) b m → Puts (spaced_words ws) b m c n → Puts (10 ∷ []) c n d o → Puts t a l d o
line_last ws p q r = leads_all p (puts_same (sym (spaced_words_lem ws)) (puts_then q r))

-- a number and a letter that a call worked out
pub count_same : {n k a b : ℕ} {l m : List ℕ} → n ≡ k → Puts (32 ∷ decimal n) a l b m → Puts (32 ∷ decimal k) a l b m
count_same e p = rw e at p

pub byte_same : {n k a b : ℕ} {l m : List ℕ} → n ≡ k → Puts (n ∷ []) a l b m → Puts (k ∷ []) a l b m
byte_same e p = rw e at p

-- ---- a refusal

-- one that carries no values
pub told_plain : (e : Refusal) {n a b : ℕ} {l m : List ℕ} → (told e).values ≡ [] → n ≡ (told e).number → Puts (32 ∷ decimal n) a l b m → Puts (spaced_words (told_words (told e))) a l b m
unfolding spaced_words
told_plain e z g p = puts_same (rw (z, append-nil, g)) p

module _ {e : Refusal} {n a b : ℕ} {l m : List ℕ} where
  pub told_limit : {s : Stop} {c d x : ℕ} {o p q : List ℕ} → e ≡ Limit s → n ≡ (told e).number →
      Puts (32 ∷ decimal n) a l b m → Puts (32 ∷ decimal s.limit) b m c o → Puts (32 ∷ []) c o d p → Puts (decimal (observed s)) d p x q →
      Puts (spaced_words (told_words (told e))) a l x q
  unfolding spaced_words
  told_limit h g u v w z = puts_same (rw (g, h, append-nil)) (puts_then u (puts_then v (puts_then w z)))

-- only a limit carries values
pub no_values : (e : Refusal) → ((s : Stop) → e ≡ Limit s → ⊥) → (told e).values ≡ []
no_values Closed h = refl
no_values Shape h = refl
no_values Full h = refl
no_values (Limit s) h = absurd (h s refl)
no_values Missing h = refl
no_values Descending h = refl
no_values MissingSlot h = refl

-- ---- in the lent buffer

module _ (buffer : List ℕ) (r : Reading (List ℕ)) where
  pub lined_shape : (length buffer ≡ size.line → ⊥) → written (Err Shape) buffer ≡ on_buffer buffer r
  lined_shape h = rw (ne_eqb (length buffer) size.line h)

  pub lined_refused : (e : Refusal) → length buffer ≡ size.line → r ≡ refused (told e) → written (Err e) buffer ≡ on_buffer buffer r
  lined_refused e h g = rw (eq-eqb (length buffer) size.line h, g)

  pub lined_given : {t : List ℕ} {n : ℕ} {after : List ℕ} → length buffer ≡ size.line → r ≡ given t → Puts t 0 buffer n after → written (Ok n) after ≡ on_buffer buffer r
  lined_given {t} {n} h g p =
      let e : n ≡ length t = omega (arith, p.place) in
      rw (eq-eqb (length buffer) size.line h, g) (λ i. lined (given (e i)) (p.line i))

pub statistics_lined : (s : Store) → statistics_line s ≡ given (statistics_text s.budget.statistics)
unfolding statistics_line
statistics_lined s = refl

pub refusal_lined : (e : Refusal) → refusal_line e ≡ given (refusal_text (told e))
unfolding refusal_line
refusal_lined e = refl

-- what is read, by the answer that the code took apart
module _ (s : Store) where
  pub status_lined : {r k : Result Ended Refusal} → reads status r ≡ status_reading s → r ≡ k → status_line s ≡ line_of (status_text s) (reads status k)
  unfolding status_line
  status_lined h e = rw (← h, e)

  pub argument_lined : (arguments : List ℕ) (a : ℕ) {r k : Result Abstract Refusal} → reads value_of r ≡ argument_reading s arguments a → r ≡ k →
      argument_line s arguments a ≡ line_of (argument_text a) (reads value_of k)
  unfolding argument_line
  argument_lined arguments a h e = rw (← h, e)

  pub slot_lined : (rules slots : List ℕ) (i k : ℕ) (after : Bool) {r b : Result Bound Refusal} → reads (λ b. b) r ≡ slot_reading s rules slots i k after → r ≡ b →
      slot_line s rules slots i k after ≡ line_of (slot_text i k after) (reads (λ b. b) b)
  unfolding slot_line
  slot_lined rules slots i k after h e = rw (← h, e)

-- the exit of a `?`
pub not_written : (x : Result ℕ Refusal) (e : Refusal) {b : List ℕ} {y : Lined} → IsErrAnd x (λ d. d ≡ e) → written (Err e) b ≡ y → written x b ≡ y
not_written x e h k = let p = err_from_is_err_and x h in rw (p.1, p.2) k
