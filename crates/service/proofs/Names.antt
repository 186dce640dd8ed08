-- The name of a constant has at most 64 bytes, so that they all stand in the lent ones, and read back.
use Rattle.std.specs.Prelude.{ℕ, ◌+◌, ◌*◌, ◌≤◌, min, Bool, true, false, cond, eqb, List, [], length, take, drop, Result, Ok, Err}
use Rattle.std.specs.Borrow.{Bor}
use native.Mathlib.Omega.{arith}
use mathlib.Core.Path.{◌≡◌, sym, ap, subst, ◌∙◌}
use Rattle.std.proofs.Math.Seq.{take-append_seam, drop-append_seam}
use lib.ListN.{length-take}
use Rattle.std.proofs.lemmas.List.Edits.{sets-eq}
use Rattle.sizes.specs.Sizes as size
use Rattle.limits.specs.declared.Refusal.{Refusal}
use Rattle.keys.specs.Key.{kind_at, payload_at, put_name}
use Rattle.keys.specs.Key as keys
use Rattle.store.specs.declared.Phase.{Phase}
use Rattle.store.specs.declared.Phase.TheVariants.{Absent, Open, Completed}
use Rattle.store.specs.declared.Phase.TheVariants as phases
use Rattle.store.specs.declared.Store.{Store}
use Rattle.numeric.specs.Reading.{Reading, given, in_phase, reading, there, name_reading}
use Rattle.numeric.specs.Reading as readings
use Rattle.numeric.specs.Answers.{reads}
use Rattle.numeric.specs.Step as calls
use Rattle.numeric.specs.Question as asks
use Rattle.replies.specs.declared.Reply.{Reply}
use Rattle.replies.specs.Reply.{accepting, refusing}
use Rattle.soundness.specs.Code.{shown_tells}
use Rattle.service.specs.Told.{bytes}
use Rattle.service.proofs.Answers.{refusing_told}

-- what is written at the beginning of the lent bytes reads back
take_put : (t l : List ℕ) → length l ≤ length t → take (length l) (put_name t 0 l) ≡ l
take_put t l h = ap (take (length l)) (sets-eq l t 0 (omega (arith, h))) ∙ take-append_seam l (drop (0 + length l) t)

pub bytes_told : {r : Result (Bor (List ℕ)) Refusal} (p : Bor (List ℕ)) {a : Reply} (t : List ℕ) {t' : List ℕ} → r ≡ Ok p → a ≡ accepting (length p.now) → t' ≡ put_name t 0 p.now → length p.now ≤ length t →
    shown_tells asks.bytes (λ q. q.now) r ≡ bytes a t'
bytes_told p {a} t {t'} e f g h = ap (shown_tells asks.bytes (λ q. q.now)) e ∙ ap (λ l. calls.shows (asks.bytes l)) (sym (take_put t p.now h)) ∙ ap (bytes (accepting (length p.now))) (sym g) ∙ ap (λ b. bytes b t') (sym f)

pub no_bytes_told : {r : Result (Bor (List ℕ)) Refusal} (e : Refusal) {a : Reply} (t : List ℕ) → r ≡ Err e → a ≡ refusing e → shown_tells asks.bytes (λ q. q.now) r ≡ bytes a t
no_bytes_told e {a} t f g = ap (shown_tells asks.bytes (λ q. q.now)) f ∙ sym (refusing_told _ e) ∙ ap (λ b. bytes b t) (sym g)

-- and the bytes behind it stay
pub rest_stays : (p : Bor (List ℕ)) (t : List ℕ) {a : Reply} {t' : List ℕ} → a ≡ accepting (length p.now) → t' ≡ put_name t 0 p.now → length p.now ≤ length t → drop a.value t' ≡ drop a.value t
rest_stays p t e f h = rw (e, f) (ap (drop (length p.now)) (sets-eq p.now t 0 (omega (arith, h))) ∙ drop-append_seam p.now (drop (0 + length p.now) t) ∙ ap (λ (n : ℕ). drop n t) (from_zero (length p.now)))
  where
    from_zero : (n : ℕ) → 0 + n ≡ n
    from_zero n = omega arith

-- ---- a name has at most 64 bytes

abbrev given_length : Reading (List ℕ) → ℕ
given_length (given l) = length l
given_length (readings.refused e) = 0

taken : (k : Bool) (n : ℕ) (l : List ℕ) → length (cond k (take (min n size.name) l) []) ≤ size.name
taken true n l = omega (arith, length-take (min n size.name) l)
taken false n l = omega arith

there_short : (b : Bool) (l : List ℕ) → length l ≤ size.name → given_length (there b l) ≤ size.name
there_short true l h = h
there_short false l h = omega arith

phase_short : (p : Phase) (r : Reading (List ℕ)) → given_length r ≤ size.name → given_length (in_phase p r) ≤ size.name
phase_short Absent r h = omega arith
phase_short Open r h = omega arith
phase_short Completed r h = h
phase_short (phases.Stopped e c) r h = omega arith

sized_short : (b : Bool) (s : Store) (r : Reading (List ℕ)) → given_length r ≤ size.name → given_length (reading b s r) ≤ size.name
sized_short true s r h = phase_short s.phase r h
sized_short false s r h = omega arith

pub name_short : {r : Result (Bor (List ℕ)) Refusal} (p : Bor (List ℕ)) (s : Store) (names cells : List ℕ) (k : ℕ) → reads (λ q. q.now) r ≡ name_reading s names cells k → r ≡ Ok p → length p.now ≤ size.name
unfolding name_reading keys.name_at
name_short p s names cells k e f = subst (λ n. n ≤ size.name) (ap given_length (sym e ∙ ap (reads (λ q. q.now)) f)) (sized_short _ s _ (there_short _ _ (taken (eqb (kind_at cells k) 2) (payload_at cells k) (drop (size.name * k) names))))
