-- The lines of the report: what each is of a store, and what writing one leaves in a lent buffer.
use Rattle.std.specs.Prelude.{ℕ, Bool, cond, List, [], ◌∷◌, ◌++◌, map, eqb, length, Result, Ok, Err}
use Rattle.sizes.specs.Sizes as size
use Rattle.std.proofs.lemmas.List.Edits.{sets}
use Rattle.limits.specs.declared.Refusal.{Refusal}
use Rattle.limits.specs.declared.Refusal.TheVariants.{Shape}
use Rattle.limits.specs.declared.Statistics.{Statistics}
use Rattle.limits.specs.Refusal.{Told, told}
use Rattle.interval.specs.declared.Bound.{Bound}
use Rattle.lattice.specs.Value.{Value, reason_number}
use Rattle.store.specs.declared.Store.{Store}
use Rattle.numeric.specs.Reading.{Reading, given, refused, Status, completed, halted, argument_reading, slot_reading, status_reading}
use Rattle.text.specs.Text.{decimal, bound_words, list_word, line}

-- ---- the lines

-- a refusal's number, and its limit and observed sum if it carries them
abbrev pub told_words : Told → List (List ℕ)
told_words t = decimal t.number ∷ map decimal t.values

-- 01: "Line 1: arguments, rules (a stopped run: `stop`, the resource as its refusal number, limit, observed [..])": first the bytes of `done`
abbrev pub done_text : ℕ → ℕ → List ℕ
done_text arguments rules = line (100 ∷ 111 ∷ 110 ∷ 101 ∷ []) (decimal arguments ∷ decimal rules ∷ [])

-- first the bytes of `stop`
abbrev pub stop_text : Told → List ℕ
stop_text t = line (115 ∷ 116 ∷ 111 ∷ 112 ∷ []) (told_words t)

abbrev pub status_text : Store → Status → List ℕ
status_text s completed = done_text s.counts.positions s.counts.rules
status_text s (halted t c) = stop_text t

-- 01: "`a`: argument, I or M, low, high, list [..], reason"; 97 is `a`
abbrev pub argument_text : ℕ → Value → List ℕ
argument_text a v = line (97 ∷ []) (decimal a ∷ (bound_words v.bound ++ (list_word v.values ∷ decimal (reason_number v.widening) ∷ [])))

-- 01: "`d`, `g`: rule, slot, bound before and after guards"; 100 is `d`, 103 `g`
abbrev pub slot_text : ℕ → ℕ → Bool → Bound → List ℕ
slot_text r k after b = line (cond after 103 100 ∷ []) (decimal r ∷ decimal k ∷ bound_words b)

-- 01: "`s`: predicates, positions, links, live entries, rounds, inspected bytes, widened"; 115 is `s`
abbrev pub statistics_text : Statistics → List ℕ
statistics_text n =
    line (115 ∷ [])
    (map decimal (n.predicates ∷ n.positions ∷ n.links ∷ n.entries ∷ n.rounds ∷ n.bytes ∷ n.widened ∷ []))

-- a refusal as a job's line has it: the bytes of `refused`, its number, and its limit and observed sum
abbrev pub refusal_text : Told → List ℕ
refusal_text t = line (114 ∷ 101 ∷ 102 ∷ 117 ∷ 115 ∷ 101 ∷ 100 ∷ []) (told_words t)

-- ---- what is read, as its line

abbrev pub line_of : {A : Type 0} → (A → List ℕ) → Reading A → Reading (List ℕ)
line_of f (given a) = given (f a)
line_of f (refused e) = refused e

unfoldable pub status_line : Store → Reading (List ℕ)
status_line s = line_of (status_text s) (status_reading s)

unfoldable pub argument_line : Store → List ℕ → ℕ → Reading (List ℕ)
argument_line s arguments a = line_of (argument_text a) (argument_reading s arguments a)

unfoldable pub slot_line : Store → List ℕ → List ℕ → ℕ → ℕ → Bool → Reading (List ℕ)
slot_line s rules slots r k after = line_of (slot_text r k after) (slot_reading s rules slots r k after)

-- the statistics are a field of the header, which no phase hides
unfoldable pub statistics_line : Store → Reading (List ℕ)
statistics_line s = given (statistics_text s.budget.statistics)

unfoldable pub refusal_line : Refusal → Reading (List ℕ)
refusal_line e = given (refusal_text (told e))

-- ---- in a buffer that every line fits; one of another size meets 1

pub record Lined : Type 0 where
  pub answer : Reading ℕ
  pub buffer : List ℕ

abbrev pub lined : Reading ℕ → List ℕ → Lined
lined a b = record { answer = a; buffer = b }

-- the line stands at the start, and the answer is its length; a refused one changes nothing
abbrev pub put_line : List ℕ → Reading (List ℕ) → Lined
put_line buffer (given text) = lined (given (length text)) (sets buffer 0 text)
put_line buffer (refused e) = lined (refused e) buffer

abbrev pub on_buffer : List ℕ → Reading (List ℕ) → Lined
on_buffer buffer r = cond (eqb (length buffer) size.line) (put_line buffer r) (lined (refused (told Shape)) buffer)

-- what a line's function answers and leaves in the buffer, as its definition says it
abbrev pub written : Result ℕ Refusal → List ℕ → Lined
written (Ok n) b = lined (given n) b
written (Err e) b = lined (refused (told e)) b
