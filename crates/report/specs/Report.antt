-- The report as a whole: all of its lines in 01's order, whose words are quoted. "after all `a` lines, rule by rule, slot by slot, `d` then `g`"
use Rattle.std.specs.Prelude.{ℕ, min, Bool, true, false, cond, ◌&&◌, List, [], ◌∷◌, ◌++◌, map, eqb, ltb, length, get_or}
use Rattle.std.specs.List.{flat_map, range_with_len}
use Rattle.sizes.specs.Sizes as size
use Rattle.limits.specs.declared.Refusal.TheVariants.{Closed, Shape, Limit}
use Rattle.limits.specs.declared.Stop.{Stop}
use Rattle.limits.specs.Refusal.{told}
use Rattle.rows.specs.Row.{bound_of, value_at}
use Rattle.rules.specs.Read.{slots_at}
use Rattle.results.specs.Result.{bound_place}
use Rattle.store.specs.declared.Phase.{Phase}
use Rattle.store.specs.declared.Phase.TheVariants.{Absent, Open, Completed, Stopped}
use Rattle.store.specs.declared.Store.{Store}
use Rattle.numeric.specs.Reading.{Reading, given, refused, there}
use Rattle.report.specs.Line.{done_text, stop_text, argument_text, slot_text, statistics_text}

-- the `a` line of each argument. A header that counts more rows than a table has reads as one that counts all of them
unfoldable pub argument_lines : Store → List ℕ → List (List ℕ)
argument_lines s arguments = map (λ a. argument_text a (value_at arguments a)) (range_with_len 0 (min s.counts.positions size.positions))

-- "`d` then `g`"
abbrev pub slot_pair : List ℕ → ℕ → ℕ → List (List ℕ)
slot_pair slots r k = slot_text r k false (bound_of slots (bound_place r k false)) ∷ slot_text r k true (bound_of slots (bound_place r k true)) ∷ []

-- "slot by slot"
unfoldable pub slot_lines : List ℕ → List ℕ → ℕ → List (List ℕ)
slot_lines rules slots r = flat_map (slot_pair slots r) (range_with_len 0 (slots_at rules r))

-- "rule by rule"
unfoldable pub rule_lines : Store → List ℕ → List ℕ → List (List ℕ)
rule_lines s rules slots = flat_map (slot_lines rules slots) (range_with_len 0 (min s.counts.rules size.rules))

abbrev pub completed_lines : Store → List ℕ → List ℕ → List ℕ → List (List ℕ)
completed_lines s arguments rules slots =
    done_text s.counts.positions s.counts.rules ∷ (argument_lines s arguments ++ (rule_lines s rules slots ++ (statistics_text s.budget.statistics ∷ [])))

-- "a stopped run: `stop` [..], then `s`"
abbrev pub stopped_lines : Store → Stop → List (List ℕ)
stopped_lines s e = stop_text (told (Limit e)) ∷ statistics_text s.budget.statistics ∷ []

-- before the run has ended there is no report
abbrev pub report_in : Phase → Store → List ℕ → List ℕ → List ℕ → Reading (List (List ℕ))
report_in Absent s arguments rules slots = refused (told Closed)
report_in Open s arguments rules slots = refused (told Closed)
report_in Completed s arguments rules slots = given (completed_lines s arguments rules slots)
report_in (Stopped e c) s arguments rules slots = given (stopped_lines s e)

abbrev pub report_sized : ℕ → ℕ → ℕ → Bool
report_sized arguments rules slots = eqb arguments size.argument_cells && (eqb rules size.rule_cells && eqb slots size.bounds_cells)

unfoldable pub report_of : Store → List ℕ → List ℕ → List ℕ → Reading (List (List ℕ))
report_of s arguments rules slots =
    cond (report_sized (length arguments) (length rules) (length slots)) (report_in s.phase s arguments rules slots) (refused (told Shape))

-- how many lines it has, and the k-th of them, or 5
abbrev pub line_count : Reading (List (List ℕ)) → Reading ℕ
line_count (given lines) = given (length lines)
line_count (refused e) = refused e

abbrev pub nth_line : Reading (List (List ℕ)) → ℕ → Reading (List ℕ)
nth_line (given lines) k = there (ltb k (length lines)) (get_or lines k [])
nth_line (refused e) k = refused e
