-- The report's lines by their numbers: one for each argument, two for each slot.
use Rattle.sizes.specs.Sizes as size
use Prim.Native.Nat.{ℕ, zero, suc, ◌+◌, ◌*◌, ◌/◌, ◌%◌, ◌≤◌, ◌<◌}
use native.Mathlib.Omega.{arith}
use native.Mathlib.Numerals.{add-one}
use mathlib.Core.Path.{◌≡◌, refl, ap, ◌∙◌}
use mathlib.Core.Bool.{Bool, true, false}
use mathlib.Core.List.{List, [], ◌∷◌, ◌++◌, append-nil}
use borrow.Author.Tests.{ltb-true, ltb-false, lt-ltb, le-ltb}
use Rattle.std.proofs.Common.{◌⊎◌, inl, inr}
use Rattle.std.proofs.lemmas.Bool.Decides.{nat_tests}
use lib.Dec.{eqb, ltb}
use lib.ListN.{length, get_or, take, length-append}
use Rattle.std.specs.Prelude.{min}
use Rattle.std.specs.List.{flat_map, range_with_len}
use Rattle.std.proofs.lemmas.List.{get_or_append_left, get_or-append-add}
use Rattle.std.proofs.lemmas.List.Concat.{flat_map-append, get_or-flat_map}
use Rattle.std.proofs.lemmas.List.FromFn.{length-range_with_len, get_or-range_with_len, length-map-range_with_len, get_or-map-range_with_len}
use Rattle.limits.specs.declared.Refusal.TheVariants.{Closed, Shape, Missing}
use Rattle.limits.specs.Refusal.{told}
use Rattle.lattice.specs.Value.{Value}
use Rattle.rows.specs.Row.{bound_of, value_at}
use Rattle.rules.specs.Read.{slots_at}
use Rattle.results.specs.Result.{bound_place}
use Rattle.rounds.proofs.CodeLaws.{few_slots}
use Rattle.store.specs.declared.Phase.{Phase}
use Rattle.store.specs.declared.Phase.TheVariants.{Absent, Open}
use Rattle.store.specs.declared.Store.{Store}
use Rattle.numeric.specs.Reading.{given, refused}
use Rattle.report.specs.Line.{done_text, argument_text, slot_text, statistics_text}
use Rattle.report.specs.Places.{lines_before}
use Rattle.report.specs.Report.{argument_lines, slot_pair, slot_lines, rule_lines, completed_lines, report_in, report_sized, report_of, line_count, nth_line}

-- ---- a line that there is, and one that there is not

module _ (lines : List (List ℕ)) (k : ℕ) where
  pub nth_given : {t : List ℕ} → k < length lines → get_or lines k [] ≡ t → nth_line (given lines) k ≡ given t
  nth_given h e = rw (lt-ltb k (length lines) h, e)

  pub nth_missing : length lines ≤ k → nth_line (given lines) k ≡ refused (told Missing)
  nth_missing h = rw (le-ltb k (length lines) h)

-- ---- the pieces f 0, f 1, .. up to f (n - 1), one behind the other

range_more : (a n : ℕ) → range_with_len a (suc n) ≡ range_with_len a n ++ ((a + n) ∷ [])
range_more a zero = let e : a + 0 ≡ a = omega arith in rw e
range_more a (suc n) = let e : (a + 1) + n ≡ a + suc n = omega arith in ap (λ (l : List ℕ). a ∷ l) (range_more (a + 1) n ∙ ap (λ (m : ℕ). range_with_len (a + 1) n ++ (m ∷ [])) e)

take_range : (a n i : ℕ) → i ≤ n → take i (range_with_len a n) ≡ range_with_len a i
take_range a n zero h = refl
take_range a zero (suc i) h = absurd (omega arith)
take_range a (suc n) (suc i) h = ap (λ (l : List ℕ). a ∷ l) (take_range (a + 1) n i (omega arith))

module _ (f : ℕ → List (List ℕ)) where
  pieces_more : (n : ℕ) → flat_map f (range_with_len 0 (suc n)) ≡ flat_map f (range_with_len 0 n) ++ f n
  pieces_more n =
      let e : 0 + n ≡ n = omega arith in
      ap (flat_map f) (rw e at (range_more 0 n)) ∙ (flat_map-append f (range_with_len 0 n) (n ∷ []) ∙ ap (λ (l : List (List ℕ)). flat_map f (range_with_len 0 n) ++ l) (append-nil (f n)))

  piece_at : (n r i : ℕ) → r < n → i < length (f r) → get_or (flat_map f (range_with_len 0 n)) (length (flat_map f (range_with_len 0 r)) + i) [] ≡ get_or (f r) i []
  piece_at n r i h g =
      let e : get_or (range_with_len 0 n) r 0 ≡ r = get_or-range_with_len 0 n r 0 h ∙ omega arith in
      let p = get_or-flat_map f (range_with_len 0 n) r i 0 [] (rw (length-range_with_len 0 n) h) (rw e g) in
      rw (take_range 0 n r (omega arith), e) at p

-- ---- the lines of rules

module _ (slots : List ℕ) (r : ℕ) where
  pairs_length : (a n : ℕ) → length (flat_map (slot_pair slots r) (range_with_len a n)) ≡ 2 * n
  pairs_length a zero = refl
  pairs_length a (suc n) = omega (arith, pairs_length (a + 1) n)

  pair_at : (k b : ℕ) → b < 2 → get_or (slot_pair slots r k) b [] ≡ slot_text r k (eqb b 1) (bound_of slots (bound_place r k (eqb b 1)))
  pair_at k zero h = refl
  pair_at k (suc zero) h = refl
  pair_at k (suc (suc b)) h = absurd (omega arith)

module _ (rules slots : List ℕ) where
  slots_length : (r : ℕ) → length (slot_lines rules slots r) ≡ 2 * slots_at rules r
  unfolding slot_lines
  slots_length r = pairs_length slots r 0 (slots_at rules r)

  slot_at : (r i : ℕ) → i < 2 * slots_at rules r → get_or (slot_lines rules slots r) i [] ≡ slot_text r (i / 2) (eqb (i % 2) 1) (bound_of slots (bound_place r (i / 2) (eqb (i % 2) 1)))
  unfolding slot_lines
  slot_at r i h =
      let e : length (flat_map (slot_pair slots r) (range_with_len 0 (i / 2))) + i % 2 ≡ i = omega (arith, pairs_length slots r 0 (i / 2)) in
      rw e at (piece_at (slot_pair slots r) (slots_at rules r) (i / 2) (i % 2) (omega arith) (omega arith)) ∙ pair_at slots r (i / 2) (i % 2) (omega arith)

  rules_length : (n : ℕ) → length (flat_map (slot_lines rules slots) (range_with_len 0 n)) ≡ lines_before rules n
  unfolding lines_before
  rules_length zero = refl
  rules_length (suc n) = rw (pieces_more (slot_lines rules slots) n, length-append) (omega (arith, rules_length n, slots_length n))

  rule_at : {r count i n : ℕ} → r < count → lines_before rules r + i ≡ n → i < 2 * slots_at rules r →
      get_or (flat_map (slot_lines rules slots) (range_with_len 0 count)) n [] ≡ slot_text r (i / 2) (eqb (i % 2) 1) (bound_of slots (bound_place r (i / 2) (eqb (i % 2) 1)))
  rule_at {r} {count} {i} h e g =
      let p = piece_at (slot_lines rules slots) count r i h (rw (slots_length r) g) in
      (rw (rules_length r, e) at p) ∙ slot_at r i g

-- ---- how many there are

pub none_before : (rules : List ℕ) → lines_before rules 0 ≡ 0
unfolding lines_before
none_before rules = refl

pub more_before : (rules : List ℕ) (n : ℕ) → lines_before rules (n + 1) ≡ lines_before rules n + 2 * slots_at rules n
unfolding lines_before
more_before rules n = rw add-one

pub few_before : (rules : List ℕ) (n : ℕ) → lines_before rules n ≤ 2 * size.slots * n
unfolding lines_before
few_before rules zero = omega arith
few_before rules (suc n) = omega (arith, few_before rules n, few_slots rules n)

before_grows : (rules : List ℕ) (r n : ℕ) → r ≤ n → lines_before rules r ≤ lines_before rules n
unfolding lines_before
before_grows rules r zero h = let e : r ≡ 0 = omega arith in rw e (omega arith)
before_grows rules r (suc n) h = go (ltb r (suc n)) refl (λ g. before_grows rules r n g)
  where
    go : (t : Bool) → ltb r (suc n) ≡ t → (r ≤ n → lines_before rules r ≤ lines_before rules n) → lines_before rules r ≤ lines_before rules (suc n)
    go true e p = let q : lines_before rules r ≤ lines_before rules n = p (omega (arith, ltb-true r (suc n) e)) in omega arith
    go false e p = let k : r ≡ suc n = omega (arith, ltb-false r (suc n) e) in rw k (omega arith)

pub before_all : (rules : List ℕ) {r i n : ℕ} → r < n → i < 2 * slots_at rules r → lines_before rules r + i < lines_before rules n
before_all rules {r} {i} {n} h g = omega (arith, before_grows rules (r + 1) n (omega arith), more_before rules r)

-- ---- the lines of a completed run's report

module _ (s : Store) (arguments rules slots : List ℕ) where
  arguments_whole : length (argument_lines s arguments) ≡ min s.counts.positions size.positions
  unfolding argument_lines
  arguments_whole = length-map-range_with_len _ 0 (min s.counts.positions size.positions)

  rules_whole : length (rule_lines s rules slots) ≡ lines_before rules (min s.counts.rules size.rules)
  unfolding rule_lines
  rules_whole = rules_length rules slots (min s.counts.rules size.rules)

  pub completed_length : length (completed_lines s arguments rules slots) ≡ min s.counts.positions size.positions + lines_before rules (min s.counts.rules size.rules) + 2
  completed_length = rw (length-append, length-append) (omega (arith, arguments_whole, rules_whole))

  line_is : (k : ℕ) {t : List ℕ} → k < min s.counts.positions size.positions + lines_before rules (min s.counts.rules size.rules) + 2 →
      get_or (completed_lines s arguments rules slots) k [] ≡ t → nth_line (given (completed_lines s arguments rules slots)) k ≡ given t
  line_is k h e = nth_given (completed_lines s arguments rules slots) k (rw completed_length h) e

  pub done_at : {k : ℕ} → k ≡ 0 → nth_line (given (completed_lines s arguments rules slots)) k ≡ given (done_text s.counts.positions s.counts.rules)
  done_at {k} e = line_is k (omega arith) (rw e)

  pub argument_at : {k j : ℕ} {v : Value} → k ≡ suc j → j < min s.counts.positions size.positions → v ≡ value_at arguments j →
      nth_line (given (completed_lines s arguments rules slots)) k ≡ given (argument_text j v)
  unfolding argument_lines
  argument_at {k} {j} {v} e h g =
      line_is k (omega arith) (rw (e, g)
      (get_or_append_left (argument_lines s arguments) (rule_lines s rules slots ++ (statistics_text s.budget.statistics ∷ [])) [] j (rw arguments_whole h) ∙
      get_or-map-range_with_len _ 0 (min s.counts.positions size.positions) j j [] h (omega arith)))

  behind : (n : ℕ) → get_or (completed_lines s arguments rules slots) (suc (min s.counts.positions size.positions + n)) [] ≡ get_or (rule_lines s rules slots ++ (statistics_text s.budget.statistics ∷ [])) n []
  behind n = (rw arguments_whole at (get_or-append-add (argument_lines s arguments) (rule_lines s rules slots ++ (statistics_text s.budget.statistics ∷ [])) n []))

  pub slot_line_at : {k n r i : ℕ} → k ≡ suc (min s.counts.positions size.positions + n) → r < min s.counts.rules size.rules → lines_before rules r + i ≡ n → i < 2 * slots_at rules r →
      nth_line (given (completed_lines s arguments rules slots)) k ≡ given (slot_text r (i / 2) (eqb (i % 2) 1) (bound_of slots (bound_place r (i / 2) (eqb (i % 2) 1))))
  unfolding rule_lines
  slot_line_at {k} {n} e h p g =
      let m : n < lines_before rules (min s.counts.rules size.rules) = omega (arith, before_all rules h g, p) in
      line_is k (omega arith) (rw e
      (behind n ∙ (get_or_append_left (rule_lines s rules slots) (statistics_text s.budget.statistics ∷ []) [] n (rw rules_whole m) ∙ rule_at rules slots h p g)))

  pub statistics_at : {k : ℕ} → k ≡ suc (min s.counts.positions size.positions + lines_before rules (min s.counts.rules size.rules)) →
      nth_line (given (completed_lines s arguments rules slots)) k ≡ given (statistics_text s.budget.statistics)
  statistics_at {k} e =
      let n : ℕ = lines_before rules (min s.counts.rules size.rules) in
      let z : n + 0 ≡ n = omega arith in
      line_is k (omega arith) (rw (e, behind n) (rw (rules_whole, z) at (get_or-append-add (rule_lines s rules slots) (statistics_text s.budget.statistics ∷ []) 0 [])))

  pub none_at : {k : ℕ} → min s.counts.positions size.positions + lines_before rules (min s.counts.rules size.rules) + 2 ≤ k →
      nth_line (given (completed_lines s arguments rules slots)) k ≡ refused (told Missing)
  none_at {k} h = nth_missing (completed_lines s arguments rules slots) k (rw completed_length h)

-- ---- the report, by what the code has tested

module _ (s : Store) (arguments rules slots : List ℕ) where
  pub report_shape : report_sized (length arguments) (length rules) (length slots) ≡ false → report_of s arguments rules slots ≡ refused (told Shape)
  unfolding report_of
  report_shape h = rw h

  pub report_phase : {p : Phase} → report_sized (length arguments) (length rules) (length slots) ≡ true → s.phase ≡ p → report_of s arguments rules slots ≡ report_in p s arguments rules slots
  unfolding report_of
  report_phase h e = rw (h, e)

  pub counted : {n : ℕ} {ls : List (List ℕ)} → report_of s arguments rules slots ≡ given ls → n ≡ length ls → given n ≡ line_count (report_of s arguments rules slots)
  counted e h = rw (e, h)

  pub not_ended : report_sized (length arguments) (length rules) (length slots) ≡ true → (s.phase ≡ Absent) ⊎ (s.phase ≡ Open) → report_of s arguments rules slots ≡ refused (told Closed)
  not_ended h (inl e) = report_phase h e
  not_ended h (inr e) = report_phase h e

pub slots_sized : (a r s : ℕ) → report_sized a r s ≡ true → s ≡ size.bounds_cells
slots_sized a r s h = grind (arith, nat_tests)
