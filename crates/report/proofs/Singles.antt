-- Each line of a report is the one that its own entry point writes.
use Rattle.sizes.specs.Sizes as size
use Prim.Native.Nat.{ℕ, suc, ◌+◌, ◌*◌, ◌/◌, ◌%◌, ◌<◌}
use native.Mathlib.Omega.{arith}
use mathlib.Core.Path.{◌≡◌, refl}
use mathlib.Core.Bool.{Bool, true, false, cond}
use mathlib.Core.List.{List}
use borrow.Author.Tests.{lt-ltb, eq-eqb}
use lib.ListN.{length}
use Rattle.std.specs.Prelude.{min}
use Rattle.limits.specs.declared.Stop.{Stop}
use Rattle.limits.specs.Context.{Context}
use Rattle.rules.specs.Read.{slots_at}
use Rattle.store.specs.declared.Phase.TheVariants.{Completed, Stopped}
use Rattle.store.specs.declared.Store.{Store}
use Rattle.numeric.specs.Reading.{argument_reading, slot_reading, status_reading}
use Rattle.report.specs.Line.{status_line, argument_line, slot_line, statistics_line}
use Rattle.report.specs.Places.{lines_before}
use Rattle.report.specs.Report.{report_sized, report_of, nth_line}
use Rattle.report.proofs.ReportLaws.{report_phase, done_at, argument_at, slot_line_at, statistics_at}

module _ (s : Store) (arguments rules slots : List ℕ) (a : length arguments ≡ size.argument_cells) (r : length rules ≡ size.rule_cells) (b : length slots ≡ size.bounds_cells) where
  sized : report_sized (length arguments) (length rules) (length slots) ≡ true
  sized = rw (eq-eqb (length arguments) size.argument_cells a, eq-eqb (length rules) size.rule_cells r, eq-eqb (length slots) size.bounds_cells b)

  -- a completed run: line 1, the `a` lines, `d` and `g` of each slot, and the line `s`
  module _ (e : s.phase ≡ Completed) where
    pub status_single : nth_line (report_of s arguments rules slots) 0 ≡ status_line s
    unfolding status_line status_reading
    status_single = rw (report_phase s arguments rules slots sized e, done_at s arguments rules slots refl, e)

    pub argument_single : (j : ℕ) → j < min s.counts.positions size.positions → nth_line (report_of s arguments rules slots) (suc j) ≡ argument_line s arguments j
    unfolding argument_line argument_reading
    argument_single j h =
        let n : j < s.counts.positions = omega arith in
        rw (report_phase s arguments rules slots sized e, argument_at s arguments rules slots {k = suc j} {j = j} refl h refl, e, eq-eqb (length arguments) size.argument_cells a, lt-ltb j s.counts.positions n)

    pub slot_single : (i k : ℕ) (after : Bool) → i < min s.counts.rules size.rules → k < slots_at rules i →
        nth_line (report_of s arguments rules slots) (suc (min s.counts.positions size.positions + (lines_before rules i + (2 * k + cond after 1 0)))) ≡ slot_line s rules slots i k after
    unfolding slot_line slot_reading
    slot_single i k false h g =
        let n : i < s.counts.rules = omega arith in
        let q : (2 * k + 0) / 2 ≡ k = omega arith in
        let m : (2 * k + 0) % 2 ≡ 0 = omega arith in
        let t = rw (q, m) at (slot_line_at s arguments rules slots {r = i} {i = 2 * k + 0} refl h refl (omega arith)) in
        rw (report_phase s arguments rules slots sized e, t, e, eq-eqb (length rules) size.rule_cells r, eq-eqb (length slots) size.bounds_cells b, lt-ltb i s.counts.rules n, lt-ltb k (slots_at rules i) g)
    slot_single i k true h g =
        let n : i < s.counts.rules = omega arith in
        let q : (2 * k + 1) / 2 ≡ k = omega arith in
        let m : (2 * k + 1) % 2 ≡ 1 = omega arith in
        let t = rw (q, m) at (slot_line_at s arguments rules slots {r = i} {i = 2 * k + 1} refl h refl (omega arith)) in
        rw (report_phase s arguments rules slots sized e, t, e, eq-eqb (length rules) size.rule_cells r, eq-eqb (length slots) size.bounds_cells b, lt-ltb i s.counts.rules n, lt-ltb k (slots_at rules i) g)

    pub statistics_single : nth_line (report_of s arguments rules slots) (suc (min s.counts.positions size.positions + lines_before rules (min s.counts.rules size.rules))) ≡ statistics_line s
    unfolding statistics_line
    statistics_single = rw (report_phase s arguments rules slots sized e, statistics_at s arguments rules slots refl)

  -- a stopped one
  module _ {stop : Stop} {c : Context} (e : s.phase ≡ Stopped stop c) where
    pub stop_single : nth_line (report_of s arguments rules slots) 0 ≡ status_line s
    unfolding status_line status_reading
    stop_single = rw (report_phase s arguments rules slots sized e, e)

    pub stopped_statistics : nth_line (report_of s arguments rules slots) 1 ≡ statistics_line s
    unfolding statistics_line
    stopped_statistics = rw (report_phase s arguments rules slots sized e)
