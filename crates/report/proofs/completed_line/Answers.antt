-- `report::completed_line` meets its contract.
use native.Mathlib.Omega.{arith}
use mathlib.Core.Path.{refl}
use Rattle.limits.specs.declared.Refusal.TheVariants.{Missing}
use Rattle.rounds.proofs.CodeLaws.{few_slots}
use Rattle.report.proofs.LineLaws.{lined_given, lined_refused}
use Rattle.report.proofs.ReportLaws.{argument_at, slot_line_at, statistics_at, none_at, few_before}
use Rattle.report.proofs.completed_line.Goals as goal

pub returns-then-k-positions-clause-line : goal.returns-then-k-positions-clause-line
returns-then-k-positions-clause-line c =
    lined_given c.args.line.now _ c.requires.0 (argument_at c.args.store.now c.args.arguments.now c.args.rules.now c.args.slots.now (omega arith) (omega arith) c.abstract_at-value.ensures) c.put_argument.ensures

pub put_pair-requires : goal.put_pair-requires
put_pair-requires c = (omega arith, (omega arith, omega (arith, few_slots c.args.rules.now c.in-OfRule.rule)), c.requires.1)

pub returns-in-OfRule-clause-line : goal.returns-in-OfRule-clause-line
returns-in-OfRule-clause-line c =
    lined_given c.args.line.now _ c.requires.0 (slot_line_at c.args.store.now c.args.arguments.now c.args.rules.now c.args.slots.now (omega (arith, c.in-OfRule.ensures.1)) (omega arith) refl c.in-OfRule.ensures.2) c.put_pair.ensures

pub returns-in-OfRule-clause-few : goal.returns-in-OfRule-clause-few
returns-in-OfRule-clause-few c = omega (arith, c.in-OfRule.ensures.1, few_before c.args.rules.now c.in-OfRule.rule, few_slots c.args.rules.now c.in-OfRule.rule)

pub returns-in-Behind-eq0-clause-line : goal.returns-in-Behind-eq0-clause-line
returns-in-Behind-eq0-clause-line c =
    lined_given c.args.line.now _ c.requires.0 (statistics_at c.args.store.now c.args.arguments.now c.args.rules.now c.args.slots.now (omega (arith, rw c.min-rule_count.ensures at c.in-Behind-eq0.ensures, c.in-Behind-eq0.field-0-test))) c.put_statistics.ensures

pub returns-in-Behind-eq0-clause-few : goal.returns-in-Behind-eq0-clause-few
returns-in-Behind-eq0-clause-few c = omega (arith, c.in-Behind-eq0.ensures, c.in-Behind-eq0.field-0-test, few_before c.args.rules.now c.min-rule_count.result)

pub returns-in-Behind-clause-line : goal.returns-in-Behind-clause-line
returns-in-Behind-clause-line c =
    lined_refused c.args.line.now _ Missing c.requires.0 (none_at c.args.store.now c.args.arguments.now c.args.rules.now c.args.slots.now (omega (arith, rw c.min-rule_count.ensures at c.in-Behind.ensures, c.in-Behind.field-0-test)))
