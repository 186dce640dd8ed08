-- `report::lines_of` meets its contract.
use native.Mathlib.Omega.{arith}
use Rattle.rounds.proofs.CodeLaws.{few_slots}
use Rattle.report.proofs.lines_of.Goals as goal

pub overflow_mul-result : goal.overflow_mul-result
overflow_mul-result c = record { fits = omega (arith, few_slots c.args.rules.now c.args.rule, c.slots_at.ensures) }

pub returns-clause-few : goal.returns-clause-few
returns-clause-few c = omega (arith, few_slots c.args.rules.now c.args.rule, c.slots_at.ensures)
