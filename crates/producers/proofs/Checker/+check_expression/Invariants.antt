-- `producers::Checker::check_expression` meets its contract.
use Rattle.producers.proofs.Checker.+check_expression.Given as goal

abbrev pub decreases-check_expression : goal.decreases-check_expression
decreases-check_expression l = l.id
