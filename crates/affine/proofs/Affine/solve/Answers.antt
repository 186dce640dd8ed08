-- `affine::Affine::solve` meets its contract.
use Rattle.std.proofs.Common.{arith}
use Rattle.std.proofs.lemmas.Int.{to_z-of_z}
use Rattle.affine.proofs.CodeLaws.{sum_solved, difference_solved, reversed_solved}
use Rattle.affine.proofs.Affine.solve.Goals as goal

pub returns-in-Sum : goal.returns-in-Sum
returns-in-Sum c = sum_solved c.args.interval c.args.self.constant c.in-Some.ensures c.in-Sum.is (grind (arith, to_z-of_z))

pub returns-in-Difference : goal.returns-in-Difference
returns-in-Difference c = difference_solved c.args.interval c.args.self.constant c.in-Some.ensures c.in-Difference.is (grind (arith, to_z-of_z))

pub returns-in-Reversed : goal.returns-in-Reversed
returns-in-Reversed c = reversed_solved c.args.interval c.args.self.constant c.in-Some.ensures c.in-Reversed.is (grind (arith, to_z-of_z))
