-- `engine::seed` meets its contract.
use Rattle.limits.proofs.Answering.{went, broke, exits}
use Rattle.limits.proofs.Monad.{then_stop, then_on, through_stop, through_on}
use Rattle.engine.specs.Run.{seeded}
use Rattle.engine.proofs.CodeLaws.{seeds_copied}
use Rattle.engine.proofs.seed.Goals as goal

pub returns-in_err-copy_in : goal.returns-in_err-copy_in
unfolding seeded
returns-in_err-copy_in c = exits _ c.from_residual.ensures.1 (then_stop _ _ _ (broke (seeds_copied _ _ _ _ _ _ c.copy_in.ensures) c.in_err-copy_in.was))

pub returns-in-Err : goal.returns-in-Err
unfolding seeded
returns-in-Err c =
    rw c.without_rows.ensures
    (then_on _ _ _ (went (seeds_copied _ _ _ _ _ _ c.copy_in.ensures) c.in_ok-copy_in.was) (then_stop _ _ _ (through_stop _ _ _ _ _ _ (through_stop _ _ _ _ _ _ c.in-Err.ensures))))

pub returns : goal.returns
unfolding seeded
returns c =
    then_on _ _ _ (went (seeds_copied _ _ _ _ _ _ c.copy_in.ensures) c.in_ok-copy_in.was)
    (then_on _ _ _ (through_on _ _ _ _ _ _ (through_on _ _ _ _ _ _ c.in_default.ensures)) (rw c.clear_growth.ensures))
