-- `search::seek` meets its contract.
use Rattle.std.proofs.Common.{refl, sym, ◌∙◌, arith}
use Rattle.limits.proofs.Answering.{exits}
use Rattle.limits.proofs.Monad.{then_on, then_stop, pure_is}
use Rattle.search.proofs.Turns.{looked_none, looked_end, looked_found, looked_right, looked_left}
use Rattle.search.proofs.seek.Goals as goal

pub loop-low-init : goal.loop-low-init
loop-low-init g c = record { unpaid = refl; within = omega arith; few = omega arith; turn = λ p k t e. looked_none e }

pub loop-low-preserved-in-Less : goal.loop-low-preserved-in-Less
loop-low-preserved-in-Less g c = record {
  unpaid = c.loop-low.invariant.unpaid;
  within = omega arith;
  few = omega arith;
  turn = λ p k t e. looked_right c.loop-low-test.true (c.loop-low.invariant.turn p k t e) (sym (k.at _ _ (omega arith) c.in-Less.ensures));
}

pub loop-low-preserved : goal.loop-low-preserved
loop-low-preserved g c = record {
  unpaid = c.loop-low.invariant.unpaid;
  within = omega arith;
  few = omega arith;
  turn = λ p k t e. looked_left c.loop-low-test.true (c.loop-low.invariant.turn p k t e) (sym (k.at _ _ (omega arith) c.in-Greater.ensures));
}

pub returns-in_err-units-in-Equal : goal.returns-in_err-units-in-Equal
returns-in_err-units-in-Equal g c = λ p k t e.
    let q = looked_found c.loop-low-test.true (c.loop-low.invariant.turn p k t e) (sym (k.at _ _ (omega arith) c.in-Equal.ensures)) c.args.meter.now in
    exits _ c.from_residual.ensures.1 (then_stop _ _ _ (rw c.loop-low.invariant.unpaid at c.in_err-units-in-Equal.ensures) ∙ q)

pub returns-in-Equal : goal.returns-in-Equal
returns-in-Equal g c = λ p k t e.
    let q = looked_found c.loop-low-test.true (c.loop-low.invariant.turn p k t e) (sym (k.at _ _ (omega arith) c.in-Equal.ensures)) c.args.meter.now in
    then_on _ _ _ (rw c.loop-low.invariant.unpaid at c.in_ok-units-in-Equal.ensures) (pure_is _ _) ∙ q

pub returns-in_err-units : goal.returns-in_err-units
returns-in_err-units g c = λ p k t e.
    let q = looked_end (c.loop-low.invariant.turn p k t e) c.loop-low-test.false c.args.meter.now in
    exits _ c.from_residual-in_err-units.ensures.1 (then_stop _ _ _ (rw c.loop-low.invariant.unpaid at c.in_err-units.ensures) ∙ q)

pub returns : goal.returns
returns g c = λ p k t e.
    let q = looked_end (c.loop-low.invariant.turn p k t e) c.loop-low-test.false c.args.meter.now in
    then_on _ _ _ (rw c.loop-low.invariant.unpaid at c.in_ok-units.ensures) (pure_is _ _) ∙ q
