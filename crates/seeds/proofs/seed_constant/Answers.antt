-- `seeds::seed_constant` meets its contract.
use Rattle.limits.proofs.Answering.{limits}
use Rattle.lattice.specs.Value.{value_of}
use Rattle.limits.proofs.Seen.{seen_went, seen_broke}
use Rattle.seeds.proofs.CodeLaws.{seed_constant_stopped, seed_constant_done}
use Rattle.seeds.proofs.seed_constant.Goals as goal

pub returns-in_err-value : goal.returns-in_err-value
returns-in_err-value c = limits _ _ c.from_residual.ensures.1 (seed_constant_stopped c.args.constants.now c.args.argument c.args.id c.args.store.now c.args.seeds.now (seen_broke value_of c.constant_value.ensures c.in_err-value.was))

pub returns : goal.returns
returns c = seed_constant_done c.args.constants.now c.args.argument c.args.id c.args.store.now c.args.seeds.now (seen_went value_of c.constant_value.ensures c.in_ok-value.was) c.seed.ensures
