-- `seeds::seed` meets its contract.
use Rattle.limits.proofs.Answering.{limits}
use Rattle.limits.proofs.Seen.{seen_went, seen_broke}
use Rattle.lattice.specs.Value.{value_of}
use Rattle.seeds.proofs.CodeLaws.{seed_stopped, seed_done}
use Rattle.seeds.proofs.seed.Goals as goal

pub returns-in_err-new : goal.returns-in_err-new
returns-in_err-new c = limits _ _ c.from_residual.ensures.1 (seed_stopped c.args.argument (value_of c.args.value) c.args.store.now c.args.seeds.now c.abstract_at-old.ensures (seen_broke value_of c.join_seed.ensures c.in_err-new.was))

pub returns : goal.returns
returns c = seed_done c.args.argument (value_of c.args.value) c.args.store.now c.args.seeds.now c.abstract_at-old.ensures (seen_went value_of c.join_seed.ensures c.in_ok-new.was) c.put_abstract.ensures
