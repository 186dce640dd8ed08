-- `store::Store::argument` meets its contract.
use Rattle.store.proofs.CodeLaws.{argument_id}
use Rattle.store.proofs.Store.argument.Goals as goal

pub returns : goal.returns
returns c = argument_id _ _ _ _ c.if-predicates-ne-PREDICATE_CELLS.false c.admits.ensures c.if-not-admits.false c.if-self-gt-PREDICATES.false c.if-self-predicate.false c.cell_at-arity.ensures c.if-arity-position.false c.cell_at-start.ensures
