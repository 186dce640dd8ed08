-- `widening::first_above` meets its contract.
use Rattle.std.proofs.Common.{rules, tests, ◌∙◌}
use Rattle.std.proofs.lemmas.Iterator.{YieldsList-from_slice}
use Rattle.std.proofs.lemmas.Iterator.Search.{position_from_yields_List}
use lib.Signed.{le_z}
use Rattle.widening.proofs.Place.{position_is}
use Rattle.widening.proofs.first_above.Goals as goal

pub returns : goal.returns
returns c =
    let found = position_from_yields_List (le_z c.args.high) _ _ c.position.result c.position.ensures.ran (YieldsList-from_slice c.args.thresholds.now cc) (λ x b q k. search (rules, tests)) in
    c.unwrap_or.ensures ∙ position_is (le_z c.args.high) c.args.thresholds.now found
