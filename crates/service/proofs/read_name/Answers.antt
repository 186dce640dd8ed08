-- `service::read_name` meets its contract.
use Rattle.std.specs.Prelude.{◌≤◌, length}
use Rattle.soundness.specs.Code.{reading, name}
use Rattle.service.specs.Lent.{for_name_reading}
use Rattle.service.proofs.Answers.{reading_of}
use Rattle.service.proofs.Names.{bytes_told, no_bytes_told, rest_stays, name_short}
use native.Mathlib.Omega.{arith}
use Rattle.service.proofs.read_name.Goals as goal

fits : (c : goal.After-accepting) → length c.in-Ok.name.now ≤ length c.args.text.now
fits c = omega (arith, c.told-text, name_short c.in-Ok.name c.of.result c.args.names.now c.args.constants.now c.args.constant c.name.ensures c.in-Ok.is)

pub returns-in-Ok-clause-exchange : goal.returns-in-Ok-clause-exchange
returns-in-Ok-clause-exchange c =
    λ s. reading_of (λ h. for_name_reading h c.args.names.now c.args.constants.now s) c.of.ensures
    (bytes_told c.in-Ok.name c.args.text.now c.in-Ok.is c.accepting.ensures c.put_name.ensures (fits c))
    (reading _ _ (name c.args.constant c.name.result c.name.ensures))

pub returns-in-Err-clause-exchange : goal.returns-in-Err-clause-exchange
returns-in-Err-clause-exchange c =
    λ s. reading_of (λ h. for_name_reading h c.args.names.now c.args.constants.now s) c.of.ensures (no_bytes_told c.in-Err.refusal c.args.text.now c.in-Err.is c.refusing.ensures)
    (reading _ _ (name c.args.constant c.name.result c.name.ensures))

pub returns-in-Ok-clause-rest : goal.returns-in-Ok-clause-rest
returns-in-Ok-clause-rest c = rest_stays c.in-Ok.name c.args.text.now c.accepting.ensures c.put_name.ensures (fits c)
