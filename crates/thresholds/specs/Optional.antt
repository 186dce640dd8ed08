-- A threshold that may be absent, as the code enters it.
use Rattle.std.specs.Prelude.{ℤ, Option, Some, None}
use Rattle.limits.specs.declared.Stop.{Stop}
use Rattle.limits.specs.Metered.{Metered, pure}
use Rattle.thresholds.specs.Thresholds.{Entry, enter}

-- a number, if there is one
abbrev pub enter_some : Option ℤ → Metered Stop Entry (Unit {0})
enter_some None = pure tt
enter_some (Some v) = enter v
