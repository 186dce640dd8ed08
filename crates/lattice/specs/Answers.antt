-- What the code hands back, as the definitions have it.
use Rattle.std.specs.Prelude.{ℕ, List, Option, Some, None, Result}
use Rattle.std.proofs.Math.Option.{some, none}
use Rattle.std.proofs.Math.Option as math
use Rattle.limits.specs.declared.Stop.{Stop}
use Rattle.limits.specs.Metered.{Run, seen}
use Rattle.limits.specs.declared.Meter.{Meter}
use Rattle.lattice.specs.declared.Abstract.{Abstract}
use Rattle.lattice.specs.Value.{Value, value_of}

-- a list that is lent, if there is one
abbrev pub lent : {X : Type 0} → (X → List ℕ) → Option X → math.Option (List ℕ)
lent of None = none
lent of (Some x) = some (of x)

-- the code's answer and the meter that it leaves, as what the computation gives
abbrev pub answered_value : Result Abstract Stop → Meter → Run Stop Meter Value
answered_value r m = seen value_of r m
