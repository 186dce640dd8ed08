-- Whether a store is open, which today decides for each kind of call.
use Rattle.std.specs.Prelude.{Bool}
use Rattle.store.specs.declared.Kind.TheVariants.{Running}
use Rattle.store.specs.declared.Store.{Store}
use Rattle.store.specs.Store.{admits}

abbrev pub open? : Store → Bool
open? s = admits Running s.phase
