-- What the code makes of an argument, as the definitions have it.
use Rattle.lattice.specs.Value.{value_of}
use Rattle.passes.specs.declared.Grown as code
use Rattle.passes.specs.Step.{Grown, grown}

abbrev pub grown_in : code.Grown → Grown
grown_in g = grown (value_of g.value) g.growth g.changed
