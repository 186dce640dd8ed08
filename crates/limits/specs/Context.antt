-- What work is done for: a number of the caller's, which a rule keeps and a stop tells.
use Rattle.std.specs.Prelude.{ℕ, Option}

-- the caller's context, if one is set
abbrev pub Context : Type 0
Context = Option ℕ
