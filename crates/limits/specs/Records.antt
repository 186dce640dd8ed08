-- The wide records, read and made here alone: elsewhere specs name a count by its resource, so that one more field reopens no proof.
use Rattle.std.specs.Prelude.{ℕ}
use Rattle.limits.specs.declared.Resource.{Resource}
use Rattle.limits.specs.declared.Resource.TheVariants.{Work, Predicates, Positions, Links, ValueEntries, Rounds, InspectedBytes}
use Rattle.limits.specs.declared.Limits.{Limits}
use Rattle.limits.specs.declared.Statistics.{Statistics}
use Rattle.limits.specs.declared.Budget.{Budget}

abbrev pub limit_of : Resource → Limits → ℕ
limit_of Work l = l.work
limit_of Predicates l = l.predicates
limit_of Positions l = l.positions
limit_of Links l = l.links
limit_of ValueEntries l = l.entries
limit_of Rounds l = l.rounds
limit_of InspectedBytes l = l.bytes

abbrev pub count_of : Resource → Statistics → ℕ
count_of Work s = s.work
count_of Predicates s = s.predicates
count_of Positions s = s.positions
count_of Links s = s.links
count_of ValueEntries s = s.entries
count_of Rounds s = s.rounds
count_of InspectedBytes s = s.bytes

-- one resource's count is n, all else is as it was
abbrev pub with_count : Resource → ℕ → Statistics → Statistics
with_count Work n s = record s { work = n }
with_count Predicates n s = record s { predicates = n }
with_count Positions n s = record s { positions = n }
with_count Links n s = record s { links = n }
with_count ValueEntries n s = record s { entries = n }
with_count Rounds n s = record s { rounds = n }
with_count InspectedBytes n s = record s { bytes = n }

abbrev pub with_widened : ℕ → Statistics → Statistics
with_widened n s = record s { widened = n }

-- nothing is counted yet
abbrev pub no_counts : Statistics
no_counts = record { work = 0; predicates = 0; positions = 0; links = 0; entries = 0; rounds = 0; bytes = 0; widened = 0 }

abbrev pub with_statistics : Statistics → Budget → Budget
with_statistics s b = record { limits = b.limits; statistics = s }

abbrev pub fresh_budget : Limits → Budget
fresh_budget l = record { limits = l; statistics = no_counts }
