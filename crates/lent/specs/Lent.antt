-- 01: "a thin layer that changes lent counts in place". The counts are those of a budget, beside limits that nothing changes.
use Rattle.std.specs.Prelude.{◌≡◌}
use Rattle.limits.specs.declared.Limits.{Limits}
use Rattle.limits.specs.declared.Statistics.{Statistics}
use Rattle.limits.specs.declared.Budget.{Budget}

abbrev pub budget_of : Limits → Statistics → Budget
budget_of l s = record { limits = l; statistics = s }

-- whatever the limits are, f makes the counts s the counts s'
abbrev pub After : (Budget → Budget) → Statistics → Statistics → Type 0
After f s s' = (l : Limits) → budget_of l s' ≡ f (budget_of l s)
