-- Where the code finds a line of the report among those of the rules, and from where on it seeks.
use Rattle.std.specs.Prelude.{ℕ, zero, suc, ◌+◌, ◌-◌, ◌*◌, ◌<◌, ◌≤◌, ◌≡◌, min, List, Result, Ok, Err}
use Rattle.sizes.specs.Sizes as size
use Rattle.limits.specs.declared.Refusal.{Refusal}
use Rattle.rules.specs.Read.{slots_at}
use Rattle.store.specs.declared.Store.{Store}
use Rattle.report.specs.declared.Place.{Place}
use Rattle.report.specs.declared.Place.TheVariants.{OfRule, Behind}
use Rattle.report.specs.declared.Start.{Start}

-- how many lines the first n rules have
unfoldable pub lines_before : List ℕ → ℕ → ℕ
lines_before rules zero = 0
lines_before rules (suc n) = lines_before rules n + 2 * slots_at rules n

-- the n-th line of the first `count` rules is the i-th of a rule's, or so many behind them all
abbrev pub Stands : List ℕ → ℕ → ℕ → Place → Type 0
Stands rules count n (OfRule r i) = (r < count) × (lines_before rules r + i ≡ n) × (i < 2 * slots_at rules r)
Stands rules count n (Behind m) = lines_before rules count + m ≡ n

-- a place to seek the k-th line of the report from: a rule, or the end of the rules, before which there are so many lines of rules, none behind the k-th
abbrev pub Begins : Store → List ℕ → ℕ → Start → Type 0
Begins s rules k b = (b.rule ≤ min s.counts.rules size.rules) × (lines_before rules b.rule ≡ b.before) × (b.before ≤ k - (min s.counts.positions size.positions + 1))

-- which line is the next, once the k-th was written or refused
abbrev pub after_line : Result ℕ Refusal → ℕ → ℕ
after_line (Ok n) k = k + 1
after_line (Err e) k = k
