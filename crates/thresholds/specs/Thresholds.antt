-- Thresholds (numeric/input.rs, `threshold` and `thresholds`): the numbers at which bounds are widened, each once, in rising order,
-- in the first cells of a lent table.
use Rattle.std.specs.Prelude.{ℕ, ◌+◌, ◌-◌, cond, List, ℤ, pos, ◌+ℤ◌, ◌-ℤ◌, get_or}
use Rattle.integers.specs.Order.{number?}
use Rattle.integers.specs.Lists.{inserted}
use Rattle.limits.specs.declared.Budget.{Budget}
use Rattle.limits.specs.declared.Stop.{Stop}
use Rattle.limits.specs.Budget.{work, links}
use Rattle.limits.specs.declared.Meter.{Meter}
use Rattle.limits.specs.Meter.{metered}
use Rattle.limits.specs.Metered.{going, Metered, pure, ◌>>=◌, ◌>>◌, zoom}
use Rattle.std.specs.declared.cmp.Ordering.{Ordering}
use Rattle.search.specs.Seek.{Place, found, absent, seek, compareℤ}

-- what entering a threshold changes: the budget, how many stand, the lent cells
pub record Entry : Type 0 where
  pub budget : Budget
  pub count : ℕ
  pub table : List ℤ

abbrev pub entry : Budget → ℕ → List ℤ → Entry
entry b n t = record { budget = b; count = n; table = t }

-- how the cell at a place stands to the number v
abbrev pub against : List ℤ → ℤ → ℕ → Ordering
against t v i = compareℤ (get_or t i (pos 0)) v

-- among the first `count` cells
unfoldable pub seek_number : List ℤ → ℕ → ℤ → Metered Stop Meter Place
seek_number t count v = seek (against t v) count 0 count

-- a charge, which leaves the table and its count
abbrev pub paying : {A : Type 0} → Metered Stop Budget A → Metered Stop Entry A
paying = zoom (λ s. s.budget) (λ b s. entry b s.count s.table)

unfoldable pub insert : ℕ → ℤ → Metered Stop Entry (Unit {0})
insert low v s = going tt (entry s.budget (s.count + 1) (inserted s.table low s.count v))

-- the cells that move and the new one are one charge of work
unfoldable pub cost : ℕ → Metered Stop Budget (Unit {0})
cost cells = work cells >> links 1

-- a number that stands already costs nothing more; a new one is paid for before anything moves
unfoldable pub settle : ℤ → ℕ → Place → Metered Stop Entry (Unit {0})
settle v count (found i) = pure tt
settle v count (absent low) = paying (cost (count - low + 1)) >> insert low v

unfoldable pub enter : ℤ → Metered Stop Entry (Unit {0})
enter v s = (paying (metered (seek_number s.table s.count v)) >>= settle v s.count) s

-- `checked_sub`, `checked_add`: a number that needs more than 32 bits is passed over
unfoldable pub enter_number : ℤ → Metered Stop Entry (Unit {0})
enter_number v = cond (number? v) (enter v) (pure tt)

-- v and its neighbours; what was entered before a stop stays
unfoldable pub around : ℤ → Metered Stop Entry (Unit {0})
around v = enter_number (v -ℤ pos 1) >> (enter v >> enter_number (v +ℤ pos 1))
