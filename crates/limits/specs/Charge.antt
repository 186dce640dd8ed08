-- One charge (limits.rs, `check` and `charge_work`). 01: "Charges are refused exactly when old + amount exceeds the limit."
use Rattle.std.specs.Prelude.{ℕ, zero, suc, ◌+◌, ◌*◌, ◌/◌, ◌%◌, ◌^◌, cond, leb, Result, Ok, Err}
use Rattle.limits.specs.declared.Resource.{Resource}
use Rattle.limits.specs.declared.Stop.{Stop}
use Rattle.limits.specs.Metered.{Run, going, stopped, Metered, pure, ◌>>◌}

-- 01: "128-bit sums: two 64-bit halves"
abbrev pub stop_of : Resource → ℕ → ℕ → Stop
stop_of r limit sum = record { resource = r; limit = limit; high = sum / 2 ^ 64; low = sum % 2 ^ 64 }

abbrev pub observed : Stop → ℕ
observed s = s.high * 2 ^ 64 + s.low

unfoldable pub charge_of : Resource → ℕ → ℕ → ℕ → Result ℕ Stop
charge_of r old amount limit = cond (leb (old + amount) limit) (Ok (old + amount)) (Err (stop_of r limit (old + amount)))

-- what a charge of one count leaves of it: a refused one changes nothing
abbrev pub stored : ℕ → Result ℕ Stop → Run Stop ℕ (Unit {0})
stored old (Ok n) = going tt n
stored old (Err e) = stopped e old

abbrev pub counting : Resource → ℕ → ℕ → Metered Stop ℕ (Unit {0})
counting r limit amount old = stored old (charge_of r old amount limit)

-- n charges of one unit each: the first that is refused ends them
unfoldable pub units_of : Resource → ℕ → ℕ → Metered Stop ℕ (Unit {0})
units_of r limit zero = pure tt
units_of r limit (suc n) = counting r limit 1 >> units_of r limit n
