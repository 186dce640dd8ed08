-- The answers of readings as structs of numbers. Each has a `Reply` that says whether there is an answer; what stands beside it where there is
-- none is that of the empty value.
use Rattle.std.specs.Prelude.{ℕ, Bool, true, false, ℤ, pos, cond, eqb, [], ◌∷◌, get_or, take, replicate, Some, None, Result, Ok, Err}
use Rattle.sizes.specs.Sizes as size
use Rattle.std.proofs.Math.Option.{some, none}
use Rattle.limits.specs.declared.Stop.{Stop}
use Rattle.limits.specs.declared.Refusal.{Refusal}
use Rattle.limits.specs.declared.Refusal.TheVariants.{Limit}
use Rattle.limits.specs.Context.{Context}
use Rattle.interval.specs.declared.Interval.{Interval}
use Rattle.interval.specs.declared.Interval.TheVariants.{Bottom, Bounded, Unbounded}
use Rattle.interval.specs.declared.Bound.{Bound}
use Rattle.interval.specs.declared.Constant.{Constant}
use Rattle.interval.specs.declared.Constant.TheVariants.{Number, Name, Large}
use Rattle.interval.specs.Bound.{bottom_bound}
use Rattle.lattice.specs.declared.Abstract.{Abstract}
use Rattle.lattice.specs.Value.{Value, value, reason_number}
use Rattle.rows.specs.Row.{integrality_cell, case_cell, integrality_of, reason_of}
use Rattle.replies.specs.declared.Reply.{Reply}
use Rattle.replies.specs.Reply.{accepting, refusing}
use Rattle.shown.specs.declared.BoundReply.{BoundReply}
use Rattle.shown.specs.declared.ValueReply.{ValueReply}
use Rattle.shown.specs.declared.KeyReply.{KeyReply}
use Rattle.shown.specs.declared.StatusReply.{StatusReply}

-- ---- a bound

-- integrality and case by the numbers that a row has for them; of the ends 0 where there are none
abbrev pub low_of : Interval → ℤ
low_of Bottom = pos 0
low_of (Bounded low high) = low
low_of Unbounded = pos 0

abbrev pub high_of : Interval → ℤ
high_of Bottom = pos 0
high_of (Bounded low high) = high
high_of Unbounded = pos 0

abbrev pub bound_reply : Reply → Bound → BoundReply
bound_reply r b = record { reply = r; mixed = integrality_cell b.integrality; case = case_cell b.interval; low = low_of b.interval; high = high_of b.interval }

abbrev pub bounded : Result Bound Refusal → BoundReply
bounded (Ok b) = bound_reply (accepting 0) b
bounded (Err e) = bound_reply (refusing e) bottom_bound

-- what it shows
abbrev pub interval_in : ℕ → ℤ → ℤ → Interval
interval_in n low high = get_or (Bottom ∷ Bounded low high ∷ []) n Unbounded

abbrev pub bound_in : BoundReply → Bound
bound_in r = record { integrality = integrality_of r.mixed; interval = interval_in r.case r.low r.high }

-- ---- a value

abbrev pub kept_mark : Bool → ℕ
kept_mark true = 1
kept_mark false = 0

abbrev pub value_reply : Reply → Abstract → ValueReply
value_reply r v = record { bound = bound_reply r v.bound; kept = kept_mark v.kept; reason = reason_number v.reason; len = v.len; ids = v.ids }

abbrev pub valued : Result Abstract Refusal → ValueReply
valued (Ok v) = value_reply (accepting 0) v
valued (Err e) = record { bound = bound_reply (refusing e) bottom_bound; kept = 0; reason = 0; len = 0; ids = replicate size.width 0 }

-- what it shows
abbrev pub value_in : ValueReply → Value
value_in r = value (bound_in r.bound) (cond (eqb r.kept 0) none (some (take r.len r.ids))) (reason_of r.reason)

-- ---- a key, but for the bytes of a name

abbrev pub key_reply : ℕ → ℤ → KeyReply
key_reply kind n = record { reply = accepting kind; number = n }

abbrev pub keyed : Result Constant Refusal → KeyReply
keyed (Ok (Number n)) = key_reply 1 n
keyed (Ok Name) = key_reply 2 (pos 0)
keyed (Ok Large) = key_reply 3 (pos 0)
keyed (Err e) = record { reply = refusing e; number = pos 0 }

-- ---- how a run ended

abbrev pub ended_reply : Reply → Reply → ℕ → ℕ → StatusReply
ended_reply r s set c = record { reply = r; stop = s; set = set; context = c }

abbrev pub completing : StatusReply
completing = ended_reply (accepting 0) (accepting 0) 0 0

abbrev pub stopping : Stop → Context → StatusReply
stopping s None = ended_reply (accepting 1) (refusing (Limit s)) 0 0
stopping s (Some c) = ended_reply (accepting 1) (refusing (Limit s)) 1 c

abbrev pub unread : Refusal → StatusReply
unread e = ended_reply (refusing e) (accepting 0) 0 0
