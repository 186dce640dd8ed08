-- Theorems about the answers of readings: what a struct shows is what was read.
use Rattle.std.specs.Prelude.{ℕ, Bool, true, false, cond, eqb, take, Some, None}
use Rattle.std.proofs.Math.Option.{some, none}
use mathlib.Core.Path.{◌≡◌, refl}
use mathlib.Core.List.{List}
use Rattle.interval.specs.declared.Integrality.{Integrality}
use Rattle.interval.specs.declared.Integrality.TheVariants.{Integer, Mixed}
use Rattle.interval.specs.declared.Interval.{Interval}
use Rattle.interval.specs.declared.Interval.TheVariants.{Bottom, Bounded, Unbounded}
use Rattle.interval.specs.declared.Bound.{Bound}
use Rattle.lattice.specs.declared.Abstract.{Abstract}
use Rattle.lattice.specs.declared.Widening.TheVariants.{HeadForm, HeadTerm, UnboundVariable, SymbolSize, ValueWidth, Dependency}
use Rattle.lattice.specs.Value.{value_of, Reason, reason_number}
use Rattle.rows.specs.Row.{integrality_cell, case_cell, integrality_of, reason_of}
use Rattle.replies.specs.declared.Reply.{Reply}
use Rattle.shown.specs.Shown.{low_of, high_of, bound_reply, interval_in, bound_in, kept_mark, value_reply, value_in}

integrality_back : (i : Integrality) → integrality_of (integrality_cell i) ≡ i
integrality_back Integer = refl
integrality_back Mixed = refl

interval_back : (i : Interval) → interval_in (case_cell i) (low_of i) (high_of i) ≡ i
interval_back Bottom = refl
interval_back (Bounded low high) = refl
interval_back Unbounded = refl

reason_back : (r : Reason) → reason_of (reason_number r) ≡ r
reason_back None = refl
reason_back (Some HeadForm) = refl
reason_back (Some HeadTerm) = refl
reason_back (Some UnboundVariable) = refl
reason_back (Some SymbolSize) = refl
reason_back (Some ValueWidth) = refl
reason_back (Some Dependency) = refl

list_back : (kept : Bool) (l : List ℕ) → cond (eqb (kept_mark kept) 0) none (some l) ≡ cond kept (some l) none
list_back true l = refl
list_back false l = refl

pub bound_back : (r : Reply) (b : Bound) → bound_in (bound_reply r b) ≡ b
bound_back r b = rw (integrality_back b.integrality, interval_back b.interval) refl

pub value_back : (r : Reply) (v : Abstract) → value_in (value_reply r v) ≡ value_of v
value_back r v = rw (bound_back r v.bound, list_back v.kept (take v.len v.ids), reason_back v.reason) refl
