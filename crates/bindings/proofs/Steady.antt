-- The values of a rule's slots before guards are the same from any two meters, where both runs complete.
use Prim.Native.Nat.{ℕ}
use mathlib.Core.List.{List, []}
use Rattle.limits.specs.declared.Stop.{Stop}
use Rattle.limits.specs.Metered.{Metered, ◌>>=◌}
use Rattle.limits.specs.declared.Meter.{Meter}
use Rattle.limits.proofs.Monad.{Steady, steady_pure, steady_bind, steady_through}
use Rattle.limits.proofs.Alike.{on_pure, on_look, on_bind, on_then}
use Rattle.lattice.specs.Value.{Value}
use Rattle.rules.specs.declared.Binding.{Binding}
use Rattle.rules.specs.declared.Binding.TheVariants.{Positive, Assign, Range, Aggregate}
use Rattle.slots.specs.Slots.{paying, meet_owned}
use Rattle.slots.proofs.Steady.{OnRows, on_paying, on_holding, on_owned, on_each, on_tops, on_argument, on_dependent}
use Rattle.evaluation.specs.Evaluation.{Input, Values}
use Rattle.evaluation.proofs.Steady.{expression_steady, both_steady}
use Rattle.bindings.specs.Bindings.{assigned, aggregate, spanning, ranged, meeting, meet_binding, three_passes, bind}

pub assigned_steady : (i : Input) (rows : List ℕ) (id : ℕ) → Steady (assigned i rows id)
unfolding assigned
assigned_steady i rows id = expression_steady i rows [] id

pub spanning_steady : (p : Values) → Steady (spanning p)
unfolding spanning
spanning_steady p = steady_through _ _ _ _ (steady_through _ _ _ _ (steady_pure _))

pub ranged_steady : (i : Input) (rows : List ℕ) (low high : ℕ) → Steady (ranged i rows low high)
unfolding ranged
ranged_steady i rows low high = steady_bind (both_steady i rows [] low high) spanning_steady

pub on_meeting : (constants : List ℕ) (slot : ℕ) {f : List ℕ → Metered Stop Meter Value} → ((rows : List ℕ) → Steady (f rows)) → OnRows (meeting constants slot f)
unfolding meeting
on_meeting constants slot {f} h = on_look {f = λ rows. paying (f rows) >>= meet_owned constants slot} (λ rows. on_bind (on_paying (h rows)) (on_owned constants slot))

pub on_binding : (i : Input) (b : Binding) → OnRows (meet_binding i b)
on_binding i (Positive slot argument) = on_pure tt
on_binding i (Assign slot value) = on_meeting i.constants slot (λ rows. assigned_steady i rows value)
on_binding i (Range slot low high) = on_meeting i.constants slot (λ rows. ranged_steady i rows low high)
on_binding i (Aggregate slot function) = on_owned i.constants slot (aggregate function)

pub on_passes : (i : Input) (arguments : List ℕ) (bs : List Binding) → OnRows (three_passes i arguments bs)
unfolding three_passes
on_passes i arguments bs = on_then (on_each (on_argument i.constants arguments) bs) (on_then (on_each on_dependent bs) (on_each (on_binding i) bs))

pub on_bindings : (i : Input) (arguments : List ℕ) (n : ℕ) (bs : List Binding) → OnRows (bind i arguments n bs)
unfolding bind
on_bindings i arguments n bs = on_then (on_tops 0 n) (on_holding n (on_passes i arguments bs))
