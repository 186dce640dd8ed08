-- What a round gives is the same from any two budgets, where both complete.
use Prim.Native.Nat.{ℕ, zero, suc, ◌+◌}
use mathlib.Core.Path.{refl}
use mathlib.Core.List.{List}
use Rattle.limits.specs.declared.Stop.{Stop}
use Rattle.limits.specs.Metered.{Run, going, stopped, Metered}
use Rattle.limits.specs.Meter.{work}
use Rattle.limits.specs.Budget.{round}
use Rattle.limits.proofs.Monad.{Agree, Steady, steady_unit}
use Rattle.limits.proofs.Alike.{Alike, SteadyOn, on_pure, on_bind, on_then, on_through, steady_on}
use Rattle.lattice.specs.Value.{Value}
use Rattle.lattice.proofs.Steadiness.{join_steady}
use Rattle.rules.specs.declared.Head.{Head}
use Rattle.rules.specs.Read.{context_at, slots_at, heads_at}
use Rattle.slots.specs.Slots.{Slots, blank}
use Rattle.refinements.specs.Refinement.{Refinement, refinements_of}
use Rattle.slots.proofs.Steady.{OnRows, on_paying, on_dropping, on_replace, on_each, on_copies}
use Rattle.evaluation.specs.Evaluation.{Input}
use Rattle.transfer.specs.Transfer.{Frame}
use Rattle.transfer.proofs.Steady.{tables, on_rule, head_steady}
use Rattle.rounds.specs.Locals.{Locals, fill, blank_frame, locals_of, own_locals, with_locals}
use Rattle.rounds.specs.declared.Course.{Course}
use Rattle.rounds.specs.Round.{Given, Standing, set_context, in_table, each_rule, join_owned, join_head, apply, produce, image, candidates_of, candidates}
use Rattle.rounds.specs.Round as rounds

-- ---- a rule's slots

module _ (i : Input) (rules : List ℕ) (id : ℕ) (arguments : List ℕ) where
  pub on_fill : SteadyOn tables (fill i rules id arguments)
  unfolding fill
  on_fill = on_then (on_through _ _ _ _ (λ s t e. refl) (λ s t u v e _. e) (steady_on (steady_unit (work 1)))) (on_rule i rules id arguments)

  agree_locals : (x y : Run Stop Frame ℕ) → Alike tables x y → Agree (locals_of x) (locals_of y)
  agree_locals (going n s) (going k t) h = λ j. record { domains = (h.1 j).0; produced = (h.1 j).1.0; known = refinements_of (h.1 j).1.1 (h.0 j) }
  agree_locals (going n s) (stopped e t) h = tt
  agree_locals (stopped e s) y h = tt

  pub local_steady : Steady (own_locals i rules id arguments)
  unfolding own_locals
  local_steady = let n = slots_at rules id in record { same = λ s t. agree_locals (fill i rules id arguments (blank_frame n s)) (fill i rules id arguments (blank_frame n t)) (on_fill.same (blank_frame n s) (blank_frame n t) refl) }

  pub on_locals : {m : Locals → Metered Stop Slots (Unit {0})} → ((l : Locals) → OnRows (m l)) → OnRows (with_locals i rules id arguments m)
  unfolding with_locals
  on_locals h = on_bind (on_paying local_steady) (λ l. on_through _ _ _ _ (λ s t e. e) (λ s t u v _ e. e) (h l))

-- ---- heads and rules

pub on_join : (width argument : ℕ) (v : Value) → OnRows (join_owned width argument v)
unfolding join_owned
on_join width argument v = on_dropping v (on_replace argument (λ old. join_steady width old v))

pub on_head : (i : Input) (produced : List ℕ) (known : List Refinement) (h : Head) → OnRows (join_head i produced known h)
unfolding join_head
on_head i produced known h = on_bind (on_paying (head_steady i produced known h.value)) (λ v. on_join i.width h.argument v)

pub on_apply : (i : Input) (rules previous : List ℕ) (id : ℕ) → OnRows (apply i rules previous id)
unfolding apply
on_apply i rules previous id = on_locals i rules id previous (λ l. on_each (on_head i l.produced l.known) (heads_at rules id))

-- ---- in a run, where the context in force is not looked at either

abbrev pub OnTable : {A : Type 0} → Metered Stop Standing A → Type 0
OnTable m = SteadyOn (λ s. s.rows) m

pub on_table_lem : {m : Metered Stop Slots (Unit {0})} → OnRows m → OnTable (in_table m)
on_table_lem h = on_through _ _ _ _ (λ s t e. e) (λ s t u v _ e. e) h

pub on_rules : (rules : List ℕ) (f : ℕ → Metered Stop Slots (Unit {0})) → ((id : ℕ) → OnRows (f id)) → (k n : ℕ) → OnTable (each_rule rules f k n)
unfolding each_rule
on_rules rules f h k zero = on_pure tt
on_rules rules f h k (suc n) = on_then {m = set_context (context_at rules k)} record { same = λ s t e. (refl, e) } (on_then (on_table_lem (h k)) (on_rules rules f h (k + 1) n))

pub on_produce : (g : Given) (previous : List ℕ) → OnTable (produce g previous)
unfolding produce
on_produce g previous =
    on_then (on_table_lem (on_copies g.seeds 0 g.positions))
    (on_through _ _ _ _ (λ s t e. e) (λ s t u v _ e. e) (on_rules g.rules (apply g.input g.rules previous) (on_apply g.input g.rules previous) 0 g.count))

pub on_image : (g : Given) (previous : List ℕ) → OnTable (image g previous)
unfolding image
on_image g previous = on_then (on_through _ _ _ _ (λ s t e. refl) (λ s t u v e _. e) (steady_on (steady_unit round))) (on_produce g previous)

agree_candidates : (x y : Run Stop Standing (Unit {0})) → Alike (λ s. s.rows) x y → Agree (candidates_of x) (candidates_of y)
agree_candidates (going a s) (going b t) h = h.1
agree_candidates (going a s) (stopped e t) h = tt
agree_candidates (stopped e s) y h = tt

-- what a round makes of given values
pub candidates_steady : (g : Given) (previous : List ℕ) → Steady (candidates g previous)
unfolding candidates
candidates_steady g previous = record { same = λ s t. agree_candidates (image g previous (begun s)) (image g previous (begun t)) ((on_image g previous).same (begun s) (begun t) refl) }
  where
    begun : Course → Standing
    begun c = rounds.standing c.budget c.context (blank g.positions)
