-- What a rule fills its tables with, and what a head gives, is the same from any two meters, where both runs complete.
use Prim.Native.Nat.{ℕ}
use mathlib.Core.Path.{ap}
use mathlib.Core.List.{List}
use Rattle.limits.proofs.Monad.{Steady}
use Rattle.limits.proofs.Alike.{SteadyOn, on_look, on_then, on_through}
use Rattle.rules.specs.Read.{slots_at, bindings_at, guards_at}
use Rattle.refinements.specs.Refinement.{Refinement}
use Rattle.evaluation.specs.Evaluation.{Input}
use Rattle.evaluation.proofs.Steady.{expression_steady}
use Rattle.bindings.proofs.Steady.{on_bindings}
use Rattle.guards.specs.Guards.{guard}
use Rattle.guards.proofs.Steady.{on_guards}
use Rattle.transfer.specs.Transfer.{Frame, in_local, guarding, rule, head}

abbrev pub tables : Frame → List ℕ × (List ℕ × List ℕ)
tables s = (s.domains, (s.produced, s.refinements))

module _ (i : Input) (rules : List ℕ) (id : ℕ) where
  pub on_guarding : SteadyOn tables (guarding i rules id)
  unfolding guarding
  on_guarding =
      on_look {f = λ v. in_local (guard i v.0 (slots_at rules id) (guards_at rules id))}
      (λ v. on_through _ _ _ _ (λ s t e. ap (λ p. p.1) e) (λ s t u w e q j. ((e j).0, q j)) (on_guards i v.0 (slots_at rules id) (guards_at rules id)))

  pub on_rule : (arguments : List ℕ) → SteadyOn tables (rule i rules id arguments)
  unfolding rule
  on_rule arguments =
      on_then (on_through _ _ _ _ (λ s t e. ap (λ p. p.0) e) (λ s t u w e q j. (q j, (e j).1)) (on_bindings i arguments (slots_at rules id) (bindings_at rules id)))
      (on_through _ _ _ _ (λ s t e. e) (λ s t u w _ e. e) on_guarding)

pub head_steady : (i : Input) (produced : List ℕ) (known : List Refinement) (id : ℕ) → Steady (head i produced known id)
unfolding head
head_steady i produced known id = expression_steady i produced known id
