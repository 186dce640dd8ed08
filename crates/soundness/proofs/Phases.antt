-- No call that builds a store changes its phase.
use Rattle.sizes.specs.Sizes as size
use mathlib.Core.Path.{◌≡◌, refl, ap}
use lib.Dec.{eqb, leb, ltb}
use lib.ListN.{length}
use Rattle.limits.proofs.Ends.{Ends, completes, stops, ends_as, ends_test, ends_pure}
use Rattle.store.specs.declared.Store.{Store}
use Rattle.store.specs.Calls.{arity_of, context_call, work_call, argument_call, predicate_call}
use Rattle.store.proofs.Opened.{open?}
use Rattle.store.proofs.Frame.{pays, spends_work}
use Rattle.constants.specs.Constant.{constant_call}
use Rattle.constants.proofs.Kept as kept
use Rattle.expressions.specs.Expression.{expression_call}
use Rattle.expressions.proofs.Nested.{expression_ends}
use Rattle.seeds.specs.Seed.{seed_value_call, seed_interval_call}
use Rattle.seeds.proofs.Kept.{seed_value_kept}
use Rattle.seeds.proofs.KeptInterval.{seed_interval_kept}
use Rattle.seeds.proofs.KeptPredicate.{predicate_kept}
use Rattle.producers.specs.Producer.{rule_call}
use Rattle.producers.proofs.Kept.{rule_ends}
use Rattle.input.specs.Input.{Tables, Call, context, work, predicate, argument, constant, expression, seed_value, seed_interval, rule, Typed, for_predicate, from_predicate, with_header, for_constant, from_constant, for_expression, from_expression, for_value, from_value, for_interval, from_interval, for_rule, from_rule, call, done, id}
use Rattle.input.proofs.Left.{on_ends_lem, number_known}
use Rattle.input.proofs.Calls.{typed_key}
use Rattle.input.proofs.Reached.{Reached}

module _ (t : Tables) (r : Reached t) where
  abbrev Same : Tables → Type 0
  Same u = u.header.phase ≡ t.header.phase

  pub call_phase : (c : Call) → Typed c → Ends (λ _ u. Same u) (λ _ _. Unit {0}) (call c t)
  unfolding call context_call work_call argument_call
  call_phase (context c) h = on_ends_lem (λ u. u.header) with_header (λ _. done) {P = λ _ s. s.phase ≡ t.header.phase} {Q = λ _ _. Unit {0}} (context_call c) t (ends_test (open? t.header) (λ _. completes refl) (λ _. stops tt)) (λ _ _ p. p) (λ _ _ _. tt)
  call_phase (work n) h =
      on_ends_lem (λ u. u.header) with_header (λ _. done) {P = λ _ s. s.phase ≡ t.header.phase} {Q = λ _ _. Unit {0}} (work_call n) t
      (ends_test (open? t.header) (λ _. ends_as (pays (spends_work n) t.header) (λ _ s c. ap (λ (x : Store). x.phase) c.is) (λ _ _ _. tt)) (λ _. stops tt)) (λ _ _ p. p) (λ _ _ _. tt)
  call_phase (predicate arity) h =
      on_ends_lem for_predicate from_predicate id (predicate_call arity) t (predicate_kept t.constants arity (for_predicate t) r.standing) (λ _ u p. ap (λ (x : Store). x.phase) p.header) (λ _ _ _. tt)
  call_phase (argument p i) h =
      on_ends_lem (λ u. u.header) with_header id {P = λ _ s. s.phase ≡ t.header.phase} {Q = λ _ _. Unit {0}} (argument_call p i t.predicates) t
      (ends_test (eqb (length t.predicates) size.predicate_cells)
      (λ _.
      ends_test (open? t.header)
      (λ _.
      ends_test (leb t.header.counts.predicates 64)
      (λ _.
      ends_test (ltb p t.header.counts.predicates) (λ _. ends_test (ltb i (arity_of t.predicates p)) (λ _. ends_pure _ t.header refl) (λ _. stops tt)) (λ _. stops tt)) (λ _. stops tt)) (λ _. stops tt)) (λ _. stops tt)) (λ _ _ q. q) (λ _ _ _. tt)
  call_phase (constant k) h = on_ends_lem for_constant from_constant id (constant_call k) t (kept.constant_keeps k (typed_key k h) (for_constant t) r.keyed r.rises) (λ _ u p. p.header.phase) (λ _ _ _. tt)
  call_phase (expression e) h = on_ends_lem for_expression from_expression id (expression_call e) t (expression_ends e (for_expression t) r.nested) (λ _ u p. ap (λ (x : Store). x.phase) p.is) (λ _ _ _. tt)
  call_phase (seed_value a k) h =
      on_ends_lem for_value from_value (λ _. done) (seed_value_call t.constants a k) t (seed_value_kept t.constants a k (for_value t) r.standing (λ l v e. number_known r.numbers k l v e)) (λ _ u p. p.beside.phase) (λ _ _ _. tt)
  call_phase (seed_interval a low high) h =
      on_ends_lem for_interval from_interval (λ _. done) (seed_interval_call a low high) t (seed_interval_kept t.constants a low high (for_interval t) r.standing r.rises h.0 h.1) (λ _ u p. p.beside.phase) (λ _ _ _. tt)
  call_phase (rule q) h = on_ends_lem for_rule from_rule id (rule_call t.nodes q) t (rule_ends t.nodes q (for_rule t) r.context) (λ _ u p. ap (λ (x : Store). x.phase) p.is) (λ _ _ _. tt)
