-- A store that is not open: every call that builds one is turned down and changes nothing.
use Rattle.sizes.specs.Sizes as size
use Prim.Native.Nat.{ℕ}
use native.Mathlib.Omega.{arith}
use mathlib.Core.Path.{◌≡◌, refl, sym, ap, ◌∙◌}
use mathlib.Core.Bool.{true, false, ◌&&◌}
use lib.Dec.{eqb, leb}
use lib.ListN.{length}
use Rattle.limits.proofs.Ends.{Ends, stops, ends_test}
use Rattle.store.specs.Calls.{context_call, work_call, argument_call, predicate_call}
use Rattle.store.proofs.Opened.{open?}
use Rattle.constants.specs.Constant.{bytes_of, constant_call}
use Rattle.constants.specs.Constant as constants
use Rattle.expressions.specs.Expression.{supported, expression_call}
use Rattle.seeds.specs.Seed.{seed_value_call, seed_interval_call}
use Rattle.seeds.specs.Seed as seeds
use Rattle.producers.specs.Producer.{shapely, rule_call}
use Rattle.producers.specs.Producer as producers
use Rattle.input.specs.Input.{Tables, Call, context, work, predicate, argument, constant, expression, seed_value, seed_interval, rule, for_predicate, from_predicate, with_header, for_constant, from_constant, for_expression, from_expression, for_value, from_value, for_interval, from_interval, for_rule, from_rule, call, done, id}
use Rattle.input.proofs.Left.{on_ends_lem}

module _ (t : Tables) (shut : open? t.header ≡ false) where
  never : open? t.header ≡ true → ⊥
  never h = let e : true ≡ false = sym h ∙ shut in let z : ◌≡◌ {A = ℕ} 0 1 = cc in omega arith

  pub closed_idle : (c : Call) → Ends (λ _ _. ⊥) (λ _ u. u ≡ t) (call c t)
  unfolding call context_call work_call predicate_call argument_call constant_call expression_call seed_value_call seed_interval_call rule_call
  closed_idle (context c) = on_ends_lem (λ u. u.header) with_header (λ _. done) (context_call c) t (ends_test (open? t.header) (λ h. absurd (never h)) (λ _. stops refl)) (λ _ _ h. h) (λ _ u h. ap (λ s. with_header s t) h)
  closed_idle (work n) = on_ends_lem (λ u. u.header) with_header (λ _. done) (work_call n) t (ends_test (open? t.header) (λ h. absurd (never h)) (λ _. stops refl)) (λ _ _ h. h) (λ _ u h. ap (λ s. with_header s t) h)
  closed_idle (predicate arity) =
      on_ends_lem for_predicate from_predicate id (predicate_call arity) t
      (ends_test (eqb (length t.predicates) size.predicate_cells && eqb (length t.seeds) size.argument_cells) (λ _. ends_test (open? t.header) (λ h. absurd (never h)) (λ _. stops refl)) (λ _. stops refl)) (λ _ _ h. h) (λ _ u h. ap (λ s. from_predicate s t) h)
  closed_idle (argument p i) =
      on_ends_lem (λ u. u.header) with_header id (argument_call p i t.predicates) t
      (ends_test (eqb (length t.predicates) size.predicate_cells) (λ _. ends_test (open? t.header) (λ h. absurd (never h)) (λ _. stops refl)) (λ _. stops refl)) (λ _ _ h. h) (λ _ u h. ap (λ s. with_header s t) h)
  closed_idle (constant k) =
      on_ends_lem for_constant from_constant id (constant_call k) t
      (ends_test (constants.sized (length t.names) (length t.constants) (length t.order) (length t.thresholds))
      (λ _. ends_test (leb (length (bytes_of k)) 64) (λ _. ends_test (open? t.header) (λ h. absurd (never h)) (λ _. stops refl)) (λ _. stops refl)) (λ _. stops refl)) (λ _ _ h. h) (λ _ u h. ap (λ s. from_constant s t) h)
  closed_idle (expression e) =
      on_ends_lem for_expression from_expression id (expression_call e) t
      (ends_test (eqb (length t.nodes) size.node_cells) (λ _. ends_test (supported e) (λ _. ends_test (open? t.header) (λ h. absurd (never h)) (λ _. stops refl)) (λ _. stops refl)) (λ _. stops refl)) (λ _ _ h. h) (λ _ u h. ap (λ s. from_expression s t) h)
  closed_idle (seed_value a k) =
      on_ends_lem for_value from_value (λ _. done) (seed_value_call t.constants a k) t
      (ends_test (eqb (length t.constants) size.constant_cells && seeds.sized (length t.seeds) (length t.records)) (λ _. ends_test (open? t.header) (λ h. absurd (never h)) (λ _. stops refl)) (λ _. stops refl)) (λ _ _ h. h) (λ _ u h. ap (λ s. from_value s t) h)
  closed_idle (seed_interval a low high) =
      on_ends_lem for_interval from_interval (λ _. done) (seed_interval_call a low high) t
      (ends_test (eqb (length t.thresholds) size.thresholds && seeds.sized (length t.seeds) (length t.records)) (λ _. ends_test (open? t.header) (λ h. absurd (never h)) (λ _. stops refl)) (λ _. stops refl)) (λ _ _ h. h) (λ _ u h. ap (λ s. from_interval s t) h)
  closed_idle (rule r) =
      on_ends_lem for_rule from_rule id (rule_call t.nodes r) t
      (ends_test (producers.sized (length t.nodes) (length t.rules) (length t.records)) (λ _. ends_test (shapely r) (λ _. ends_test (open? t.header) (λ h. absurd (never h)) (λ _. stops refl)) (λ _. stops refl)) (λ _. stops refl)) (λ _ _ h. h)
      (λ _ u h. ap (λ s. from_rule s t) h)
