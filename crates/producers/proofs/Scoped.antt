-- What is in the scope of a rule: a check passes only expressions that stand and name slots that exist, with all below them, and only
-- bindings, guards and heads that name such. It all stays so while arguments are added and the table of expressions grows.
use Prim.Native.Nat.{ℕ, zero, suc, ◌≤◌, ◌<◌}
use native.Mathlib.Omega.{arith}
use Rattle.std.proofs.Common.{Result, Ok, Err}
use mathlib.Core.Path.{◌≡◌, refl, ◌∙◌}
use mathlib.Core.Bool.{Bool, true}
use mathlib.Core.List.{List, [], ◌∷◌}
use borrow.Author.Tests.{ltb-true}
use lib.Dec.{ltb}
use Rattle.integers.specs.Lists.{All}
use Rattle.limits.specs.declared.Resource.TheVariants.{Work}
use Rattle.limits.specs.declared.Refusal.{Refusal}
use Rattle.limits.specs.declared.Refusal.TheVariants.{Limit, Missing, MissingSlot}
use Rattle.limits.specs.Refusal.{Told, told}
use Rattle.limits.specs.declared.Stop.{Stop}
use Rattle.limits.specs.Charge.{charge_of}
use Rattle.limits.specs.Metered.{Metered, pure, ◌>>◌}
use Rattle.limits.specs.declared.Meter.{Meter}
use Rattle.limits.specs.Meter.{work, with_work}
use Rattle.limits.specs.Meter as inner
use Rattle.limits.proofs.ChargeLaws.{limit_late}
use Rattle.limits.proofs.Ends.{Ends, completes, stops, ends_as, ends_pure, ends_test, ends_then, ends_through}
use Rattle.nodes.specs.declared.UnaryOp.{UnaryOp}
use Rattle.nodes.specs.declared.BinaryOp.{BinaryOp}
use Rattle.nodes.specs.declared.Expression.{Expression}
use Rattle.nodes.specs.declared.Expression.TheVariants.{Constant, Slot, Unary, Absolute, Binary, Unknown}
use Rattle.nodes.specs.Node.{node_at, expression_at}
use Rattle.nodes.proofs.NodeLaws.{Below, children_smaller}
use Rattle.lattice.specs.declared.Widening.{Widening}
use Rattle.store.specs.Calls.{unless}
use Rattle.rules.specs.declared.Binding.{Binding}
use Rattle.rules.specs.declared.Binding.TheVariants.{Positive, Assign, Range, Aggregate}
use Rattle.rules.specs.declared.Guard.{Guard}
use Rattle.rules.specs.declared.Guard.TheVariants.{Compare, Membership}
use Rattle.rules.specs.declared.Head.{Head}
use Rattle.rules.specs.declared.Rule.{Rule}
use Rattle.rules.specs.Rule.{bindings_of, guards_of, heads_of}
use Rattle.rules.proofs.RuleLaws.{Short, SmallBinding, SmallGuard, Small}
use Rattle.producers.specs.Producer.{Scope, scope, unit, each, slot_in, check_node, check_in, check_expression, check_pair, check_value, check_binding, check_guard, check_body}

-- ---- what is in scope

-- the expression at an id stands, and so do all below it; the slots that they name exist
pub data Scoped (s : Scope) : ℕ → Type 0 where
  in_constant : {id k : ℕ} → id < s.expressions → expression_at s.nodes id ≡ Constant k → Scoped s id
  in_slot : {id k : ℕ} → id < s.expressions → expression_at s.nodes id ≡ Slot k → k < s.slots → Scoped s id
  in_unary : {id e : ℕ} {op : UnaryOp} → id < s.expressions → expression_at s.nodes id ≡ Unary op e → Scoped s e → Scoped s id
  in_absolute : {id e : ℕ} → id < s.expressions → expression_at s.nodes id ≡ Absolute e → Scoped s e → Scoped s id
  in_binary : {id l r : ℕ} {op : BinaryOp} → id < s.expressions → expression_at s.nodes id ≡ Binary op l r → Scoped s l → Scoped s r → Scoped s id
  in_unknown : {id : ℕ} {i : Bool} {w : Widening} → id < s.expressions → expression_at s.nodes id ≡ Unknown i w → Scoped s id

pub scoped_there : {s : Scope} {id : ℕ} → Scoped s id → id < s.expressions
scoped_there (in_constant h e) = h
scoped_there (in_slot h e k) = h
scoped_there (in_unary h e p) = h
scoped_there (in_absolute h e p) = h
scoped_there (in_binary h e p q) = h
scoped_there (in_unknown h e) = h

still : {n n' : ℕ} (id : ℕ) → n ≤ n' → id < n → id < n'
still id g h = omega arith

-- more expressions may stand, if the older ids read as they did
module _ {nodes nodes' : List ℕ} {n n' : ℕ} (slots : ℕ) (grows : n ≤ n') (same : (i : ℕ) → i < n → expression_at nodes' i ≡ expression_at nodes i) where
  pub scoped_more : {id : ℕ} → Scoped (scope nodes n slots) id → Scoped (scope nodes' n' slots) id
  scoped_more (in_constant {id} h e) = in_constant (still id grows h) (same id h ∙ e)
  scoped_more (in_slot {id} h e k) = in_slot (still id grows h) (same id h ∙ e) k
  scoped_more (in_unary {id} h e p) = in_unary (still id grows h) (same id h ∙ e) (scoped_more p)
  scoped_more (in_absolute {id} h e p) = in_absolute (still id grows h) (same id h ∙ e) (scoped_more p)
  scoped_more (in_binary {id} h e p q) = in_binary (still id grows h) (same id h ∙ e) (scoped_more p) (scoped_more q)
  scoped_more (in_unknown {id} h e) = in_unknown (still id grows h) (same id h ∙ e)

-- ---- what a check finds

-- refusals 1 and 2 come before anything is charged: what stops a check is none of them
abbrev pub Late : Told → Type 0
Late r = r.number ≤ 2 → ⊥

-- c passes only where P holds, and leaves the live entries, whichever way it ends
pub record Finds (P : Type 0) (c : Metered Told Meter (Unit {0})) : Type 0 where
  pub at : (m : Meter) → Ends (λ _ n. P × (n.entries ≡ m.entries)) (λ r n. Late r × (n.entries ≡ m.entries)) (c m)

pub finds_as : {P Q : Type 0} {c : Metered Told Meter (Unit {0})} → Finds P c → (P → Q) → Finds Q c
finds_as h f = record { at = λ m. ends_as (h.at m) (λ _ n p. (f p.0, p.1)) (λ r n p. p) }

pub finds_pure : Finds (Unit {0}) (pure tt)
finds_pure = record { at = λ m. ends_pure tt m (tt, refl) }

pub finds_then : {P Q : Type 0} {c d : Metered Told Meter (Unit {0})} → Finds P c → Finds Q d → Finds (P × Q) (c >> d)
finds_then {c = c} {d = d} h k = record {
  at = λ m. ends_then c d m (h.at m) (λ _ n p. ends_as (k.at n) (λ _ o q. ((p.0, q.0), q.1 ∙ p.1)) (λ r o q. (q.0, q.1 ∙ p.1))) (λ r n p. p);
}

pub finds_test : {P : Type 0} (t : Bool) (q : Refusal) {c : Metered Told Meter (Unit {0})} → Late (told q) → (t ≡ true → Finds P c) → Finds P (unless (λ _. t) q c)
finds_test t q l h = record { at = λ m. ends_test t (λ e. (h e).at m) (λ _. stops (l, refl)) }

work_entries : (k : ℕ) (m : Meter) → Ends (λ _ n. n.entries ≡ m.entries) (λ _ n. n.entries ≡ m.entries) (work k m)
unfolding work
work_entries k m = go (charge_of Work m.work k m.max_work)
  where
    go : (x : Result ℕ Stop) → Ends (λ _ n. n.entries ≡ m.entries) (λ _ n. n.entries ≡ m.entries) (inner.charged (λ n. with_work n m) m x)
    go (Ok n) = completes refl
    go (Err e) = stops refl

pub finds_step : Finds (Unit {0}) unit
finds_step = record {
  at = λ m.
      ends_through (λ s. s) (λ _ t. t) (λ _ t. t) (λ e. told (Limit e)) (work 1) m (work_entries 1 m) (λ _ n p. (tt, p)) (λ e n p. (limit_late e.resource, p));
}

pub finds_slot : (slots k : ℕ) → Finds (k < slots) (slot_in slots k)
finds_slot slots k = finds_test (ltb k slots) MissingSlot (λ h. absurd (omega arith)) (λ t. finds_as finds_pure (λ _. ltb-true k slots t))

pub finds_each : {A : Type 0} {P : A → Type 0} {f : A → Metered Told Meter (Unit {0})} → ((a : A) → Finds (P a) (f a)) → (l : List A) → Finds (All P l) (each f l)
unfolding each
finds_each h [] = finds_pure
finds_each h (a ∷ l) = finds_as (finds_then finds_step (finds_then (h a) (finds_each h l))) (λ p. p.1)

-- ---- an expression

module _ (s : Scope) (check : ℕ → Metered Told Meter (Unit {0})) (id : ℕ) (h : id < s.expressions) (children : (j : ℕ) → j < id → Finds (Scoped s j) (check j)) where
  node_scoped : (e : Expression) → Below id e → expression_at s.nodes id ≡ e → Finds (Scoped s id) (check_node check s.slots e)
  node_scoped (Constant k) b e = finds_as finds_pure (λ _. in_constant h e)
  node_scoped (Slot k) b e = finds_as (finds_slot s.slots k) (λ p. in_slot h e p)
  node_scoped (Unary op i) b e = finds_as (children i b) (λ p. in_unary h e p)
  node_scoped (Absolute i) b e = finds_as (children i b) (λ p. in_absolute h e p)
  node_scoped (Binary op l r) b e = finds_as (finds_then (children r b.1) (children l b.0)) (λ p. in_binary h e p.1 p.0)
  node_scoped (Unknown i w) b e = finds_as finds_pure (λ _. in_unknown h e)

in_scoped : (depth : ℕ) (s : Scope) (id : ℕ) → id < depth → Finds (Scoped s id) (check_in depth s id)
unfolding check_in expression_at
in_scoped zero s id l = absurd (omega arith)
in_scoped (suc depth) s id l =
    finds_as
    (finds_then finds_step
    (finds_test (ltb id s.expressions) Missing (λ h. absurd (omega arith))
    (λ t.
    node_scoped s (check_in depth s) id (ltb-true id s.expressions t) (λ j k. in_scoped depth s j (omega arith)) (expression_at s.nodes id)
    (children_smaller (node_at s.nodes id) id) refl)))
    (λ p. p.1)

pub finds_scoped : (s : Scope) (id : ℕ) → Finds (Scoped s id) (check_expression s id)
unfolding check_expression
finds_scoped s id = in_scoped (suc id) s id (omega arith)

-- an expression that passes is in scope
pub check_scoped : (s : Scope) (id : ℕ) (m : Meter) → Ends (λ _ _. Scoped s id) (λ _ _. Unit {0}) (check_expression s id m)
check_scoped s id m = ends_as ((finds_scoped s id).at m) (λ _ _ p. p.0) (λ _ _ _. tt)

-- ---- a rule

abbrev pub BindingIn : ℕ → Scope → Binding → Type 0
BindingIn arguments s (Positive slot argument) = (slot < s.slots) × (argument < arguments)
BindingIn arguments s (Assign slot value) = (slot < s.slots) × Scoped s value
BindingIn arguments s (Range slot low high) = (slot < s.slots) × (Scoped s low × Scoped s high)
BindingIn arguments s (Aggregate slot function) = slot < s.slots

abbrev pub GuardIn : Scope → Guard → Type 0
GuardIn s (Compare left relation right) = Scoped s left × Scoped s right
GuardIn s (Membership slot low high) = (slot < s.slots) × (Scoped s low × Scoped s high)

abbrev pub HeadIn : ℕ → Scope → Head → Type 0
HeadIn arguments s h = (h.argument < arguments) × Scoped s h.value

-- of so many arguments
pub record RuleIn (arguments : ℕ) (s : Scope) (r : Rule) : Type 0 where
  -- the scope's slots are the rule's, and all that it has finds room in a row
  pub own : s.slots ≡ r.slots
  pub slots : r.slots ≤ 16
  pub short : Short r
  -- what it names exists
  pub bindings : All (BindingIn arguments s) (bindings_of r)
  pub guards : All (GuardIn s) (guards_of r)
  pub heads : All (HeadIn arguments s) (heads_of r)

all_as : {A : Type 0} {P Q : A → Type 0} → ((a : A) → P a → Q a) → (l : List A) → All P l → All Q l
all_as f [] h = tt
all_as f (a ∷ l) h = (f a h.0, all_as f l h.1)

-- its numbers fit cells
module _ (arguments : ℕ) (s : Scope) (few : arguments ≤ 256) (stand : s.expressions ≤ 1024) (slots : s.slots ≤ 16) where
  binding_small : (b : Binding) → BindingIn arguments s b → SmallBinding b
  binding_small (Positive slot argument) h = (omega arith, omega arith)
  binding_small (Assign slot value) h = (omega arith, omega (arith, scoped_there h.1))
  binding_small (Range slot low high) h = (omega arith, (omega (arith, scoped_there h.1.0), omega (arith, scoped_there h.1.1)))
  binding_small (Aggregate slot function) h = omega arith

  guard_small : (g : Guard) → GuardIn s g → SmallGuard g
  guard_small (Compare left relation right) h = (omega (arith, scoped_there h.0), omega (arith, scoped_there h.1))
  guard_small (Membership slot low high) h = (omega arith, (omega (arith, scoped_there h.1.0), omega (arith, scoped_there h.1.1)))

pub rule_small : {arguments : ℕ} {s : Scope} {r : Rule} → arguments ≤ 256 → s.expressions ≤ 1024 → RuleIn arguments s r → Small r
rule_small {arguments} {s} {r} few stand h =
    let slots : s.slots ≤ 16 = omega (arith, h.own, h.slots) in
    record {
      slots = omega (arith, h.slots);
      bindings = all_as (binding_small arguments s few stand slots) (bindings_of r) h.bindings;
      guards = all_as (guard_small arguments s few stand slots) (guards_of r) h.guards;
      heads = all_as (λ i p. (omega arith, omega (arith, scoped_there p.1))) (heads_of r) h.heads;
    }

-- more arguments and expressions may stand
module _ (s s' : Scope) (a a' : ℕ) (more : a ≤ a') (slots : s'.slots ≡ s.slots) (grows : (id : ℕ) → Scoped s id → Scoped s' id) where
  binding_more : (b : Binding) → BindingIn a s b → BindingIn a' s' b
  binding_more (Positive slot argument) h = (omega arith, omega arith)
  binding_more (Assign slot value) h = (omega arith, grows value h.1)
  binding_more (Range slot low high) h = (omega arith, (grows low h.1.0, grows high h.1.1))
  binding_more (Aggregate slot function) h = omega arith

  guard_more : (g : Guard) → GuardIn s g → GuardIn s' g
  guard_more (Compare left relation right) h = (grows left h.0, grows right h.1)
  guard_more (Membership slot low high) h = (omega arith, (grows low h.1.0, grows high h.1.1))

  in_more : (r : Rule) → RuleIn a s r → RuleIn a' s' r
  in_more r h = record {
    own = slots ∙ h.own;
    slots = h.slots;
    short = h.short;
    bindings = all_as binding_more (bindings_of r) h.bindings;
    guards = all_as guard_more (guards_of r) h.guards;
    heads = all_as (λ i p. (omega arith, grows i.value p.1)) (heads_of r) h.heads;
  }

pub rule_in_more : {nodes nodes' : List ℕ} {n n' a a' : ℕ} {r : Rule} (slots : ℕ) → a ≤ a' → n ≤ n' → ((i : ℕ) → i < n → expression_at nodes' i ≡ expression_at nodes i) →
    RuleIn a (scope nodes n slots) r → RuleIn a' (scope nodes' n' slots) r
rule_in_more {nodes} {nodes'} {n} {n'} {a} {a'} {r} slots more grows same h =
    in_more (scope nodes n slots) (scope nodes' n' slots) a a' more refl (λ id p. scoped_more slots grows same p) r h

-- ---- what its checks find

finds_pair : (s : Scope) (i j : ℕ) → Finds (Scoped s i × Scoped s j) (check_pair s i j)
unfolding check_pair
finds_pair s i j = finds_then (finds_scoped s i) (finds_scoped s j)

pub finds_value : (s : Scope) (id : ℕ) → Finds (Scoped s id) (check_value s id)
unfolding check_value
finds_value s id = finds_as (finds_then finds_step (finds_scoped s id)) (λ p. p.1)

pub finds_binding : (arguments : ℕ) (s : Scope) (b : Binding) → Finds (BindingIn arguments s b) (check_binding arguments s b)
finds_binding arguments s (Positive slot argument) =
    finds_test (ltb argument arguments) Missing (λ h. absurd (omega arith)) (λ t. finds_as (finds_slot s.slots slot) (λ p. (p, ltb-true argument arguments t)))
finds_binding arguments s (Assign slot value) = finds_as (finds_then (finds_scoped s value) (finds_slot s.slots slot)) (λ p. (p.1, p.0))
finds_binding arguments s (Range slot low high) = finds_as (finds_then (finds_pair s low high) (finds_slot s.slots slot)) (λ p. (p.1, p.0))
finds_binding arguments s (Aggregate slot function) = finds_slot s.slots slot

pub finds_guard : (s : Scope) (g : Guard) → Finds (GuardIn s g) (check_guard s g)
finds_guard s (Compare left relation right) = finds_pair s left right
finds_guard s (Membership slot low high) =
    finds_test (ltb slot s.slots) MissingSlot (λ h. absurd (omega arith)) (λ t. finds_as (finds_pair s low high) (λ p. (ltb-true slot s.slots t, p)))

pub finds_body : (arguments : ℕ) (s : Scope) (r : Rule) →
    Finds (All (BindingIn arguments s) (bindings_of r) × All (GuardIn s) (guards_of r)) (check_body arguments s r)
unfolding check_body
finds_body arguments s r = finds_then (finds_each (finds_binding arguments s) (bindings_of r)) (finds_each (finds_guard s) (guards_of r))
