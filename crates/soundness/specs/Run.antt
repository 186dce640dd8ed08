-- The plain run over a store: 01's paragraph, sentence by sentence. It is made of the accepted calls and their answers, and never of the store's tables.
use Rattle.std.specs.Prelude.{ℕ, ◌≡◌, cond, ◌⊎◌, eqb, ℤ}
use mathlib.Core.List.{List, [], ◌∷◌, ◌++◌, map, Memᴰ}
use Rattle.std.proofs.Math.Option.{Option, some, none}
use Rattle.integers.specs.Order.{Between}
use Rattle.keys.specs.Key.{Key}
use Rattle.keys.specs.Key as keys
use Rattle.rules.specs.declared.Rule.{Rule}
use Rattle.rules.specs.Rule.{bindings_of, guards_of, heads_of}
use Rattle.input.specs.Input.{context, work, predicate, argument, constant, expression, seed_value, seed_interval, rule, Reply, done, id}
use Rattle.input.specs.Input as input
use Rattle.numeric.specs.Step.{Event, store, run, reading, refused, reply, ran, shows}
use Rattle.numeric.specs.Step as calls
use Rattle.soundness.specs.Plain.{Tree, nothing, Opaque, Choices, PlainBinding, PlainGuard, PlainHead, PlainState, Fires, into, HeadsGive}
use Rattle.soundness.specs.Tied.{tree_of, plain_binding, plain_guard, plain_head}

-- ---- "An id stands for what was given to the first accepted call of its kind that answered it."

pub record Named (A : Type 0) : Type 0 where
  pub id : ℕ
  pub given : A

abbrev pub named : {A : Type 0} → ℕ → A → Named A
named i a = record { id = i; given = a }

abbrev pub stands_for : {A : Type 0} → List (Named A) → ℕ → Option A
stands_for [] i = none
stands_for (e ∷ l) i = cond (eqb e.id i) (some e.given) (stands_for l i)

-- ---- "The plain run over a store takes the calls that the store accepted [..] with their answers; a refused call gives it nothing."

pub record PlainRule : Type 0 where
  pub bindings : List PlainBinding
  pub guards : List PlainGuard
  pub heads : List PlainHead

-- "the value of a seeded constant, each number of a seeded interval"
pub data Seed : Type 0 where
  one : ℕ → Key → Seed
  range : ℕ → ℤ → ℤ → Seed

pub record Accepted : Type 0 where
  pub keys : List (Named Key)
  pub trees : List (Named Tree)
  pub seeds : List Seed
  pub rules : List PlainRule

abbrev pub accepted : List (Named Key) → List (Named Tree) → List Seed → List PlainRule → Accepted
accepted k t s r = record { keys = k; trees = t; seeds = s; rules = r }

abbrev pub key_for : Accepted → ℕ → Option Key
key_for p i = stands_for p.keys i

-- an id that no call answered stands for nothing
abbrev pub or_nothing : Option Tree → Tree
or_nothing none = nothing
or_nothing (some t) = t

abbrev pub tree_at : Accepted → ℕ → Tree
tree_at p i = or_nothing (stands_for p.trees i)

abbrev pub rule_of : Accepted → Rule → PlainRule
rule_of p r = record {
  bindings = map (plain_binding (tree_at p)) (bindings_of r);
  guards = map (plain_guard (tree_at p)) (guards_of r);
  heads = map (plain_head (tree_at p)) (heads_of r);
}

-- a constant that stands for nothing seeds nothing
abbrev pub seed_of : ℕ → Option Key → List Seed
seed_of a none = []
seed_of a (some k) = one a k ∷ []

-- what a call that answers an id says, and one that does not
abbrev pub with_id : Reply → Accepted → (ℕ → Accepted) → Accepted
with_id done p f = p
with_id (id i) p f = f i

abbrev pub without_id : Reply → Accepted → Accepted → Accepted
without_id done p q = q
without_id (id i) p q = p

abbrev pub said : Accepted → input.Call → Reply → Accepted
said p (context c) r = p
said p (work n) r = p
said p (predicate arity) r = p
said p (argument q i) r = p
said p (constant k) r = with_id r p (λ i. accepted (p.keys ++ (named i k ∷ [])) p.trees p.seeds p.rules)
said p (expression e) r = with_id r p (λ i. accepted p.keys (p.trees ++ (named i (tree_of (key_for p) (tree_at p) e) ∷ [])) p.seeds p.rules)
said p (seed_value a k) r = without_id r p (accepted p.keys p.trees (p.seeds ++ seed_of a (key_for p k)) p.rules)
said p (seed_interval a low high) r = without_id r p (accepted p.keys p.trees (p.seeds ++ (range a low high ∷ [])) p.rules)
said p (rule q) r = with_id r p (λ _. accepted p.keys p.trees p.seeds (p.rules ++ (rule_of p q ∷ [])))

-- a reply is no refusal
abbrev pub learned_reply : Accepted → input.Call → calls.Answer → Accepted
learned_reply p c (refused e) = p
learned_reply p c (reply r) = said p c r
learned_reply p c ran = p
learned_reply p c (shows a) = p

-- the run and readings say nothing
abbrev pub learned : Accepted → calls.Call → calls.Answer → Accepted
learned p (store c) a = learned_reply p c a
learned p (run w) a = p
learned p (reading q) a = p

unfoldable pub heard_from : Accepted → List Event → Accepted
heard_from p [] = p
heard_from p (e ∷ es) = heard_from (learned p e.call e.answer) es

abbrev pub heard : List Event → Accepted
heard es = heard_from (accepted [] [] [] []) es

-- ---- "The state is a set of values for each argument, at first its seeds"

abbrev pub SeedGives : Seed → ℕ → Key → Type 0
SeedGives (one a k) b v = (b ≡ a) × (v ≡ k)
SeedGives (range a low high) b v = (b ≡ a) × ((z : ℤ) × (v ≡ keys.number z) × Between low high z)

pub record Seeded (p : Accepted) (a : ℕ) (v : Key) : Type 0 where
  pub seed : Seed
  pub among : Memᴰ seed p.seeds
  pub gives : SeedGives seed a v

-- ---- "A step is a firing: an accepted rule, one value per slot, and one for each other choice below."

pub record Firing : Type 0 where
  pub rule : PlainRule
  pub choices : Choices

-- "The rule fires when all bindings and guards hold, and otherwise nothing changes [..] Each head with a value adds it."
pub record Produces (o : Opaque) (p : Accepted) (s : PlainState) (f : Firing) (a : ℕ) (v : Key) : Type 0 where
  pub among : Memᴰ f.rule p.rules
  pub fires : Fires o s f.choices f.rule.bindings f.rule.guards
  pub gives : HeadsGive o f.choices.slots (into 2 f.choices.choice) f.rule.heads a v

-- one firing after another
unfoldable pub fired : Opaque → Accepted → PlainState → List Firing → PlainState
fired o p s [] = s
fired o p s (f ∷ fs) = fired o p (λ a v. s a v ⊎ Produces o p s f a v) fs

-- v is put into the argument a, by the seeds or by a firing
abbrev pub Reaches : Opaque → Accepted → List Firing → ℕ → Key → Type 0
Reaches o p fs a v = fired o p (Seeded p) fs a v
