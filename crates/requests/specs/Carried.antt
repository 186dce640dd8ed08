-- Requests carried out: each becomes a call once the ids that it wants are there, and the first call that is refused ends it. 02, CR 2: "those of the
-- calls, the first of which ends the reading".
use Rattle.std.specs.Prelude.{ℕ, List, [], ◌∷◌, ◌++◌, map, take, replicate, length, get_or}
use Rattle.sizes.specs.Sizes as size
use Rattle.std.proofs.Math.Option.{Option, some, none}
use Rattle.limits.specs.Refusal.{Told}
use Rattle.limits.specs.Metered.{Run, going, stopped}
use Rattle.nodes.specs.declared.UnaryOp.TheVariants.{Negate}
use Rattle.nodes.specs.declared.Expression.TheVariants.{Constant, Slot, Unary, Binary}
use Rattle.rules.specs.declared.Relation.TheVariants.{Lt}
use Rattle.rules.specs.declared.Binding.{Binding}
use Rattle.rules.specs.declared.Binding.TheVariants as bindings
use Rattle.rules.specs.declared.Guard.{Guard}
use Rattle.rules.specs.declared.Guard.TheVariants.{Compare}
use Rattle.rules.specs.declared.Head.{Head}
use Rattle.rules.specs.declared.Rule.{Rule}
use Rattle.input.specs.Input.{Tables, Call, Reply, done, id, call}
use Rattle.input.specs.Input as input
use Rattle.requests.specs.Requests.{Request, predicate, argument, constant, literal, slot, negation, binary, seed_value, seed_interval, rule, Positive, Comparison, Gain}

-- ---- a request with the answers before it, as a call

-- the id that a request before was answered; each that is named was answered one
abbrev pub id_of : List ℕ → ℕ → ℕ
id_of ids k = get_or ids k 0

abbrev pub binding_of : List ℕ → Positive → Binding
binding_of ids p = bindings.Positive p.slot (id_of ids p.argument)

abbrev pub guard_of : List ℕ → Comparison → Guard
guard_of ids c = Compare (id_of ids c.left) c.relation (id_of ids c.right)

abbrev pub head_of : List ℕ → Gain → Head
head_of ids g = record { argument = id_of ids g.argument; value = id_of ids g.value }

-- the first n of a list, and x in the rest of the array: what is behind the lengths means nothing
abbrev pub array : {A : Type 0} → ℕ → A → List A → List A
array n x l = take n (l ++ replicate n x)

-- A sentence may have more than a rule has room for. The call is given the true lengths, and meets 1.
unfoldable pub rule_of : List ℕ → ℕ → List Positive → List Comparison → List Gain → Rule
rule_of ids slots p c g = record {
  slots = slots;
  bindings = array size.bindings (bindings.Positive 0 0) (map (binding_of ids) p);
  guards = array size.guards (Compare 0 Lt 0) (map (guard_of ids) c);
  heads = array size.heads (record { argument = 0; value = 0 }) (map (head_of ids) g);
  lengths = record { bindings = length p; guards = length c; heads = length g; queries = 0 };
}

unfoldable pub call_of : List ℕ → Request → Call
call_of ids (predicate n) = input.predicate n
call_of ids (argument p i) = input.argument (id_of ids p) i
call_of ids (constant k) = input.constant k
call_of ids (literal k) = input.expression (Constant (id_of ids k))
call_of ids (slot s) = input.expression (Slot s)
call_of ids (negation e) = input.expression (Unary Negate (id_of ids e))
call_of ids (binary op l r) = input.expression (Binary op (id_of ids l) (id_of ids r))
call_of ids (seed_value a k) = input.seed_value (id_of ids a) (id_of ids k)
call_of ids (seed_interval a low high) = input.seed_interval (id_of ids a) low high
call_of ids (rule slots p c g) = input.rule (rule_of ids slots p c g)

-- ---- one after another

-- a seed answers no id, and none is asked of it
abbrev pub number_of_reply : Reply → ℕ
number_of_reply done = 0
number_of_reply (id n) = n

pub record Carried : Type 0 where
  -- the calls that were made, the refused one too
  pub calls : List Call
  pub refusal : Option Told
  pub after : Tables

abbrev pub carried : List Call → Option Told → Tables → Carried
carried c r t = record { calls = c; refusal = r; after = t }

abbrev pub behind : Call → Carried → Carried
behind c d = carried (c ∷ d.calls) d.refusal d.after

abbrev pub going_on : Call → (ℕ → Tables → Carried) → Run Told Tables Reply → Carried
going_on c k (going a t) = behind c (k (number_of_reply a) t)
going_on c k (stopped e t) = carried (c ∷ []) (some e) t

-- with what was answered so far
unfoldable pub carry : List ℕ → List Request → Tables → Carried
carry ids [] t = carried [] none t
carry ids (r ∷ l) t = let c = call_of ids r in going_on c (λ n u. carry (ids ++ (n ∷ [])) l u) (call c t)
