-- Demand 3 for the code. A raw state is the header that was handed back last, and what stands in the lent slices. Each case below is what one entry
-- point ensures: the header and a slice of the state stand for `x.old` or `x.now`, and a variable for `x.new`. What an entry point is not lent as
-- `&mut` stays as it was. The functions of crate `service` call the entry points, and `Begins` and `Exchange` are what they ensure.
use Rattle.std.specs.Prelude.{ℕ, ◌≡◌, Bool, false, ℤ, Result, Ok, Err}
use Rattle.std.specs.Borrow.{Bor}
use mathlib.Core.List.{List, [], ◌∷◌, Memᴰ}
use Rattle.integers.specs.Lists.{All}
use Rattle.limits.specs.declared.Limits.{Limits}
use Rattle.limits.specs.declared.Refusal.{Refusal}
use Rattle.limits.specs.Refusal.{told, replied}
use Rattle.interval.specs.declared.Bound.{Bound}
use Rattle.interval.specs.declared.Constant.{Constant}
use Rattle.lattice.specs.declared.Abstract.{Abstract}
use Rattle.lattice.specs.Value.{Value, value_of}
use Rattle.keys.specs.Key.{Key, key_of}
use Rattle.keys.specs.declared.Key as declared
use Rattle.nodes.specs.declared.Expression.{Expression}
use Rattle.rules.specs.declared.Rule.{Rule}
use Rattle.store.specs.declared.Store.{Store}
use Rattle.store.specs.Store.{fresh_of}
use Rattle.store.specs.Calls.{context_call, work_call, argument_call, predicate_call}
use Rattle.store.specs.Calls as store
use Rattle.constants.specs.Constant.{constant_call}
use Rattle.constants.specs.Constant as constants
use Rattle.expressions.specs.Expression.{expression_call}
use Rattle.expressions.specs.Expression as expressions
use Rattle.seeds.specs.Seed.{seed_value_call, seed_interval_call}
use Rattle.seeds.specs.Seed as seeds
use Rattle.producers.specs.Producer.{rule_call}
use Rattle.producers.specs.Producer as producers
use Rattle.engine.specs.Call.{Working, read, run_call, run_leaves}
use Rattle.engine.specs.Call as engine
use Rattle.input.specs.Input.{Tables, with_header, from_predicate, from_constant, from_expression, from_value, from_interval, from_rule}
use Rattle.input.specs.Input as input
use Rattle.numeric.specs.declared.Ended.{Ended}
use Rattle.numeric.specs.Reading.{argument_reading, context_count_reading, context_reading, slot_reading, key_reading, name_reading, status_reading}
use Rattle.numeric.specs.Answers.{reads, kind}
use Rattle.numeric.specs.Answers as answers
use Rattle.numeric.specs.Question.{Question, Shown}
use Rattle.numeric.specs.Question as asks
use Rattle.numeric.specs.Step.{Call, State, state, from_run, Event, event}
use Rattle.numeric.specs.Step as calls
use Rattle.soundness.specs.Plain.{Opaque}
use Rattle.soundness.specs.Run.{heard, Firing, Reaches}
use Rattle.soundness.specs.Fits.{fits}
use Rattle.soundness.specs.Claim.{LiesIn, Typed, Lent}

-- ---- what an answer of the code tells

abbrev pub tells : {A : Type 0} → (A → calls.Answer) → Result A Refusal → calls.Answer
tells f (Ok a) = f a
tells f (Err e) = calls.refused (told e)

abbrev pub done_tells : Result (Unit {0}) Refusal → calls.Answer
done_tells r = tells (λ _. calls.reply input.done) r

abbrev pub id_tells : Result ℕ Refusal → calls.Answer
id_tells r = tells (λ i. calls.reply (input.id i)) r

-- ---- `fresh`: what it answers, and the header that it hands back

pub data Begins (l : Limits) : calls.Answer → Store → Type 0 where
  fresh : (r : Result (Unit {0}) Refusal) (header' : Store) → replied r header' ≡ fresh_of l → Begins l (done_tells r) header'

-- ---- one reading of the code: what is asked, and what it answers; it leaves everything as it was

abbrev pub shown_tells : {A B : Type 0} → (B → Shown) → (A → B) → Result A Refusal → calls.Answer
shown_tells f g r = tells (λ a. calls.shows (f (g a))) r

pub data Reads (s : State) : Question → calls.Answer → Type 0 where
  argument : (a : ℕ) (r : Result Abstract Refusal) → reads value_of r ≡ argument_reading s.tables.header s.arguments a → Reads s (asks.argument a) (shown_tells asks.value value_of r)
  context_count : (a : ℕ) (r : Result ℕ Refusal) → reads (λ n. n) r ≡ context_count_reading s.tables.header s.tables.records a → Reads s (asks.context_count a) (shown_tells asks.number (λ n. n) r)
  context : (a k : ℕ) (r : Result ℕ Refusal) → reads (λ n. n) r ≡ context_reading s.tables.header s.tables.records a k → Reads s (asks.context a k) (shown_tells asks.number (λ n. n) r)
  slot : (q k : ℕ) (after : Bool) (r : Result Bound Refusal) → reads (λ b. b) r ≡ slot_reading s.tables.header s.tables.rules s.slots q k after →
      Reads s (asks.slot q k after) (shown_tells asks.bound (λ b. b) r)
  key : (k : ℕ) (r : Result Constant Refusal) → reads kind r ≡ key_reading s.tables.header s.tables.constants k → Reads s (asks.key k) (shown_tells asks.kind kind r)
  name : (k : ℕ) (r : Result (Bor (List ℕ)) Refusal) → reads (λ p. p.now) r ≡ name_reading s.tables.header s.tables.names s.tables.constants k →
      Reads s (asks.name k) (shown_tells asks.bytes (λ p. p.now) r)
  status : (r : Result Ended Refusal) → reads answers.status r ≡ status_reading s.tables.header → Reads s asks.status (shown_tells asks.ended answers.status r)

-- ---- one call of the code: what it is, what it answers, what it leaves

abbrev pub leaves : State → Tables → State
leaves s t = state t s.arguments s.slots

pub data Exchange (s : State) : Call → calls.Answer → State → Type 0 where
  context : (c : ℕ) (r : Result (Unit {0}) Refusal) (header' : Store) → replied r header' ≡ context_call c s.tables.header →
      Exchange s (calls.store (input.context c)) (done_tells r) (leaves s (with_header header' s.tables))
  work : (n : ℕ) (r : Result (Unit {0}) Refusal) (header' : Store) → replied r header' ≡ work_call n s.tables.header →
      Exchange s (calls.store (input.work n)) (done_tells r) (leaves s (with_header header' s.tables))
  predicate : (arity : ℕ) (r : Result ℕ Refusal) (header' : Store) (predicates' seeds' : List ℕ) →
      replied r (store.tables header' predicates' seeds') ≡ predicate_call arity (store.tables s.tables.header s.tables.predicates s.tables.seeds) →
      Exchange s (calls.store (input.predicate arity)) (id_tells r) (leaves s (from_predicate (store.tables header' predicates' seeds') s.tables))
  argument : (p i : ℕ) (r : Result ℕ Refusal) → replied r s.tables.header ≡ argument_call p i s.tables.predicates s.tables.header →
      Exchange s (calls.store (input.argument p i)) (id_tells r) s
  constant : (k : declared.Key) (r : Result ℕ Refusal) (header' : Store) (names' constants' order' : List ℕ) (thresholds' : List ℤ) →
      replied r (constants.tables header' names' constants' order' thresholds') ≡ constant_call (key_of k) (constants.tables s.tables.header s.tables.names s.tables.constants s.tables.order s.tables.thresholds) →
      Exchange s (calls.store (input.constant (key_of k))) (id_tells r) (leaves s (from_constant (constants.tables header' names' constants' order' thresholds') s.tables))
  expression : (e : Expression) (r : Result ℕ Refusal) (header' : Store) (nodes' : List ℕ) →
      replied r (expressions.tables header' nodes') ≡ expression_call e (expressions.tables s.tables.header s.tables.nodes) →
      Exchange s (calls.store (input.expression e)) (id_tells r) (leaves s (from_expression (expressions.tables header' nodes') s.tables))
  seed_value : (a k : ℕ) (r : Result (Unit {0}) Refusal) (header' : Store) (seeds' records' : List ℕ) →
      replied r (seeds.tables header' seeds' records') ≡ seed_value_call s.tables.constants a k (seeds.tables s.tables.header s.tables.seeds s.tables.records) →
      Exchange s (calls.store (input.seed_value a k)) (done_tells r) (leaves s (from_value (seeds.tables header' seeds' records') s.tables))
  seed_interval : (a : ℕ) (low high : ℤ) (r : Result (Unit {0}) Refusal) (header' : Store) (seeds' records' : List ℕ) (thresholds' : List ℤ) →
      replied r (seeds.interval_tables header' seeds' records' thresholds') ≡ seed_interval_call a low high (seeds.interval_tables s.tables.header s.tables.seeds s.tables.records s.tables.thresholds) →
      Exchange s (calls.store (input.seed_interval a low high)) (done_tells r) (leaves s (from_interval (seeds.interval_tables header' seeds' records' thresholds') s.tables))
  rule : (q : Rule) (r : Result ℕ Refusal) (header' : Store) (rules' records' : List ℕ) →
      replied r (producers.tables header' rules' records') ≡ rule_call s.tables.nodes q (producers.tables s.tables.header s.tables.rules s.tables.records) →
      Exchange s (calls.store (input.rule q)) (id_tells r) (leaves s (from_rule (producers.tables header' rules' records') s.tables))
  run : (w : Working) (r : Result (Unit {0}) Refusal) (header' : Store) (thresholds' : List ℤ) (arguments' slots' current' growth' : List ℕ) →
      replied r (engine.tables header' thresholds' arguments' slots')
      ≡ run_call (read s.tables.nodes s.tables.constants s.tables.rules s.tables.seeds) w (engine.tables s.tables.header s.tables.thresholds s.arguments s.slots) →
      (current', growth') ≡ run_leaves (read s.tables.nodes s.tables.constants s.tables.rules s.tables.seeds) w (engine.tables s.tables.header s.tables.thresholds s.arguments s.slots) →
      Exchange s (calls.run w) (tells (λ _. calls.ran) r) (from_run (engine.tables header' thresholds' arguments' slots') s)
  reading : (q : Question) (a : calls.Answer) → Reads s q a → Exchange s (calls.reading q) a s

-- ---- a list of them: each begins with what the last one left, and nothing else writes a table between

pub data Exchanges : State → List Event → Type 0 where
  none : {s : State} → Exchanges s []
  next : {s t : State} {c : Call} {a : calls.Answer} {es : List Event} → Exchange s c a t → Exchanges t es → Exchanges s (event c a ∷ es)
  -- a call on the same header that is lent other slices than the store's own, one of them of another size
  other : {s x y : State} {c : Call} {a : calls.Answer} {es : List Event} → x.tables.header ≡ s.tables.header → fits c x ≡ false → Exchange x c a y →
      Exchanges (leaves s (with_header y.tables.header s.tables)) es → Exchanges s (event c a ∷ es)

-- ---- the claim: the store is what `fresh` hands back, in tables that hold anything and have any size

abbrev pub Demand3Code : Type 0
Demand3Code =
    (o : Opaque) (l : Limits) (a₀ : calls.Answer) (header₀ : Store) → Begins l a₀ header₀ → (s : State) → Lent s.tables → (es : List Event) → Exchanges (leaves s (with_header header₀ s.tables)) es →
    All (λ e. Typed e.call) es → (fs : List Firing) (a : ℕ) (k : Key) → Reaches o (heard es) fs a k → (v : Value) → Memᴰ (event (calls.reading (asks.argument a)) (calls.shows (asks.value v))) es → LiesIn (heard es) k v
