-- Which numbers a call may be turned down with, whatever the header is and the tables hold.
use Prim.Native.Nat.{ℕ, zero, suc, ◌+◌}
use mathlib.Core.Path.{◌≡◌, refl}
use mathlib.Core.Bool.{Bool, true, false, cond}
use mathlib.Core.List.{List, [], ◌∷◌, Memᴰ}
use lib.Dec.{ltb}
use lib.IntN.{ℤ}
use Rattle.std.specs.Prelude.{Some, None}
use Rattle.std.proofs.Math.Option as Optional
use Rattle.integers.specs.Lists.{All}
use Rattle.integers.proofs.ListLaws.{has, has_is}
use Rattle.limits.specs.declared.Resource.TheVariants.{Work, Links}
use Rattle.limits.specs.declared.Meter.{Meter}
use Rattle.limits.specs.declared.Refusal.TheVariants.{Closed, Missing, MissingSlot}
use Rattle.limits.specs.Refusal.{Told, told, refusals}
use Rattle.limits.specs.Context.{Context}
use Rattle.limits.specs.Metered.{Run, going, Metered, ◌>>=◌, ◌>>◌}
use Rattle.limits.proofs.Ends.{Ends, completes, stops, ends_test}
use Rattle.limits.specs.Meter as inner
use Rattle.interval.specs.declared.Interval.TheVariants.{Bounded}
use Rattle.interval.specs.declared.Bound.{Bound}
use Rattle.search.specs.Seek.{Place, found, absent}
use Rattle.thresholds.specs.Thresholds.{around}
use Rattle.keys.specs.Key.{Key, number, name, seek_key}
use Rattle.lattice.specs.Value.{Value, Reason}
use Rattle.lattice.specs.Constants.{constant_at}
use Rattle.lattice.specs.Lattice.{numeric, join_lists, join}
use Rattle.rows.specs.Row.{value_at, entries_of, put}
use Rattle.store.specs.declared.Phase.{Phase}
use Rattle.store.specs.declared.Phase.TheVariants.{Absent, Open, Completed, Stopped}
use Rattle.store.specs.declared.Store.{Store}
use Rattle.store.specs.Calls.{entering, context_call, work_call, argument_call, declared, predicate_call}
use Rattle.constants.specs.Constant.{classify, retains, retain_key, keep_key, abandon, constant_call}
use Rattle.constants.specs.Constant as constants
use Rattle.nodes.specs.declared.Expression.{Expression}
use Rattle.nodes.specs.declared.Node.{Node}
use Rattle.nodes.specs.declared.Expression.TheVariants.{Constant, Slot, Unary, Absolute, Binary, Unknown}
use Rattle.nodes.specs.Node.{expression_at, node_at, node_of, same_node}
use Rattle.expressions.specs.Expression.{seek_node, older, shared, share, expression_call}
use Rattle.expressions.specs.Expression as expressions
use Rattle.provenance.specs.Provenance.{record_in, provenance}
use Rattle.seeds.specs.Seed.{dropped, joined, seed, constant_value, seed_value_call, seed_ends, seed_interval_call}
use Rattle.seeds.specs.Seed as seeds
use Rattle.rules.specs.declared.Binding.{Binding}
use Rattle.rules.specs.declared.Binding.TheVariants.{Positive, Assign, Range, Aggregate}
use Rattle.rules.specs.declared.Guard.{Guard}
use Rattle.rules.specs.declared.Guard.TheVariants.{Compare, Membership}
use Rattle.rules.specs.declared.Head.{Head}
use Rattle.rules.specs.declared.Rule.{Rule}
use Rattle.rules.specs.Rule.{bindings_of, guards_of, heads_of}
use Rattle.producers.specs.Producer.{Scope, scope_of, unit, slot_in, check_node, check_in, check_expression, check_pair, check_binding, check_guard, check_value, check_head, check_heads, check_body, check_rule, rule_call}
use Rattle.producers.specs.Producer as producers
use Rattle.engine.specs.Call.{Read, read, Working, run_call}
use Rattle.engine.specs.Call as engine
use Rattle.input.specs.Input.{call, context, work, predicate, argument, constant, expression, seed_value, seed_interval, rule}
use Rattle.input.specs.Input as input
use Rattle.numeric.specs.Question.{Question, Shown, ended, showing}
use Rattle.numeric.specs.Reading.{Reading, given, in_phase, there, status_in, argument_reading, context_count_reading, context_reading, slot_reading, key_reading, name_reading, status_reading}
use Rattle.numeric.specs.Step.{Call, store, run, reading, Answer, refused, reply, ran, State, on_store, on_run, on_reading, for_run, ask, step}
use Rattle.numeric.specs.Question as asks
use Rattle.numeric.specs.Reading as readings
use Rattle.numeric.specs.Step as steps_of
use Rattle.soundness.specs.Numbers.{of_store, of_reading, own_refusals, Within}
use Rattle.soundness.proofs.HaltingRules.{Halts, halts_pure, halts_test, halts_as, halts_bind, halts_then, halts_through, halts_work, seek_halts, join_halts, constant_halts}
use Rattle.soundness.proofs.Stopping.{Told?, Charged, Stops, stops_pure, stops_unless, stops_bind, stops_then, stops_zoom, stops_charge, spent, around_stops, steps}

-- ---- the calls of `store`

context_stops : (c : ℕ) → Stops (of_store (context c)) (context_call c)
unfolding context_call
context_stops c = search steps depth 20

work_stops : (n : ℕ) → Stops (of_store (work n)) (work_call n)
unfolding work_call
work_stops n = search steps depth 20

argument_stops : (p i : ℕ) (rows : List ℕ) → Stops (of_store (argument p i)) (argument_call p i rows)
unfolding argument_call
argument_stops p i rows = search steps depth 20

predicate_stops : (arity : ℕ) → Stops (of_store (predicate arity)) (predicate_call arity)
unfolding predicate_call declared
predicate_stops arity = search steps depth 20

-- ---- `constant`

module _ (k : Key) where
  abbrev by_constant : List ℕ
  by_constant = of_store (constant k)

  classify_stops : (j : Key) → Stops by_constant (classify j)
  classify_stops (number v) = around_stops by_constant refl refl v
  classify_stops (name s) = search steps depth 20

  settle_key_stops : (n : ℕ) (p : Place) → Stops by_constant (constants.settle k n p)
  unfolding constants.settle constants.cost
  settle_key_stops n (found i) = search steps depth 20
  settle_key_stops n (absent low) = search steps depth 20

  keep_key_stops : Stops by_constant (keep_key k)
  unfolding keep_key seek_key
  keep_key_stops = record {
    at = λ t.
        let h : Stops by_constant (constants.paying (inner.metered (seek_key t.names t.constants t.order t.header.counts.keys k)) >>= constants.settle k t.header.counts.keys) =
        search (steps, settle_key_stops, seek_halts) depth 20 in
        h.at t;
  }

  abandon_stops : Stops by_constant abandon
  unfolding abandon
  abandon_stops = search steps depth 20

  retain_stops : Stops by_constant (retain_key k)
  unfolding retain_key
  retain_stops = record { at = λ t. ends_test (retains t.header.budget.limits k) (λ _. keep_key_stops.at t) (λ _. abandon_stops.at t) }

  constant_stops : Stops by_constant (constant_call k)
  unfolding constant_call
  constant_stops = search (steps, classify_stops, retain_stops) depth 20

-- ---- `expression`

module _ (e : Expression) where
  abbrev by_expression : List ℕ
  by_expression = of_store (expression e)

  seek_node_halts : (nodes : List ℕ) (d : Node) (at n : ℕ) → Halts (Charged by_expression) (seek_node nodes d at n)
  unfolding seek_node
  seek_node_halts nodes d at zero = halts_pure _
  seek_node_halts nodes d at (suc n) = halts_then (halts_work refl 1) (halts_test (same_node (node_at nodes at) d) (halts_pure _) (seek_node_halts nodes d (at + 1) n))

  older_halts : (nodes : List ℕ) (n : ℕ) → Halts (Charged by_expression) (older nodes n e)
  unfolding older
  older_halts nodes n = halts_test (shared e) (seek_node_halts nodes (node_of e) 0 n) (halts_pure _)

  settle_node_stops : (p : Place) → Stops by_expression (expressions.settle e p)
  unfolding expressions.settle
  settle_node_stops (found i) = search steps depth 20
  settle_node_stops (absent n) = search steps depth 20

  share_stops : Stops by_expression (share e)
  unfolding share
  share_stops = record {
    at = λ t.
        let h : Stops by_expression (expressions.paying (inner.metered (older t.nodes t.header.counts.expressions e)) >>= expressions.settle e) =
        search (steps, older_halts, settle_node_stops) depth 20 in
        h.at t;
  }

  expression_stops : Stops by_expression (expression_call e)
  unfolding expression_call
  expression_stops = search (steps, share_stops) depth 20

-- ---- seeds

module _ (l : List ℕ) (w : Charged l Work) (k : Charged l Links) (m : Told? l (told Missing)) where
  record_stops : (a : ℕ) (c : Context) → Stops l (record_in a c)
  record_stops a None = search steps depth 20
  record_stops a (Some c) = search steps depth 20

  provenance_stops : (a : ℕ) → Stops l (provenance a)
  unfolding provenance
  provenance_stops a = record { at = λ t. ends_test (ltb a t.header.counts.positions) (λ _. (record_stops a t.header.context).at t) (λ _. stops m) }

-- a value that is joined into a seed
module _ (l : List ℕ) (v : Value) (h : (width : ℕ) (old : Value) → Halts (Charged l) (join width old v)) where
  joined_halts : (old : Value) → Halts (Charged l) (joined old v)
  unfolding joined
  joined_halts old = record {
    at = λ b.
        let m : Halts (Charged l) (inner.metered (inner.holding (entries_of v) (join b.limits.width old v)) >>= (λ new c. going new (dropped old v new c))) =
        halts_bind (halts_through _ _ _ (halts_through _ _ _ (h b.limits.width old))) (λ new. record { at = λ c. completes tt }) in
        m.at b;
  }

  seed_stops : (a : ℕ) → Stops l (seed a v)
  unfolding seed
  seed_stops a = record {
    at = λ t.
        let m : Stops l (seeds.paying (joined (value_at t.seeds a) v) >>= (λ new u. going (tt {0}) (seeds.rows u.header (put u.seeds a new)))) =
        search (steps, joined_halts) depth 20 in
        m.at t;
  }

module _ (constants : List ℕ) (a k : ℕ) where
  abbrev by_value : List ℕ
  by_value = of_store (seed_value a k)

  made_halts : Halts (Charged by_value) (constant_value constants k)
  unfolding constant_value
  made_halts = record { at = λ b. (halts_through _ _ _ (halts_as (spent by_value refl refl) (constant_halts k (constant_at constants k) b.limits.width))).at b }

  any_seed_stops : (v : Value) → Stops by_value (seed a v)
  any_seed_stops v = seed_stops by_value v (λ width old. halts_as (spent by_value refl refl) (join_halts width old v)) a

  record_value_stops : Stops by_value (provenance a)
  record_value_stops = provenance_stops by_value refl refl refl a

  value_stops : Stops by_value (seed_value_call constants a k)
  unfolding seed_value_call
  value_stops = search (steps, made_halts, any_seed_stops, record_value_stops) depth 20

module _ (a : ℕ) (low high : ℤ) where
  abbrev by_interval : List ℕ
  by_interval = of_store (seed_interval a low high)

  -- an interval has no list, so that a join with it makes none
  join_numeric_halts : (width : ℕ) (old : Value) → Halts (Charged by_interval) (join width old (numeric (Bounded low high)))
  unfolding join
  join_numeric_halts width old = halts_then (halts_work refl 1) (lists _ _ old.values)
    where
      lists : (b : Bound) (r : Reason) (o : Optional.Option (List ℕ)) → Halts (Charged by_interval) (join_lists width b r o Optional.none)
      lists b r Optional.none = halts_pure _
      lists b r (Optional.some x) = halts_pure _

  interval_seed_stops : Stops by_interval (seed a (numeric (Bounded low high)))
  interval_seed_stops = seed_stops by_interval (numeric (Bounded low high)) join_numeric_halts a

  ends_around : (v : ℤ) → Stops by_interval (entering (around v))
  ends_around v = around_stops by_interval refl refl v

  record_interval_stops : Stops by_interval (provenance a)
  record_interval_stops = provenance_stops by_interval refl refl refl a

  interval_stops : Stops by_interval (seed_interval_call a low high)
  unfolding seed_interval_call seed_ends
  interval_stops = search (steps, ends_around, interval_seed_stops, record_interval_stops) depth 20

-- ---- `rule`

module _ (r : Rule) where
  abbrev by_rule : List ℕ
  by_rule = of_store (rule r)

  unit_stops : Stops by_rule unit
  unit_stops = stops_charge _ _ _ (halts_work refl 1)

  slot_stops : (slots s : ℕ) → Stops by_rule (slot_in slots s)
  slot_stops slots s = search steps depth 20

  node_stops : {check : ℕ → Metered Told Meter (Unit {0})} → ((id : ℕ) → Stops by_rule (check id)) → (slots : ℕ) (e : Expression) → Stops by_rule (check_node check slots e)
  node_stops h slots (Constant id) = stops_pure tt
  node_stops h slots (Slot s) = slot_stops slots s
  node_stops h slots (Unary op e) = h e
  node_stops h slots (Absolute e) = h e
  node_stops h slots (Binary op a b) = stops_then (h b) (h a)
  node_stops h slots (Unknown i w) = stops_pure tt

  check_stops : (depth : ℕ) (s : Scope) (id : ℕ) → Stops by_rule (check_in depth s id)
  unfolding check_in
  check_stops zero s id = stops_pure tt
  check_stops (suc depth) s id = stops_then unit_stops (stops_unless (λ _. ltb id s.expressions) Missing refl (node_stops (check_stops depth s) s.slots (expression_at s.nodes id)))

  one_stops : (s : Scope) (id : ℕ) → Stops by_rule (check_expression s id)
  unfolding check_expression
  one_stops s id = check_stops (suc id) s id

  pair_stops : (s : Scope) (a b : ℕ) → Stops by_rule (check_pair s a b)
  unfolding check_pair
  pair_stops s a b = stops_then (one_stops s a) (one_stops s b)

  binding_stops : (arguments : ℕ) (s : Scope) (b : Binding) → Stops by_rule (check_binding arguments s b)
  binding_stops arguments s (Positive slot a) = stops_unless (λ _. ltb a arguments) Missing refl (slot_stops s.slots slot)
  binding_stops arguments s (Assign slot value) = stops_then (one_stops s value) (slot_stops s.slots slot)
  binding_stops arguments s (Range slot low high) = stops_then (pair_stops s low high) (slot_stops s.slots slot)
  binding_stops arguments s (Aggregate slot function) = slot_stops s.slots slot

  guard_stops : (s : Scope) (g : Guard) → Stops by_rule (check_guard s g)
  guard_stops s (Compare left relation right) = pair_stops s left right
  guard_stops s (Membership slot low high) = stops_unless (λ _. ltb slot s.slots) MissingSlot refl (pair_stops s low high)

  each_stops : {A : Type 0} {f : A → Metered Told Meter (Unit {0})} → ((a : A) → Stops by_rule (f a)) → (l : List A) → Stops by_rule (producers.each f l)
  unfolding producers.each
  each_stops h [] = stops_pure tt
  each_stops h (a ∷ l) = stops_then unit_stops (stops_then (h a) (each_stops h l))

  body_stops : (arguments : ℕ) (s : Scope) → Stops by_rule (check_body arguments s r)
  unfolding check_body
  body_stops arguments s = stops_then (each_stops (binding_stops arguments s) (bindings_of r)) (each_stops (guard_stops s) (guards_of r))

  value_checks : (s : Scope) (id : ℕ) → Stops by_rule (check_value s id)
  unfolding check_value
  value_checks s id = stops_then unit_stops (one_stops s id)

  record_head_stops : (a : ℕ) → Stops by_rule (provenance a)
  record_head_stops a = provenance_stops by_rule refl refl refl a

  head_stops : (s : Scope) (h : Head) → Stops by_rule (check_head s h)
  unfolding check_head
  head_stops s h = search (steps, value_checks, record_head_stops) depth 20

  heads_stops : (s : Scope) (l : List Head) → Stops by_rule (check_heads s l)
  unfolding check_heads
  heads_stops s [] = stops_pure tt
  heads_stops s (h ∷ l) = stops_then (head_stops s h) (heads_stops s l)

  checks_stop : (nodes : List ℕ) → Stops by_rule (check_rule nodes r)
  unfolding check_rule
  checks_stop nodes = record {
    at = λ t.
        let s = scope_of nodes t.header r in
        let m : Stops by_rule (producers.in_store (producers.checking (check_body t.header.counts.positions s r)) >> check_heads s (heads_of r)) =
        search (steps, body_stops, heads_stops) depth 20 in
        m.at t;
  }

  rule_stops : (nodes : List ℕ) → Stops by_rule (rule_call nodes r)
  unfolding rule_call producers.cost
  rule_stops nodes = search (steps, checks_stop) depth 20

-- ---- any call

on_stops : {l : List ℕ} {T A : Type 0} (get : input.Tables → T) (back : T → input.Tables → input.Tables) (f : A → input.Reply) {m : Metered Told T A} → Stops l m → Stops l (input.on get back f m)
on_stops get back f h = stops_bind (stops_zoom get back h) (λ a. stops_pure (f a))

call_stops : (c : input.Call) → Stops (of_store c) (call c)
unfolding call
call_stops (context c) = on_stops (λ t. t.header) input.with_header (λ _. input.done) (context_stops c)
call_stops (work n) = on_stops (λ t. t.header) input.with_header (λ _. input.done) (work_stops n)
call_stops (predicate arity) = on_stops input.for_predicate input.from_predicate input.id (predicate_stops arity)
call_stops (argument p i) = record { at = λ t. (on_stops (λ u. u.header) input.with_header input.id (argument_stops p i t.predicates)).at t }
call_stops (constant k) = on_stops input.for_constant input.from_constant input.id (constant_stops k)
call_stops (expression e) = on_stops input.for_expression input.from_expression input.id (expression_stops e)
call_stops (seed_value a k) = record { at = λ t. (on_stops input.for_value input.from_value (λ _. input.done) (value_stops t.constants a k)).at t }
call_stops (seed_interval a low high) = on_stops input.for_interval input.from_interval (λ _. input.done) (interval_stops a low high)
call_stops (rule r) = record { at = λ t. (on_stops input.for_rule input.from_rule input.id (rule_stops r t.nodes)).at t }

run_stops : (r : Read) (w : Working) → Stops (1 ∷ 2 ∷ []) (run_call r w)
unfolding run_call
run_stops r w = search steps depth 20

-- ---- readings

data Shows {A : Type 0} (l : List ℕ) : Reading A → Type 0 where
  shows : {a : A} → Shows l (given a)
  turned_down : {t : Told} → Told? l t → Shows l (readings.refused t)

module _ {A : Type 0} {l : List ℕ} where
  shows_test : (b : Bool) {x y : Reading A} → Shows l x → Shows l y → Shows l (cond b x y)
  shows_test true h k = h
  shows_test false h k = k

  shows_there : (b : Bool) (a : A) → Told? l (told Missing) → Shows l (there b a)
  shows_there b a m = shows_test b shows (turned_down m)

  shows_read : (sized : Bool) (s : Store) {x : Reading A} → Told? l (told Closed) → Told? l (told Missing) → Shows l x → Shows l (readings.reading sized s x)
  shows_read sized s {x} c m h = shows_test sized (go s.phase) (turned_down c)
    where
      go : (p : Phase) → Shows l (in_phase p x)
      go Absent = turned_down c
      go Open = turned_down c
      go Completed = h
      go (Stopped e d) = turned_down m

  shows_as : (f : A → Shown) {x : Reading A} → Shows l x → Shows l (showing f x)
  shows_as f shows = shows
  shows_as f (turned_down h) = turned_down h

ruleset shown = (shows_as, shows_read, shows_test, shows_there, shows, turned_down)

ask_shows : (q : Question) (s : State) → Shows (of_reading q) (ask q s)
unfolding argument_reading context_count_reading context_reading slot_reading key_reading name_reading status_reading
ask_shows (asks.argument a) s = search shown depth 10
ask_shows (asks.context_count a) s = search shown depth 10
ask_shows (asks.context a k) s = search shown depth 10
ask_shows (asks.slot r k after) s = search shown depth 10
ask_shows (asks.key k) s = search shown depth 10
ask_shows (asks.name k) s = search shown depth 10
ask_shows asks.status s = shows_as ended (go s.tables.header.phase)
  where
    go : (p : Phase) → Shows (of_reading asks.status) (status_in p)
    go Absent = turned_down refl
    go Open = turned_down refl
    go Completed = shows
    go (Stopped e c) = shows

-- ---- a step

module _ (l : List ℕ) (s : State) where
  store_within : {x : Run Told input.Tables input.Reply} → Ends (λ _ _. Unit {0}) (λ e _. Told? l e) x → Within l (on_store s x).answer
  store_within (completes h) = tt
  store_within (stops {e} h) = (has_is l e.number).0 h

  run_within : {x : Run Told engine.Tables (Unit {0})} → Ends (λ _ _. Unit {0}) (λ e _. Told? l e) x → Within l (on_run s x).answer
  run_within (completes h) = tt
  run_within (stops {e} h) = (has_is l e.number).0 h

  reading_within : {x : Reading Shown} → Shows l x → Within l (on_reading s x).answer
  reading_within shows = tt
  reading_within (turned_down {t} h) = (has_is l t.number).0 h

pub step_numbers : (c : Call) (s : State) → Within (own_refusals c) (step c s).answer
unfolding step
step_numbers (store c) s = store_within (of_store c) s ((call_stops c).at s.tables)
step_numbers (run w) s = run_within (1 ∷ 2 ∷ []) s ((run_stops (read s.tables.nodes s.tables.constants s.tables.rules s.tables.seeds) w).at (for_run s))
step_numbers (reading q) s = reading_within (of_reading q) s (ask_shows q s)

-- ---- so nothing but the ten refusals and those that requests add

among : (l : List ℕ) → All (λ n. has refusals n ≡ true) l → (n : ℕ) → Memᴰ n l → Memᴰ n refusals
among [] h n m = elim m [ ]
among (x ∷ l) h n (Memᴰ.head e) = rw e ((has_is refusals x).0 h.0)
among (x ∷ l) h n (Memᴰ.tail m) = among l h.1 n m

within_more : (l : List ℕ) → All (λ n. has refusals n ≡ true) l → (a : Answer) → Within l a → Within refusals a
within_more l h (refused t) w = among l h t.number w
within_more l h (reply r) w = tt
within_more l h ran w = tt
within_more l h (steps_of.shows x) w = tt

numbers_listed : (c : Call) → All (λ n. has refusals n ≡ true) (own_refusals c)
numbers_listed (store (context c)) = (refl, tt)
numbers_listed (store (work n)) = (refl, (refl, tt))
numbers_listed (store (predicate arity)) = (refl, (refl, (refl, (refl, (refl, tt)))))
numbers_listed (store (argument p i)) = (refl, (refl, (refl, tt)))
numbers_listed (store (constant k)) = (refl, (refl, (refl, (refl, (refl, tt)))))
numbers_listed (store (expression e)) = (refl, (refl, (refl, (refl, (refl, tt)))))
numbers_listed (store (seed_value a k)) = (refl, (refl, (refl, (refl, (refl, (refl, tt))))))
numbers_listed (store (seed_interval a low high)) = (refl, (refl, (refl, (refl, (refl, (refl, tt))))))
numbers_listed (store (rule r)) = (refl, (refl, (refl, (refl, (refl, (refl, tt))))))
numbers_listed (run w) = (refl, (refl, tt))
numbers_listed (reading (asks.argument a)) = (refl, (refl, tt))
numbers_listed (reading (asks.context_count a)) = (refl, (refl, tt))
numbers_listed (reading (asks.context a k)) = (refl, (refl, tt))
numbers_listed (reading (asks.slot r k after)) = (refl, (refl, (refl, tt)))
numbers_listed (reading (asks.key k)) = (refl, (refl, tt))
numbers_listed (reading (asks.name k)) = (refl, (refl, tt))
numbers_listed (reading asks.status) = (refl, tt)

pub step_refusals : (c : Call) (s : State) → Within refusals (step c s).answer
step_refusals c s = within_more (own_refusals c) (numbers_listed c) (step c s).answer (step_numbers c s)
