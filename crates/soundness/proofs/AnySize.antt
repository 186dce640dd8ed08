-- Lent tables of any size. A call that is lent one of another size than 01's meets 1 and changes nothing, so that it might as well not have been
-- made; any other call sees only tables of 01's sizes. So what a store does is what another one does, whose tables have their sizes, of the other
-- calls.
use Rattle.sizes.specs.Sizes as size
use Prim.Native.Nat.{ℕ, zero, suc, ◌^◌, ◌<◌}
use native.Mathlib.Omega.{arith}
use mathlib.Core.Path.{◌≡◌, refl, sym, ap, subst, ◌∙◌}
use mathlib.Core.Bool.{Bool, true, false, cond}
use mathlib.Core.List.{List, [], ◌∷◌, Memᴰ}
use borrow.Author.Tests.{eqb-true, eq-eqb}
use lib.Dec.{eqb}
use lib.IntN.{pos}
use lib.ListN.{length, replicate, length-replicate}
use Rattle.integers.specs.Lists.{All}
use Rattle.integers.specs.Order.{Number}
use Rattle.integers.proofs.Tests.{and_left, and_right}
use Rattle.limits.specs.declared.Limits.{Limits}
use Rattle.limits.specs.declared.Refusal.TheVariants.{Shape}
use Rattle.limits.specs.Refusal.{Told, told}
use Rattle.limits.specs.Metered.{Run, going, stopped, Metered, pure, after, ◌>>=◌, mapped, through, zoom}
use Rattle.store.specs.declared.Store.{Store}
use Rattle.store.specs.Calls.{predicate_call, argument_call, context_call, work_call}
use Rattle.store.specs.Calls as store
use Rattle.constants.specs.Constant.{constant_call}
use Rattle.constants.specs.Constant as constants
use Rattle.expressions.specs.Expression.{expression_call}
use Rattle.expressions.specs.Expression as expressions
use Rattle.seeds.specs.Seed.{seed_value_call, seed_interval_call}
use Rattle.seeds.specs.Seed as seeds
use Rattle.producers.specs.Producer.{rule_call}
use Rattle.producers.specs.Producer as producers
use Rattle.slots.proofs.Likewise.{Likewise, both_go, both_stop, like_pure, like_bind, like_part}
use Rattle.engine.specs.Call.{Working, Read, read, sized, results_sized, working_sized, run_call}
use Rattle.engine.specs.Call as engine
use Rattle.input.specs.Input.{Tables, Reply, tables, on, call, with_header, for_predicate, from_predicate, for_constant, from_constant, for_expression, from_expression, for_value, from_value, for_interval, from_interval, for_rule, from_rule, done, id}
use Rattle.input.specs.Input as input
use Rattle.input.proofs.Reached.{Sized}
use Rattle.numeric.specs.Reading.{Reading, given, reading, argument_reading, context_count_reading, context_reading, slot_reading, key_reading, name_reading, status_reading}
use Rattle.numeric.specs.Reading as readings
use Rattle.numeric.specs.Question.{Question, Shown}
use Rattle.numeric.specs.Question as asks
use Rattle.numeric.specs.Step.{Call, Answer, refused, shows, State, state, Stepped, stepped, on_store, for_run, from_run, on_run, ask, on_reading, step, Event, event, play, fresh}
use Rattle.numeric.specs.Step as calls
use Rattle.soundness.specs.Fits.{fits_store, fits_run, fits_reading, fits}
use Rattle.soundness.specs.Run.{Accepted, learned, heard_from}
use Rattle.soundness.specs.Claim.{Typed, Lent}

never : true ≡ false → ⊥
never e = let z : ◌≡◌ {A = ℕ} 0 1 = cc in omega arith

-- ---- a call that is lent a table of another size

unfit_call : (c : input.Call) (t : Tables) → fits_store c t ≡ false → call c t ≡ stopped (told Shape) t
unfolding call predicate_call argument_call constant_call expression_call seed_value_call seed_interval_call rule_call ◌>>=◌ after pure through mapped
unfit_call (input.context c) t e = absurd (never e)
unfit_call (input.work n) t e = absurd (never e)
unfit_call (input.predicate arity) t e = rw e refl
unfit_call (input.argument p i) t e = rw e refl
unfit_call (input.constant k) t e = rw e refl
unfit_call (input.expression x) t e = rw e refl
unfit_call (input.seed_value a k) t e = rw e refl
unfit_call (input.seed_interval a low high) t e = rw e refl
unfit_call (input.rule r) t e = rw e refl

unfit_reading : (q : Question) (s : State) → fits_reading q s ≡ false → ask q s ≡ readings.refused (told Shape)
unfolding argument_reading context_count_reading context_reading slot_reading key_reading name_reading
unfit_reading (asks.argument a) s e = rw e refl
unfit_reading (asks.context_count a) s e = rw e refl
unfit_reading (asks.context a k) s e = rw e refl
unfit_reading (asks.slot r k after) s e = rw e refl
unfit_reading (asks.key k) s e = rw e refl
unfit_reading (asks.name k) s e = rw e refl
unfit_reading asks.status s e = absurd (never e)

pub unfit_step : (c : Call) (s : State) → fits c s ≡ false → step c s ≡ stepped (refused (told Shape)) s
unfolding step run_call
unfit_step (calls.store c) s e = ap (on_store s) (unfit_call c s.tables e)
unfit_step (calls.run w) s e = rw e refl
unfit_step (calls.reading q) s e = ap (on_reading s) (unfit_reading q s e)

-- ---- two stores whose tables of 01's sizes are the same

pub record Beside (s s' : State) : Type 0 where
  pub header : s.tables.header ≡ s'.tables.header
  pub predicates : length s.tables.predicates ≡ size.predicate_cells → s.tables.predicates ≡ s'.tables.predicates
  pub names : length s.tables.names ≡ size.name_cells → s.tables.names ≡ s'.tables.names
  pub constants : length s.tables.constants ≡ size.constant_cells → s.tables.constants ≡ s'.tables.constants
  pub order : length s.tables.order ≡ size.constants → s.tables.order ≡ s'.tables.order
  pub thresholds : length s.tables.thresholds ≡ size.thresholds → s.tables.thresholds ≡ s'.tables.thresholds
  pub nodes : length s.tables.nodes ≡ size.node_cells → s.tables.nodes ≡ s'.tables.nodes
  pub seeds : length s.tables.seeds ≡ size.argument_cells → s.tables.seeds ≡ s'.tables.seeds
  pub records : length s.tables.records ≡ size.record_cells → s.tables.records ≡ s'.tables.records
  pub rules : length s.tables.rules ≡ size.rule_cells → s.tables.rules ≡ s'.tables.rules
  pub arguments : length s.arguments ≡ size.argument_cells → s.arguments ≡ s'.arguments
  pub slots : length s.slots ≡ size.bounds_cells → s.slots ≡ s'.slots

-- both answer the same, and are again such
pub record Together (x y : Stepped) : Type 0 where
  pub answer : x.answer ≡ y.answer
  pub after : Beside x.after y.after

module _ (s s' : State) (h : Beside s s') where
  abbrev in_tables : Tables → Tables → Type 0
  in_tables t t' = Beside (state t s.arguments s.slots) (state t' s'.arguments s'.slots)

  abbrev Both : Run Told Tables Reply → Run Told Tables Reply → Type 0
  Both x y = Likewise (λ _ t t'. in_tables t t') in_tables x y

  -- a call that is given the same of both
  given_same : {T A : Type 0} (get : Tables → T) (put : T → Tables → Tables) (reply : A → Reply) (m : Metered Told T A) → get s.tables ≡ get s'.tables →
      ((u : T) → in_tables (put u s.tables) (put u s'.tables)) → Both (on get put reply m s.tables) (on get put reply m s'.tables)
  given_same get put reply m e k =
      like_bind {P = λ _ t t'. in_tables t t'} {Q = in_tables} (zoom get put m) (λ a. pure (reply a)) s.tables s'.tables
      (like_part get (λ t u. put u t) (λ t u. put u t) (λ x. x) m s.tables s'.tables e (λ _ u. k u) k)
      (λ a t t' p. like_pure (reply a) t t' p) (λ t t' q. q)

  -- what a call leaves of them
  header_kept : (u : Store) → in_tables (with_header u s.tables) (with_header u s'.tables)
  header_kept u = record { header = refl; predicates = h.predicates; names = h.names; constants = h.constants; order = h.order; thresholds = h.thresholds; nodes = h.nodes; seeds = h.seeds; records = h.records; rules = h.rules; arguments = h.arguments; slots = h.slots }

  predicate_kept : (u : store.Tables) → in_tables (from_predicate u s.tables) (from_predicate u s'.tables)
  predicate_kept u = record { header = refl; predicates = λ _. refl; names = h.names; constants = h.constants; order = h.order; thresholds = h.thresholds; nodes = h.nodes; seeds = λ _. refl; records = h.records; rules = h.rules; arguments = h.arguments; slots = h.slots }

  constant_kept : (u : constants.Tables) → in_tables (from_constant u s.tables) (from_constant u s'.tables)
  constant_kept u = record { header = refl; predicates = h.predicates; names = λ _. refl; constants = λ _. refl; order = λ _. refl; thresholds = λ _. refl; nodes = h.nodes; seeds = h.seeds; records = h.records; rules = h.rules; arguments = h.arguments; slots = h.slots }

  expression_kept : (u : expressions.Tables) → in_tables (from_expression u s.tables) (from_expression u s'.tables)
  expression_kept u = record { header = refl; predicates = h.predicates; names = h.names; constants = h.constants; order = h.order; thresholds = h.thresholds; nodes = λ _. refl; seeds = h.seeds; records = h.records; rules = h.rules; arguments = h.arguments; slots = h.slots }

  value_kept : (u : seeds.Tables) → in_tables (from_value u s.tables) (from_value u s'.tables)
  value_kept u = record { header = refl; predicates = h.predicates; names = h.names; constants = h.constants; order = h.order; thresholds = h.thresholds; nodes = h.nodes; seeds = λ _. refl; records = λ _. refl; rules = h.rules; arguments = h.arguments; slots = h.slots }

  interval_kept : (u : seeds.IntervalTables) → in_tables (from_interval u s.tables) (from_interval u s'.tables)
  interval_kept u = record { header = refl; predicates = h.predicates; names = h.names; constants = h.constants; order = h.order; thresholds = λ _. refl; nodes = h.nodes; seeds = λ _. refl; records = λ _. refl; rules = h.rules; arguments = h.arguments; slots = h.slots }

  rule_kept : (u : producers.Tables) → in_tables (from_rule u s.tables) (from_rule u s'.tables)
  rule_kept u = record { header = refl; predicates = h.predicates; names = h.names; constants = h.constants; order = h.order; thresholds = h.thresholds; nodes = h.nodes; seeds = h.seeds; records = λ _. refl; rules = λ _. refl; arguments = h.arguments; slots = h.slots }

  fit_call : (c : input.Call) → fits_store c s.tables ≡ true → Both (call c s.tables) (call c s'.tables)
  unfolding call
  fit_call (input.context c) e = given_same (λ t. t.header) with_header (λ _. done) (context_call c) h.header header_kept
  fit_call (input.work n) e = given_same (λ t. t.header) with_header (λ _. done) (work_call n) h.header header_kept
  fit_call (input.predicate arity) e =
      let p = h.predicates (eqb-true _ _ (and_left (eqb (length s.tables.predicates) size.predicate_cells) _ e)) in
      let q = h.seeds (eqb-true _ _ (and_right (eqb (length s.tables.predicates) size.predicate_cells) _ e)) in
      given_same for_predicate from_predicate id (predicate_call arity) (λ d. store.tables (h.header d) (p d) (q d)) predicate_kept
  fit_call (input.argument p i) e =
      subst (λ (rows : List ℕ). Both (on (λ t. t.header) with_header id (argument_call p i s.tables.predicates) s.tables) (on (λ t. t.header) with_header id (argument_call p i rows) s'.tables))
      (h.predicates (eqb-true _ _ e)) (given_same (λ t. t.header) with_header id (argument_call p i s.tables.predicates) h.header header_kept)
  fit_call (input.constant k) e =
      let first = eqb (length s.tables.names) size.name_cells in
      let second = eqb (length s.tables.constants) size.constant_cells in
      let third = eqb (length s.tables.order) size.constants in
      let n = h.names (eqb-true _ _ (and_left first _ e)) in
      let c = h.constants (eqb-true _ _ (and_left second _ (and_right first _ e))) in
      let o = h.order (eqb-true _ _ (and_left third _ (and_right second _ (and_right first _ e)))) in
      let t = h.thresholds (eqb-true _ _ (and_right third _ (and_right second _ (and_right first _ e)))) in
      given_same for_constant from_constant id (constant_call k) (λ d. constants.tables (h.header d) (n d) (c d) (o d) (t d)) constant_kept
  fit_call (input.expression x) e = given_same for_expression from_expression id (expression_call x) (λ d. expressions.tables (h.header d) (h.nodes (eqb-true _ _ e) d)) expression_kept
  fit_call (input.seed_value a k) e =
      let first = eqb (length s.tables.constants) size.constant_cells in
      let second = eqb (length s.tables.seeds) size.argument_cells in
      let q = h.seeds (eqb-true _ _ (and_left second _ (and_right first _ e))) in
      let r = h.records (eqb-true _ _ (and_right second _ (and_right first _ e))) in
      subst (λ (c : List ℕ). Both (on for_value from_value (λ _. done) (seed_value_call s.tables.constants a k) s.tables) (on for_value from_value (λ _. done) (seed_value_call c a k) s'.tables))
      (h.constants (eqb-true _ _ (and_left first _ e)))
      (given_same for_value from_value (λ _. done) (seed_value_call s.tables.constants a k) (λ d. seeds.tables (h.header d) (q d) (r d)) value_kept)
  fit_call (input.seed_interval a low high) e =
      let first = eqb (length s.tables.thresholds) size.thresholds in
      let second = eqb (length s.tables.seeds) size.argument_cells in
      let t = h.thresholds (eqb-true _ _ (and_left first _ e)) in
      let q = h.seeds (eqb-true _ _ (and_left second _ (and_right first _ e))) in
      let r = h.records (eqb-true _ _ (and_right second _ (and_right first _ e))) in
      given_same for_interval from_interval (λ _. done) (seed_interval_call a low high) (λ d. seeds.interval_tables (h.header d) (q d) (r d) (t d)) interval_kept
  fit_call (input.rule q) e =
      let first = eqb (length s.tables.nodes) size.node_cells in
      let second = eqb (length s.tables.rules) size.rule_cells in
      let u = h.rules (eqb-true _ _ (and_left second _ (and_right first _ e))) in
      let r = h.records (eqb-true _ _ (and_right second _ (and_right first _ e))) in
      subst (λ (n : List ℕ). Both (on for_rule from_rule id (rule_call s.tables.nodes q) s.tables) (on for_rule from_rule id (rule_call n q) s'.tables))
      (h.nodes (eqb-true _ _ (and_left first _ e)))
      (given_same for_rule from_rule id (rule_call s.tables.nodes q) (λ d. producers.tables (h.header d) (u d) (r d)) rule_kept)

  store_together : {x y : Run Told Tables Reply} → Both x y → Together (on_store s x) (on_store s' y)
  store_together (both_go p) = record { answer = refl; after = p }
  store_together (both_stop p) = record { answer = refl; after = p }

  pub run_kept : (u : engine.Tables) → Beside (from_run u s) (from_run u s')
  run_kept u = record { header = refl; predicates = h.predicates; names = h.names; constants = h.constants; order = h.order; thresholds = λ _. refl; nodes = h.nodes; seeds = h.seeds; records = h.records; rules = h.rules; arguments = λ _. refl; slots = λ _. refl }

  run_together : (x : Run Told engine.Tables (Unit {0})) → Together (on_run s x) (on_run s' x)
  run_together (going a u) = record { answer = refl; after = run_kept u }
  run_together (stopped e u) = record { answer = refl; after = run_kept u }

  abbrev pub call_of : State → Working → Run Told engine.Tables (Unit {0})
  call_of s w = run_call (read s.tables.nodes s.tables.constants s.tables.rules s.tables.seeds) w (for_run s)

  pub run_same : (w : Working) → fits_run w s ≡ true → call_of s w ≡ call_of s' w
  run_same w e =
      let nodes = eqb (length s.tables.nodes) size.node_cells in
      let constants = eqb (length s.tables.constants) size.constant_cells in
      let rules = eqb (length s.tables.rules) size.rule_cells in
      let seeds = eqb (length s.tables.seeds) size.argument_cells in
      let read_all = and_left (sized (length s.tables.nodes) (length s.tables.constants) (length s.tables.rules) (length s.tables.seeds) (length s.tables.thresholds)) _ e in
      let written = and_left (results_sized (length s.arguments) (length s.slots)) _ (and_right (sized (length s.tables.nodes) (length s.tables.constants) (length s.tables.rules) (length s.tables.seeds) (length s.tables.thresholds)) _ e) in
      let n = h.nodes (eqb-true _ _ (and_left nodes _ read_all)) in
      let c = h.constants (eqb-true _ _ (and_left constants _ (and_right nodes _ read_all))) in
      let u = h.rules (eqb-true _ _ (and_left rules _ (and_right constants _ (and_right nodes _ read_all)))) in
      let q = h.seeds (eqb-true _ _ (and_left seeds _ (and_right rules _ (and_right constants _ (and_right nodes _ read_all))))) in
      let t = h.thresholds (eqb-true _ _ (and_right seeds _ (and_right rules _ (and_right constants _ (and_right nodes _ read_all))))) in
      let a = h.arguments (eqb-true _ _ (and_left (eqb (length s.arguments) size.argument_cells) _ written)) in
      let b = h.slots (eqb-true _ _ (and_right (eqb (length s.arguments) size.argument_cells) _ written)) in
      λ d. run_call (read (n d) (c d) (u d) (q d)) w (engine.tables (h.header d) (t d) (a d) (b d))

  reading_same : (q : Question) → fits_reading q s ≡ true → ask q s ≡ ask q s'
  reading_same (asks.argument a) e = λ d. asks.showing asks.value (argument_reading (h.header d) (h.arguments (eqb-true _ _ e) d) a)
  reading_same (asks.context_count a) e = λ d. asks.showing asks.number (context_count_reading (h.header d) (h.records (eqb-true _ _ e) d) a)
  reading_same (asks.context a k) e = λ d. asks.showing asks.number (context_reading (h.header d) (h.records (eqb-true _ _ e) d) a k)
  reading_same (asks.slot r k after) e =
      let u = h.rules (eqb-true _ _ (and_left (eqb (length s.tables.rules) size.rule_cells) _ e)) in
      let b = h.slots (eqb-true _ _ (and_right (eqb (length s.tables.rules) size.rule_cells) _ e)) in
      λ d. asks.showing asks.bound (slot_reading (h.header d) (u d) (b d) r k after)
  reading_same (asks.key k) e = λ d. asks.showing asks.kind (key_reading (h.header d) (h.constants (eqb-true _ _ e) d) k)
  reading_same (asks.name k) e =
      let n = h.names (eqb-true _ _ (and_left (eqb (length s.tables.names) size.name_cells) _ e)) in
      let c = h.constants (eqb-true _ _ (and_right (eqb (length s.tables.names) size.name_cells) _ e)) in
      λ d. asks.showing asks.bytes (name_reading (h.header d) (n d) (c d) k)
  reading_same asks.status e = λ d. asks.showing asks.ended (status_reading (h.header d))

  reading_together : (r : Reading Shown) → Together (on_reading s r) (on_reading s' r)
  reading_together (given a) = record { answer = refl; after = h }
  reading_together (readings.refused e) = record { answer = refl; after = h }

  pub fit_step : (c : Call) → fits c s ≡ true → Together (step c s) (step c s')
  unfolding step
  fit_step (calls.store c) e = store_together (fit_call c e)
  fit_step (calls.run w) e = subst (λ (x : Run Told engine.Tables (Unit {0})). Together (on_run s (call_of s w)) (on_run s' x)) (run_same w e) (run_together (call_of s w))
  fit_step (calls.reading q) e = subst (λ (r : Reading Shown). Together (on_reading s (ask q s)) (on_reading s' r)) (reading_same q e) (reading_together (ask q s))

-- ---- whole lists of calls

abbrev ask_for : Question → Call
ask_for q = calls.reading q

-- a list of events, and the calls of which another store hears and shows as much
pub record Echoes (p : Accepted) (es : List Event) (s : State) : Type 0 where
  pub calls : List Call
  pub typed : All Typed calls
  pub heard : heard_from p es ≡ heard_from p (play s calls)
  pub shown : (q : Question) (a : Shown) → Memᴰ (event (ask_for q) (shows a)) es → Memᴰ (event (ask_for q) (shows a)) (play s calls)

unheard : (p : Accepted) (c : Call) (e : Told) → learned p c (refused e) ≡ p
unheard p (calls.store c) e = refl
unheard p (calls.run w) e = refl
unheard p (calls.reading q) e = refl

not_shown : {c d : Call} {e : Told} {a : Shown} → event d (shows a) ≡ event c (refused e) → ⊥
not_shown h = let z : ◌≡◌ {A = Answer} (shows _) (refused _) = ap (λ (x : Event). x.answer) h in let y : ◌≡◌ {A = ℕ} 0 1 = cc in omega arith

pub echo_none : {p : Accepted} {s : State} → Echoes p [] s
unfolding play heard_from
echo_none = record { calls = []; typed = tt; heard = refl; shown = λ q a m. elim m [ ] }

-- a refused call is none
pub echo_refused : {p : Accepted} {es : List Event} {s : State} (c : Call) (e : Told) → Echoes p es s → Echoes p (event c (refused e) ∷ es) s
unfolding heard_from
echo_refused {p} {es} {s} c e o = record {
  calls = o.calls;
  typed = o.typed;
  heard = ap (λ (q : Accepted). heard_from q es) (unheard p c e) ∙ o.heard;
  shown = later;
}
  where
    later : (q : Question) (a : Shown) → Memᴰ (event (ask_for q) (shows a)) (event c (refused e) ∷ es) → Memᴰ (event (ask_for q) (shows a)) (play s o.calls)
    later q a (Memᴰ.head h) = absurd (not_shown h)
    later q a (Memᴰ.tail m) = o.shown q a m

-- a call that is answered as the other store answers it
pub echo_made : {p : Accepted} {es : List Event} {s : State} (c : Call) (a : Answer) → Typed c → a ≡ (step c s).answer → Echoes (learned p c a) es (step c s).after → Echoes p (event c a ∷ es) s
unfolding play heard_from
echo_made {p} {es} {s} c a t h o = record {
  calls = c ∷ o.calls;
  typed = (t, o.typed);
  heard = o.heard ∙ ap (λ (b : Answer). heard_from (learned p c b) (play (step c s).after o.calls)) h;
  shown = made;
}
  where
    made : (q : Question) (x : Shown) → Memᴰ (event (ask_for q) (shows x)) (event c a ∷ es) → Memᴰ (event (ask_for q) (shows x)) (play s (c ∷ o.calls))
    made q x (Memᴰ.head f) = Memᴰ.head (f ∙ ap (event c) h)
    made q x (Memᴰ.tail m) = Memᴰ.tail (o.shown q x m)

one : (c : Call) (cs : List Call) → Typed c → (p : Accepted) (s s' : State) → Beside s s' → (b : Bool) → fits c s ≡ b → Echoes p (play s cs) s' →
    (fits c s ≡ true → Echoes (learned p c (step c s).answer) (play (step c s).after cs) (step c s').after) → Echoes p (event c (step c s).answer ∷ play (step c s).after cs) s'
one c cs t p s s' h false e o later =
    subst (λ (x : Stepped). Echoes p (event c x.answer ∷ play x.after cs) s') (sym (unfit_step c s e)) (echo_refused c (told Shape) o)
one c cs t p s s' h true e o later = echo_made c (step c s).answer t (fit_step s s' h c e).answer (later e)

-- the calls that see only tables of 01's sizes, made on the other store
pub echoes : (cs : List Call) → All Typed cs → (p : Accepted) (s s' : State) → Beside s s' → Echoes p (play s cs) s'
unfolding play
echoes [] t p s s' h = echo_none
echoes (c ∷ cs) t p s s' h =
    one c cs t.0 p s s' h (fits c s) refl (echoes cs t.1 p s s' h)
    (λ e. let w = fit_step s s' h c e in echoes cs t.1 (learned p c (step c s).answer) (step c s).after (step c s').after w.after)

-- ---- a store whose tables have their sizes, beside one of any

mended : {A : Type 0} → ℕ → A → List A → List A
mended n d l = cond (eqb (length l) n) l (replicate n d)

mended_length : {A : Type 0} (n : ℕ) (d : A) (l : List A) → length (mended n d l) ≡ n
unfolding mended
mended_length n d l = go (eqb (length l) n) refl
  where
    go : (b : Bool) → eqb (length l) n ≡ b → length (cond b l (replicate n d)) ≡ n
    go true e = eqb-true (length l) n e
    go false e = length-replicate n d

mended_same : {A : Type 0} (n : ℕ) (d : A) (l : List A) → length l ≡ n → l ≡ mended n d l
unfolding mended
mended_same n d l e = rw (eq-eqb (length l) n e) refl

all_replicate : {A : Type 0} (P : A → Type 0) (n : ℕ) (d : A) → P d → All P (replicate n d)
all_replicate P zero d p = tt
all_replicate P (suc n) d p = (p, all_replicate P n d p)

mended_all : {A : Type 0} (P : A → Type 0) (n : ℕ) (d : A) (l : List A) → P d → All P l → All P (mended n d l)
unfolding mended
mended_all P n d l p h = go (eqb (length l) n)
  where
    go : (b : Bool) → All P (cond b l (replicate n d))
    go true = h
    go false = all_replicate P n d p

pub mend : State → State
mend s =
    let t = s.tables in
    state
    (tables t.header (mended size.predicate_cells 0 t.predicates) (mended size.name_cells 0 t.names) (mended size.constant_cells 0 t.constants) (mended size.constants 0 t.order)
    (mended size.thresholds (pos 0) t.thresholds) (mended size.node_cells 0 t.nodes) (mended size.argument_cells 0 t.seeds) (mended size.record_cells 0 t.records) (mended size.rule_cells 0 t.rules))
    (mended size.argument_cells 0 s.arguments) (mended size.bounds_cells 0 s.slots)

module _ (s : State) where
  abbrev t : Tables
  t = s.tables

  pub mend_sized : Sized (mend s).tables
  unfolding mend
  mend_sized = record {
    predicates = mended_length size.predicate_cells 0 t.predicates;
    names = mended_length size.name_cells 0 t.names;
    constants = mended_length size.constant_cells 0 t.constants;
    order = mended_length size.constants 0 t.order;
    thresholds = mended_length size.thresholds (pos 0) t.thresholds;
    nodes = mended_length size.node_cells 0 t.nodes;
    seeds = mended_length size.argument_cells 0 t.seeds;
    records = mended_length size.record_cells 0 t.records;
    rules = mended_length size.rule_cells 0 t.rules;
  }

  pub mend_lent : Lent t → Lent (mend s).tables
  unfolding mend
  mend_lent h = record {
    cells = mended_all (λ c. c < 2 ^ 32) size.constant_cells 0 t.constants (omega arith) h.cells;
    numbers = mended_all Number size.thresholds (pos 0) t.thresholds (omega arith, omega arith) h.numbers;
  }

  pub mend_beside : (l : Limits) → Beside (fresh l s) (fresh l (mend s))
  unfolding mend
  mend_beside l = record {
    header = refl;
    predicates = mended_same size.predicate_cells 0 t.predicates;
    names = mended_same size.name_cells 0 t.names;
    constants = mended_same size.constant_cells 0 t.constants;
    order = mended_same size.constants 0 t.order;
    thresholds = mended_same size.thresholds (pos 0) t.thresholds;
    nodes = mended_same size.node_cells 0 t.nodes;
    seeds = mended_same size.argument_cells 0 t.seeds;
    records = mended_same size.record_cells 0 t.records;
    rules = mended_same size.rule_cells 0 t.rules;
    arguments = mended_same size.argument_cells 0 s.arguments;
    slots = mended_same size.bounds_cells 0 s.slots;
  }
