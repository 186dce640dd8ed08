-- Demand 3: `sound`. A list of calls is played from a fresh store; as long as it is open its tables hold what the accepted calls have said, and
-- from the run on nothing more is said and the results stay.
use Rattle.sizes.specs.Sizes as size
use Prim.Native.Nat.{ℕ, ◌≤◌, ◌<◌}
use native.Mathlib.Omega.{arith}
use mathlib.Core.Path.{◌≡◌, refl, sym, ap, subst, ◌∙◌}
use mathlib.Core.Bool.{Bool, true, false, cond, ◌&&◌}
use mathlib.Core.Logic.{◌⊎◌, inl, inr, ⊎_elim}
use mathlib.Core.List.Memᴰ
use mathlib.Core.List.{List, [], ◌∷◌, Memᴰ}
use mathlib.Core.Option.{Option, some, none}
use borrow.Author.Tests.{eqb-true, eq-eqb, leb-true, lt-ltb}
use lib.Dec.{eqb, leb, ltb}
use lib.ListN.{length}
use Rattle.integers.specs.Lists.{All}
use Rattle.integers.proofs.Tests.{and_left, and_right}
use Rattle.limits.specs.declared.Limits.{Limits}
use Rattle.limits.specs.declared.Refusal.TheVariants.{Shape}
use Rattle.limits.specs.Refusal.{Told, told}
use Rattle.limits.specs.Metered.{Run, going, stopped}
use Rattle.limits.proofs.Ends.{Ends, completes, stops, ends_as, ends_test, ends_both}
use Rattle.lattice.specs.Value.{Value}
use Rattle.rows.specs.Row.{value_at}
use Rattle.keys.specs.Key.{Key, name}
use Rattle.keys.specs.Key as keys
use Rattle.store.specs.declared.Phase.{Phase}
use Rattle.store.specs.declared.Phase.TheVariants.{Absent, Open, Completed, Stopped}
use Rattle.store.specs.declared.Store.{Store}
use Rattle.store.specs.declared.Kind.TheVariants.{Running}
use Rattle.store.specs.Store.{admits, empty, fresh_of}
use Rattle.store.proofs.Opened.{open?}
use Rattle.engine.specs.Call.{Working, read, sized, results_sized, working_sized, spacious, given_of, ran_on, run_call}
use Rattle.engine.specs.Call as engine
use Rattle.input.specs.Input as input
use Rattle.input.proofs.Played.{call_keeps}
use Rattle.input.proofs.Reached.{fresh_open, fresh_reached}
use Rattle.numeric.specs.Reading.{Reading, given, in_phase, there, argument_reading, context_count_reading, context_reading, slot_reading, key_reading, name_reading, status_reading}
use Rattle.numeric.specs.Reading as readings
use Rattle.numeric.specs.Question.{argument, Shown, value, showing}
use Rattle.numeric.specs.Step.{Call, store, run, reading, shows, State, state, for_run, from_run, on_store, on_run, ask, on_reading, step, Event, event, play, header_of, fresh}
use Rattle.soundness.specs.Plain.{Opaque}
use Rattle.soundness.specs.Run.{Accepted, accepted, key_for, said, learned, heard, heard_from, Firing, Reaches}
use Rattle.soundness.specs.Claim.{LiesInBound, LiesInList, LiesIn, Typed, Lent, Demand3}
use Rattle.lattice.proofs.Members.{InBound, Listed}
use Rattle.soundness.proofs.Lies.{number_of, Lies, Kept}
use Rattle.soundness.proofs.Grounded.{Inside, Grounded}
use Rattle.soundness.proofs.Ran.{Ran, ended, halted, ran_sound}
use Rattle.soundness.proofs.Ties.{Tied}
use Rattle.soundness.proofs.ClosedCalls.{closed_idle}
use Rattle.soundness.proofs.AnySize.{Echoes, echoes, mend, mend_sized, mend_lent, mend_beside}
use Rattle.input.proofs.Reached.{Sized}
use Rattle.soundness.proofs.Phases.{call_phase}
use Rattle.soundness.proofs.Worth.{none_some}
use Rattle.soundness.proofs.TiedKeys.{grounded, constant_ties, expression_ties}
use Rattle.soundness.proofs.TiedRows.{context_ties, work_ties, argument_ties, predicate_ties, seed_value_ties, seed_interval_ties, rule_ties}

-- ---- from what lies in a value to the claim's words

lies_in : (p : Accepted) (cells : List ℕ) (v : Value) (k : Key) → Lies (key_for p) cells v k → LiesIn p k v
lies_in p cells v k h = record { bound = bound k h.bound; list = list v.values h.list }
  where
    bound : (k : Key) → InBound (number_of k) v.bound → LiesInBound k v.bound
    bound (keys.number z) x = x
    bound (name s) x = x

    list : (o : Option (List ℕ)) → Listed (Kept (key_for p) cells) k o → LiesInList p k o
    list none x = tt
    list (some l) x = (x.0, x.1, x.2.0)

-- ---- where a store stands

pub data Stands (p : Accepted) (s : State) : Type 0 where
  building : s.tables.header.phase ≡ Open → Tied p s.tables → Stands p s
  complete : s.tables.header.phase ≡ Completed → ((o : Opaque) (fs : List Firing) (a : ℕ) (k : Key) → Reaches o p fs a k → Inside p s.tables s.arguments a k) → Stands p s
  -- there is none, or its run was stopped
  without : admits Running s.tables.header.phase ≡ false → (s.tables.header.phase ≡ Completed → ⊥) → Stands p s

-- ---- a reading

reads : (s : State) (a : ℕ) (v : Value) → (step (reading (argument a)) s).answer ≡ shows (value v) → (s.tables.header.phase ≡ Completed) × (v ≡ value_at s.arguments a)
unfolding step argument_reading
reads s a v = go (eqb (length s.arguments) size.argument_cells) s.tables.header.phase refl (ltb a s.tables.header.counts.positions)
  where
    go : (b : Bool) (ph : Phase) → s.tables.header.phase ≡ ph → (c : Bool) →
        (on_reading s (showing value (cond b (in_phase ph (there c (value_at s.arguments a))) (readings.refused (told Shape))))).answer ≡ shows (value v) → (s.tables.header.phase ≡ Completed) × (v ≡ value_at s.arguments a)
    go false ph q c e = let z : ◌≡◌ {A = ℕ} 0 1 = cc in absurd (omega arith)
    go true Absent q c e = let z : ◌≡◌ {A = ℕ} 0 1 = cc in absurd (omega arith)
    go true Open q c e = let z : ◌≡◌ {A = ℕ} 0 1 = cc in absurd (omega arith)
    go true Completed q true e = (q, cc)
    go true Completed q false e = let z : ◌≡◌ {A = ℕ} 0 1 = cc in absurd (omega arith)
    go true (Stopped x y) q c e = let z : ◌≡◌ {A = ℕ} 0 1 = cc in absurd (omega arith)

-- ---- a store that is not open: nothing is said and nothing changes

pub reading_after : (s : State) (r : Reading Shown) → (on_reading s r).after ≡ s
reading_after s (given a) = refl
reading_after s (readings.refused e) = refl

-- whether all tables that a run is lent have 01's sizes
abbrev run_sized : State → Working → Bool
run_sized s w =
    sized (length s.tables.nodes) (length s.tables.constants) (length s.tables.rules) (length s.tables.seeds) (length s.tables.thresholds)
    && (results_sized (length s.arguments) (length s.slots) && working_sized (length w.current) (length w.growth) (length w.scratch))

-- what a step leaves of a store, of which p has been said
pub record Idle (p : Accepted) (c : Call) (s : State) : Type 0 where
  pub after : (step c s).after ≡ s
  pub said : learned p c (step c s).answer ≡ p

module _ (p : Accepted) (s : State) (shut : admits Running s.tables.header.phase ≡ false) where
  never : open? s.tables.header ≡ true → ⊥
  never h = let e : true ≡ false = sym h ∙ shut in let z : ◌≡◌ {A = ℕ} 0 1 = cc in omega arith

  store_idle : (c : input.Call) → Idle p (store c) s
  unfolding step
  store_idle c = go (input.call c s.tables) (closed_idle s.tables shut c) refl
    where
      go : (x : Run Told input.Tables input.Reply) → Ends (λ _ _. ⊥) (λ _ u. u ≡ s.tables) x → input.call c s.tables ≡ x → Idle p (store c) s
      go x (completes h) e = absurd h
      go x (stops h) e = record { after = rw (e, h) refl; said = rw e refl }

  run_idle : (w : Working) → Idle p (run w) s
  unfolding step run_call
  run_idle w =
      go (run_call (read s.tables.nodes s.tables.constants s.tables.rules s.tables.seeds) w (for_run s))
      (ends_test (run_sized s w)
      (λ _. ends_test (open? s.tables.header) (λ h. absurd (never h)) (λ _. stops refl)) (λ _. stops refl)) refl
    where
      go : (x : Run Told engine.Tables (Unit {0})) → Ends (λ _ _. ⊥) (λ _ u. u ≡ for_run s) x → run_call (read s.tables.nodes s.tables.constants s.tables.rules s.tables.seeds) w (for_run s) ≡ x → Idle p (run w) s
      go x (completes h) e = absurd h
      go x (stops h) e = record { after = rw (e, h) refl; said = refl }

  pub closed_step : (c : Call) → Idle p c s
  unfolding step
  closed_step (store c) = store_idle c
  closed_step (run w) = run_idle w
  closed_step (reading q) = record { after = reading_after s (ask q s); said = refl }

  closed_heard : (cs : List Call) → heard_from p (play s cs) ≡ p
  unfolding play heard_from
  closed_heard [] = refl
  closed_heard (c ∷ cs) =
      let i = closed_step c in
      ap (λ (q : Accepted). heard_from q (play (step c s).after cs)) i.said ∙ (ap (λ (u : State). heard_from p (play u cs)) i.after ∙ closed_heard cs)

-- ---- an open store

module _ (ties : (c : input.Call) → input.Typed c → (p : Accepted) (t : input.Tables) → Tied p t → Ends (λ r u. Tied (said p c r) u) (λ _ u. Tied p u) (input.call c t))
    (ground : (p : Accepted) (t : input.Tables) → Tied p t → Grounded p t) where
  module _ (p : Accepted) (s : State) (opened : s.tables.header.phase ≡ Open) (tied : Tied p s.tables) where
    -- a call is accepted or refused
    pub store_keeps : (c : input.Call) → input.Typed c → Ends (λ r u. Tied (said p c r) u × (u.header.phase ≡ Open)) (λ _ u. Tied p u × (u.header.phase ≡ Open)) (input.call c s.tables)
    store_keeps c h =
        ends_both (ties c h p s.tables tied)
        (ends_as (ends_both (call_phase s.tables tied.reached c h) (call_keeps c h s.tables tied.reached))
        (λ _ u q. q.0 ∙ opened) (λ _ u q. q.1.leaves.header.phase ∙ opened))

    store_stands : (c : input.Call) → input.Typed c → Stands (learned p (store c) (step (store c) s).answer) (step (store c) s).after
    unfolding step
    store_stands c h = go (input.call c s.tables) (store_keeps c h)
      where
        go : (x : Run Told input.Tables input.Reply) → Ends (λ r u. Tied (said p c r) u × (u.header.phase ≡ Open)) (λ _ u. Tied p u × (u.header.phase ≡ Open)) x → Stands (learned p (store c) (on_store s x).answer) (on_store s x).after
        go x (completes q) = building q.1 q.0
        go x (stops q) = building q.1 q.0

    -- the run is taken, and completes or is stopped; or it is refused, and nothing has changed
    pub run_runs : (w : Working) → Ends (λ _ u. Ran (ground p s.tables tied) (for_run s) u) (λ _ u. u ≡ for_run s) (run_call (read s.tables.nodes s.tables.constants s.tables.rules s.tables.seeds) w (for_run s))
    unfolding run_call
    run_runs w =
        ends_test (run_sized s w)
        (λ z.
        ends_test (open? s.tables.header) (λ _. ends_test (spacious s.tables.header.counts) (λ q. completes (ran z q)) (λ _. stops refl)) (λ _. stops refl)) (λ _. stops refl)
      where
        ran : run_sized s w ≡ true →
            spacious s.tables.header.counts ≡ true → Ran (ground p s.tables tied) (for_run s) (ran_on (given_of (read s.tables.nodes s.tables.constants s.tables.rules s.tables.seeds) s.tables.header) (for_run s))
        ran z q =
            let wide : length s.arguments ≡ size.argument_cells = eqb-true (length s.arguments) size.argument_cells (and_left _ (eqb (length s.slots) size.bounds_cells) (and_left (results_sized (length s.arguments) (length s.slots)) _ (and_right (sized (length s.tables.nodes) (length s.tables.constants) (length s.tables.rules) (length s.tables.seeds) (length s.tables.thresholds)) _ z))) in
            let few : s.tables.header.counts.thresholds ≤ size.thresholds_before_run =
            leb-true s.tables.header.counts.thresholds size.thresholds_before_run (and_right (leb s.tables.header.counts.rules 256) _ (and_right (leb s.tables.header.counts.positions 256) _ q)) in
            ran_sound (ground p s.tables tied) tied.numbers (omega (arith, tied.reached.sized.thresholds)) s.arguments s.slots (omega (arith, tied.reached.counted.positions))

    run_stands : (w : Working) → Stands (learned p (run w) (step (run w) s).answer) (step (run w) s).after
    unfolding step
    run_stands w = go (run_call (read s.tables.nodes s.tables.constants s.tables.rules s.tables.seeds) w (for_run s)) (run_runs w)
      where
        go : (x : Run Told engine.Tables (Unit {0})) → Ends (λ _ u. Ran (ground p s.tables tied) (for_run s) u) (λ _ u. u ≡ for_run s) x → Stands p (on_run s x).after
        go x (completes {s = u} (ended ph n live holds wide long)) = complete ph (λ o fs a k y. inside u n (holds o fs a k y))
          where
            inside : {a : ℕ} {k : Key} (u : engine.Tables) → u.header.counts.positions ≡ s.tables.header.counts.positions → Inside p s.tables u.arguments a k → Inside p (from_run u s).tables u.arguments a k
            inside u n i = record { below = omega (arith, i.below); proper = i.proper; lies = i.lies }
        go x (completes {s = u} (halted ph n live a b)) = without (rw ph refl) (λ h. let z : ◌≡◌ {A = ℕ} 0 1 = cc in omega arith)
        go x (stops {s = u} h) = subst (λ (v : engine.Tables). Stands p (from_run v s)) (sym h) (building opened tied)

  step_stands : (c : Call) → Typed c → (p : Accepted) (s : State) → Stands p s → Stands (learned p c (step c s).answer) (step c s).after
  unfolding step
  step_stands c h p s (complete ph f) = let i = closed_step p s (rw ph refl) c in rw (i.said, i.after) (complete ph f)
  step_stands c h p s (without a b) = let i = closed_step p s a c in rw (i.said, i.after) (without a b)
  step_stands c h p s (building o t) = go c h
    where
      go : (c : Call) → Typed c → Stands (learned p c (step c s).answer) (step c s).after
      go (store c) h = store_stands p s o t c h
      go (run w) h = run_stands p s o t w
      go (reading q) h = subst (Stands p) (sym (reading_after s (ask q s))) (building o t)

  -- ---- a list of calls

  pub sound_from : (o : Opaque) (fs : List Firing) (a : ℕ) (k : Key) (v : Value) (cs : List Call) → All Typed cs → (p : Accepted) (s : State) → Stands p s →
      Reaches o (heard_from p (play s cs)) fs a k → Memᴰ (event (reading (argument a)) (shows (value v))) (play s cs) → LiesIn (heard_from p (play s cs)) k v
  unfolding play heard_from
  sound_from o fs a k v [] h p s st x x5 = elim x5 [ ]
  sound_from o fs a k v (c ∷ cs) h p s st x (Memᴰ.tail m) = sound_from o fs a k v cs h.1 (learned p c (step c s).answer) (step c s).after (step_stands c h.0 p s st) x m
  sound_from o fs a k v (c ∷ cs) h p s st x (Memᴰ.head e) = read_here (reads s a v (subst (λ (d : Call). (step d s).answer ≡ shows (value v)) (ap (λ (z : Event). z.call) (sym e)) (ap (λ (z : Event). z.answer) (sym e)))) st
    where
      -- the reading stands in a completed store, of which nothing more is said
      read_here : (s.tables.header.phase ≡ Completed) × (v ≡ value_at s.arguments a) → Stands p s → LiesIn (heard_from p (play s (c ∷ cs))) k v
      read_here q (building f t) = let z : ◌≡◌ {A = ℕ} 0 1 = cc in absurd (omega arith)
      read_here q (without f g) = absurd (g q.0)
      read_here q (complete f g) =
          let same : heard_from p (play s (c ∷ cs)) ≡ p = closed_heard p s (rw f refl) (c ∷ cs) in
          let i = g o fs a k (subst (λ (r : Accepted). Reaches o r fs a k) same x) in
          subst (λ (r : Accepted). LiesIn r k v) (sym same) (rw q.1 (lies_in p s.tables.constants (value_at s.arguments a) k i.lies))

-- ---- from a fresh store

pub call_ties : (c : input.Call) → input.Typed c → (p : Accepted) (t : input.Tables) → Tied p t → Ends (λ r u. Tied (said p c r) u) (λ _ u. Tied p u) (input.call c t)
call_ties (input.context c) h p t k = context_ties c h p t k
call_ties (input.work n) h p t k = work_ties n p t k
call_ties (input.predicate arity) h p t k = predicate_ties arity p t k
call_ties (input.argument q i) h p t k = argument_ties q i p t k
call_ties (input.constant x) h p t k = constant_ties x h p t k
call_ties (input.expression x) h p t k = expression_ties x p t k
call_ties (input.seed_value a x) h p t k = seed_value_ties (λ q u l. (grounded l).keys) a x p t k
call_ties (input.seed_interval a low high) h p t k = seed_interval_ties a low high h.0 h.1 p t k
call_ties (input.rule x) h p t k = rule_ties x h p t k

-- before any call nothing has been said
fresh_tied : (l : Limits) (t : input.Tables) → fresh_of l ≡ going tt t.header → t.header.counts.constants ≡ 0 → t.header.counts.expressions ≡ 0 → Sized t → Lent t → Tied (accepted [] [] [] []) t
fresh_tied l t e c x sizes z = record {
  reached = fresh_reached l t e sizes;
  numbers = z.numbers;
  keys = record {
    has = λ i b. absurd (omega arith);
    inside = λ i k q. absurd (none_some q);
    kept = λ i k q. absurd (none_some q);
    large = λ i k q. absurd (none_some q);
    proper = λ i k q. absurd (none_some q);
    cells = z.cells;
  };
  trees = record { has = λ i b. absurd (omega arith); inside = λ i u q. absurd (none_some q); is = λ i u q. absurd (none_some q) };
  rules = record { at = λ r m. absurd (Memᴰ.not-nil m) };
  seeds = record { at = λ a k q. absurd (Memᴰ.not-nil q.among) };
}

-- a store is open from its beginning, or there is none
abbrev pub Begun : State → Type 0
Begun s = ((s.tables.header.phase ≡ Open) × Tied (accepted [] [] [] []) s.tables) ⊎ (s.tables.header.phase ≡ Absent)

pub fresh_begins : (l : Limits) (s : State) → Sized s.tables → Lent s.tables → Begun (fresh l s)
fresh_begins l s sizes z = go (leb l.width 16) refl
  where
    sized_as : (h : Store) → Sized (input.with_header h s.tables)
    sized_as h = record {
      predicates = sizes.predicates;
      names = sizes.names;
      constants = sizes.constants;
      order = sizes.order;
      thresholds = sizes.thresholds;
      nodes = sizes.nodes;
      seeds = sizes.seeds;
      records = sizes.records;
      rules = sizes.rules;
    }

    go : (b : Bool) → leb l.width 16 ≡ b → Begun (state (input.with_header (header_of (cond b (going (tt {0}) (empty l Open)) (stopped (told Shape) (empty l Absent)))) s.tables) s.arguments s.slots)
    go true e =
        inl
        (refl, fresh_tied l (input.with_header (empty l Open) s.tables) (fresh_open l (leb-true l.width 16 e)) refl refl (sized_as (empty l Open)) record { cells = z.cells; numbers = z.numbers })
    go false e = inr refl

fresh_stands : (l : Limits) (s : State) → Sized s.tables → Lent s.tables → Stands (accepted [] [] [] []) (fresh l s)
fresh_stands l s sizes z =
    ⊎_elim (λ q. building q.0 q.1) (λ e. without (rw e refl) (λ h. let y : ◌≡◌ {A = ℕ} 0 1 = cc in omega arith)) (fresh_begins l s sizes z)

-- what another store, whose tables have their sizes, hears and shows of some calls from its beginning
pub echoes_sound : (o : Opaque) (l : Limits) (s : State) → Lent s.tables → (es : List Event) → Echoes (accepted [] [] [] []) es (fresh l (mend s)) → (fs : List Firing) (a : ℕ) (k : Key) → Reaches o (heard es) fs a k →
    (v : Value) → Memᴰ (event (reading (argument a)) (shows (value v))) es → LiesIn (heard es) k v
echoes_sound o l s z es r fs a k x v m =
    subst (λ (p : Accepted). LiesIn p k v) (sym r.heard)
    (sound_from call_ties (λ p t. grounded) o fs a k v r.calls r.typed (accepted [] [] [] []) (fresh l (mend s)) (fresh_stands l (mend s) (mend_sized s) (mend_lent s z))
    (subst (λ (p : Accepted). Reaches o p fs a k) r.heard x) (r.shown (argument a) (value v) m))

-- demand 3
pub sound : Demand3
sound o l s z cs h fs a k x v m = echoes_sound o l s z (play (fresh l s) cs) (echoes cs h (accepted [] [] [] []) (fresh l s) (fresh l (mend s)) (mend_beside s l)) fs a k x v m

-- ---- and it is never empty talk: after a completed run a reading of an argument that exists is not refused

pub read_completed : (s : State) (a : ℕ) → s.tables.header.phase ≡ Completed → length s.arguments ≡ size.argument_cells → a < s.tables.header.counts.positions → (step (reading (argument a)) s).answer ≡ shows (value (value_at s.arguments a))
unfolding step argument_reading
read_completed s a p q l = rw (eq-eqb (length s.arguments) size.argument_cells q, p, lt-ltb a s.tables.header.counts.positions l) refl
