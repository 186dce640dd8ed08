-- A run on a store that calls have reached is taken; it completes, or stops with 3 (work), 8 (links), 9 (live entries) or 10 (rounds).
use Rattle.sizes.specs.Sizes as size
use Prim.Native.Nat.{ℕ, zero, suc, ◌+◌, ◌-◌}
use native.Mathlib.Omega.{arith}
use mathlib.Core.Path.{◌≡◌, refl, ap, ◌∙◌}
use mathlib.Core.Logic.{◌⊎◌, inl, inr}
use mathlib.Core.Bool.{Bool, true, false, cond, ◌||◌}
use mathlib.Core.List.{List, [], ◌∷◌, reverse}
use borrow.Author.Tests.{eq-eqb, le-leb}
use lib.Dec.{eqb, leb, ltb}
use lib.IntN.{ℤ}
use lib.Signed.{le_z}
use lib.ListN.{length}
use Rattle.integers.specs.Order.{least32, greatest32}
use Rattle.integers.specs.Lists.{All}
use Rattle.limits.specs.declared.Limits.{Limits}
use Rattle.limits.specs.declared.Refusal.TheVariants.{Shape}
use Rattle.limits.specs.declared.Resource.{Resource}
use Rattle.limits.specs.declared.Resource.TheVariants.{Work, Links, Rounds}
use Rattle.limits.specs.declared.Stop.{Stop}
use Rattle.limits.specs.Refusal.{Told, told, resource_number}
use Rattle.limits.specs.Metered.{Run, going, stopped, Metered}
use Rattle.limits.specs.declared.Meter.{Meter}
use Rattle.limits.specs.Meter.{meter_of}
use Rattle.limits.proofs.Ends.{Ends, completes, stops, ends_both}
use Rattle.interval.specs.declared.Interval.{Interval}
use Rattle.std.specs.Prelude.{Option, Some, None}
use Rattle.interval.specs.Interval.{endpoints_of}
use Rattle.search.specs.Seek.{Place, found, absent}
use Rattle.thresholds.specs.Thresholds.{against, seek_number, insert, cost, settle, enter}
use Rattle.lattice.specs.Value.{Value}
use Rattle.rows.specs.Row.{value_at}
use Rattle.store.specs.declared.Phase.{Phase}
use Rattle.store.specs.declared.Phase.TheVariants.{Absent, Open, Completed, Stopped}
use Rattle.store.specs.Store.{empty, fresh_of}
use Rattle.rules.specs.declared.Head.{Head}
use Rattle.rules.specs.Read.{slots_at, heads_at}
use Rattle.slots.specs.Slots.{Slots, blank}
use Rattle.refinements.specs.Refinement.{Refinement}
use Rattle.evaluation.specs.Evaluation.{Input}
use Rattle.transfer.specs.Transfer.{Frame}
use Rattle.widening.specs.declared.Growth.{Growth}
use Rattle.widening.specs.Widening.{nearest, below, above, widen_low, widen_high, widen_ends, widen, growth_at}
use Rattle.widening.specs.Widening as widening
use Rattle.rounds.specs.Locals.{Locals, fill, locals_of, own_locals, with_locals}
use Rattle.rounds.specs.Locals as locals
use Rattle.rounds.specs.Round.{Given, Standing, standing, each_rule, join_owned, join_head, apply, produce, image, candidates_of, candidates}
use Rattle.passes.specs.Step.{Grown, within, with_change, widen_value, grow, Steps, steps, advanced, advance_one, advance}
use Rattle.passes.specs.Pass.{Ascent, replaced, renew, pass, passes, ascend}
use Rattle.results.specs.Result.{keep_bounds, keep_both, bound, close, last_round, closing, last}
use Rattle.engine.specs.Run.{Beginning, enter_ends, seeded, begin, Progress, ascend_and_end, finish}
use Rattle.engine.specs.Call.{Read, read, Working, Tables, tables, given_of, concluded, finished, ran_on, run_call}
use Rattle.input.specs.Input.{Call, Reply, Typed, call, left, played}
use Rattle.input.specs.Input as input
use Rattle.input.proofs.Reached.{Sized, Reached, fresh_reached}
use Rattle.input.proofs.Left.{Goes, Refused}
use Rattle.input.proofs.Played.{call_keeps}
use Rattle.soundness.proofs.Phases.{call_phase}
use Rattle.soundness.proofs.HaltingRules.{Halted, Halts, halts_pure, halts_test, halts_look, halts_as, halts_bind, halts_then, halts_through, halts_charge, seek_halts, Spends, Frugal, works, same_halts, join_halts, replace_halts, step_halts, each_halts, copies_halts, rule_halts, head_halts}

-- ---- what a run may be stopped with

-- a round, or a pass
abbrev pub RoundResource : Resource → Type 0
RoundResource r = Spends r ⊎ (r ≡ Rounds)

-- where a threshold is entered
abbrev pub EntryResource : Resource → Type 0
EntryResource r = (r ≡ Work) ⊎ (r ≡ Links)

-- a run, of which both are a part
abbrev pub RunResource : Resource → Type 0
RunResource r = EntryResource r ⊎ RoundResource r

in_round : {S A : Type 0} {m : Metered Stop S A} → Frugal m → Halts RoundResource m
in_round h = halts_as (λ r k. inl k) h

-- ---- rounds

locals_halt : {x : Run Stop Frame ℕ} → Halted Spends x → Halted Spends (locals_of x)
locals_halt (completes h) = completes tt
locals_halt (stops h) = stops h

module _ (i : Input) (rules : List ℕ) (id : ℕ) (arguments : List ℕ) where
  local_halts : Frugal (own_locals i rules id arguments)
  unfolding own_locals fill
  local_halts = record { at = λ m. locals_halt ((halts_then (halts_through _ _ _ (works 1)) (rule_halts i rules id arguments)).at (locals.blank_frame (slots_at rules id) m)) }

  with_locals_lem : {m : Locals → Metered Stop Slots (Unit {0})} → ((l : Locals) → Frugal (m l)) → Frugal (with_locals i rules id arguments m)
  unfolding with_locals
  with_locals_lem h = halts_bind (halts_through _ _ _ local_halts) (λ l. halts_through _ _ _ (h l))

join_head_lem : (i : Input) (produced : List ℕ) (known : List Refinement) (h : Head) → Frugal (join_head i produced known h)
unfolding join_head join_owned
join_head_lem i produced known h =
    halts_bind (halts_through _ _ _ (head_halts i produced known h.value)) (λ v. halts_through _ _ _ (replace_halts h.argument (λ old. join_halts i.width old v)))

apply_halts : (i : Input) (rules previous : List ℕ) (id : ℕ) → Frugal (apply i rules previous id)
unfolding apply
apply_halts i rules previous id = with_locals_lem i rules id previous (λ l. each_halts (join_head_lem i l.produced l.known) (heads_at rules id))

each_rule_lem : (rules : List ℕ) (f : ℕ → Metered Stop Slots (Unit {0})) → ((id : ℕ) → Frugal (f id)) → (k n : ℕ) → Frugal (each_rule rules f k n)
unfolding each_rule
each_rule_lem rules f h k zero = halts_pure tt
each_rule_lem rules f h k (suc n) = halts_then record { at = λ _. completes tt } (halts_then (halts_through _ _ _ (h k)) (each_rule_lem rules f h (k + 1) n))

produce_halts : (g : Given) (previous : List ℕ) → Frugal (produce g previous)
unfolding produce
produce_halts g previous =
    halts_then (halts_through _ _ _ (copies_halts g.seeds 0 g.positions))
    (halts_through _ _ _ (each_rule_lem g.rules (apply g.input g.rules previous) (apply_halts g.input g.rules previous) 0 g.count))

image_halts : (g : Given) (previous : List ℕ) → Halts RoundResource (image g previous)
unfolding image
image_halts g previous = halts_then (halts_through _ _ _ (halts_charge Rounds (inr refl) 1)) (in_round (produce_halts g previous))

candidates_of_lem : {x : Run Stop Standing (Unit {0})} → Halted RoundResource x → Halted RoundResource (candidates_of x)
candidates_of_lem (completes h) = completes tt
candidates_of_lem (stops h) = stops h

pub candidates_halt : (g : Given) (previous : List ℕ) → Halts RoundResource (candidates g previous)
unfolding candidates
candidates_halt g previous = record { at = λ c. candidates_of_lem ((image_halts g previous).at (standing c.budget c.context (blank g.positions))) }

-- ---- widening, and one argument of a pass

nearest_halts : (beyond : ℤ → Bool) (end : ℤ) (l : List ℤ) → Frugal (nearest beyond end l)
unfolding nearest
nearest_halts beyond end [] = halts_pure end
nearest_halts beyond end (t ∷ l) = halts_then (works 1) (halts_test (beyond t) (halts_pure t) (nearest_halts beyond end l))

side_halts : (stays : Bool) (end : ℤ) (grown : ℕ) {search : Metered Stop Meter ℤ} → Frugal search → Frugal (widening.grow_side stays end grown search)
side_halts stays end grown h = halts_test stays (halts_pure _) (halts_test (ltb grown 2) (halts_pure _) (halts_bind h (λ z. halts_pure _)))

widen_halts : (thresholds : List ℤ) (previous next : Interval) (g : Growth) → Frugal (widen thresholds previous next g)
unfolding widen widen_low widen_high below above
widen_halts thresholds previous next g = go (endpoints_of previous) (endpoints_of next)
  where
    go : (p n : Option (ℤ × ℤ)) → Frugal (widen_ends thresholds next g p n)
    go None n = halts_pure _
    go (Some (a, b)) None = halts_pure _
    go (Some (a, b)) (Some (c, d)) =
        halts_bind (side_halts (le_z a c) c g.low (nearest_halts (λ t. le_z t c) c (reverse thresholds)))
        (λ l. halts_bind (side_halts (le_z d b) d g.high (nearest_halts (λ t. le_z d t) d thresholds)) (λ h. halts_pure _))

grow_halts : (width : ℕ) (thresholds : List ℤ) (old candidate : Value) (g : Growth) → Frugal (grow width thresholds old candidate g)
unfolding grow widen_value with_change
grow_halts width thresholds old candidate g =
    halts_then (works 1)
    (halts_bind (join_halts width old candidate)
    (λ v.
    halts_bind (halts_through _ _ _ (widen_halts thresholds old.bound.interval v.bound.interval g))
    (λ w. halts_bind (halts_through _ _ _ (same_halts old (within w.interval v))) (λ s. halts_pure _))))

-- ---- passes

stepped_halts : (k : ℕ) (old : Value) (s : Steps) {x : Run Stop Meter Grown} → Halted Spends x → Halted Spends (advanced k old s x)
stepped_halts k old s (completes h) = completes tt
stepped_halts k old s (stops h) = stops h

advance_halts : (thresholds : List ℤ) (current candidates : List ℕ) (k n : ℕ) (changed : Bool) → Frugal (advance thresholds current candidates k n changed)
unfolding advance advance_one
advance_halts thresholds current candidates k zero changed = halts_pure changed
advance_halts thresholds current candidates k (suc n) changed =
    halts_bind
    (halts_through _ _ _
    record {
      at = λ s.
          stepped_halts k (value_at current k) s
          ((grow_halts s.budget.limits.width thresholds (value_at current k) (value_at candidates k) (growth_at s.growth k)).at (meter_of s.budget));
    })
    (λ moved. advance_halts thresholds current candidates (k + 1) n (changed || moved))

replaced_halts : (n : ℕ) (cs : List ℕ) (s : Ascent) {x : Run Stop Steps Bool} → Halted Spends x → Halted Spends (replaced n cs s x)
replaced_halts n cs s (completes h) = completes tt
replaced_halts n cs s (stops h) = stops h

renew_halts : (n : ℕ) (thresholds : List ℤ) (cs : List ℕ) → Frugal (renew n thresholds cs)
unfolding renew
renew_halts n thresholds cs = record { at = λ s. replaced_halts n cs s ((advance_halts thresholds s.current cs 0 n _).at (steps s.budget (blank n) s.growth)) }

module _ (g : Given) (thresholds : List ℤ) where
  pass_halts : Halts RoundResource (pass g thresholds)
  unfolding pass
  pass_halts = halts_look (λ s. halts_bind (halts_through _ _ _ (candidates_halt g s.current)) (λ cs. in_round (renew_halts g.positions thresholds cs)))

  passes_halt : (n : ℕ) → Halts RoundResource (passes g thresholds n)
  unfolding passes
  passes_halt zero = halts_pure tt
  passes_halt (suc n) = halts_bind pass_halts (λ changed. halts_test changed (passes_halt n) (halts_pure tt))

  pub ascend_halts : Halts RoundResource (ascend g thresholds)
  unfolding ascend
  ascend_halts = halts_look (λ s. passes_halt (suc (s.budget.limits.rounds - s.budget.statistics.rounds)))

-- ---- the end of a run

keep_halts : (rows : List ℕ) (id : ℕ) (after : Bool) (k n : ℕ) → Frugal (keep_bounds rows id after k n)
unfolding keep_bounds
keep_halts rows id after k zero = halts_pure tt
keep_halts rows id after k (suc n) = halts_then (step_halts record { at = λ _. completes tt }) (keep_halts rows id after (k + 1) n)

bound_halts : (i : Input) (rules current : List ℕ) (id : ℕ) → Frugal (bound i rules current id)
unfolding bound keep_both
bound_halts i rules current id = with_locals_lem i rules id current (λ l. halts_then (keep_halts l.domains id _ 0 (slots_at rules id)) (keep_halts l.produced id _ 0 (slots_at rules id)))

close_halts : (i : Input) (rules : List ℕ) (count positions : ℕ) (current : List ℕ) → Frugal (close i rules count positions current)
unfolding close
close_halts i rules count positions current =
    halts_then (each_rule_lem rules (bound i rules current) (bound_halts i rules current) 0 count) (halts_through _ _ _ (halts_charge Work (inl refl) positions))

module _ (g : Given) where
  closing_halts : Frugal (closing g)
  unfolding closing
  closing_halts = halts_look (λ s. halts_through _ _ _ (close_halts g.input g.rules g.count g.positions s.current))

  last_halts : Halts RoundResource (last g)
  unfolding last last_round
  last_halts =
      halts_then (halts_through _ _ _ (halts_look (λ s. halts_bind (halts_through _ _ _ (candidates_halt g s.rows)) (λ new. record { at = λ _. completes tt }))))
      (in_round closing_halts)

  pub finish_halts : (thresholds : List ℤ) → Halts RoundResource (finish g thresholds)
  unfolding finish ascend_and_end
  finish_halts thresholds = halts_test (eqb g.count 0) (halts_through _ _ _ (in_round closing_halts)) (halts_then (halts_through _ _ _ (ascend_halts g thresholds)) (halts_through _ _ _ last_halts))

-- ---- the beginning of a run

settle_halts : (v : ℤ) (count : ℕ) (p : Place) → Halts EntryResource (settle v count p)
unfolding settle cost insert
settle_halts v count (found i) = halts_pure tt
settle_halts v count (absent low) =
    halts_then (halts_through _ _ _ (halts_then (halts_charge Work (inl refl) (count - low + 1)) (halts_charge Links (inr refl) 1))) record { at = λ _. completes tt }

pub enter_halts : (v : ℤ) → Halts EntryResource (enter v)
unfolding enter seek_number
enter_halts v = halts_look (λ s. halts_bind (halts_through _ _ _ (halts_through _ _ _ (seek_halts (inl refl) (against s.table v) s.count 0 s.count))) (settle_halts v s.count))

seeded_halts : (seeds : List ℕ) (n : ℕ) → Frugal (seeded seeds n)
unfolding seeded
seeded_halts seeds n =
    halts_then (halts_through _ _ _ (copies_halts seeds 0 n))
    (halts_then (halts_through _ _ _ (halts_through _ _ _ (halts_charge Work (inl refl) n))) record { at = λ _. completes tt })

pub begin_halts : (seeds : List ℕ) (n : ℕ) → Halts RunResource (begin seeds n)
unfolding begin enter_ends
begin_halts seeds n =
    halts_then (halts_through _ _ _ (halts_as (λ r h. inl h) (halts_then (enter_halts least32) (enter_halts greatest32))))
    (halts_through _ _ _ (halts_as (λ r h. inr (inl h)) (seeded_halts seeds n)))

-- ---- the run

abbrev pub StopNumber : ℕ → Type 0
StopNumber n = (n ≡ 3) ⊎ ((n ≡ 8) ⊎ ((n ≡ 9) ⊎ (n ≡ 10)))

numbered : (r : Resource) → RunResource r → StopNumber (resource_number r)
numbered r (inl (inl h)) = inl (ap resource_number h)
numbered r (inl (inr h)) = inr (inl (ap resource_number h))
numbered r (inr (inl (inl h))) = inl (ap resource_number h)
numbered r (inr (inl (inr h))) = inr (inr (inl (ap resource_number h)))
numbered r (inr (inr h)) = inr (inr (inr (ap resource_number h)))

-- where a store was stopped, it was with one of the four
abbrev pub StopsWell : Phase → Type 0
StopsWell Absent = Unit {0}
StopsWell Open = Unit {0}
StopsWell Completed = Unit {0}
StopsWell (Stopped e c) = StopNumber (resource_number e.resource)

-- and its run is over
abbrev pub EndsWell : Phase → Type 0
EndsWell Absent = ⊥
EndsWell Open = ⊥
EndsWell Completed = Unit {0}
EndsWell (Stopped e c) = StopNumber (resource_number e.resource)

stops_well : (p : Phase) → EndsWell p → StopsWell p
stops_well Absent h = tt
stops_well Open h = tt
stops_well Completed h = tt
stops_well (Stopped e c) h = h

module _ (r : Read) (t : Tables) where
  concluded_well : (seeds : List ℕ) (n : ℕ) (marks : List ℤ) (x : Run Stop Progress (Unit {0})) → Halted RoundResource x → EndsWell (concluded seeds n marks t x).header.phase
  concluded_well seeds n marks x (completes h) = tt
  concluded_well seeds n marks x (stops {e = e} h) = numbered e.resource (inr h)

  finished_well : (x : Run Stop Beginning (Unit {0})) → Halted RunResource x → EndsWell (finished (given_of r t.header) t x).header.phase
  finished_well x (completes {s = s} h) = concluded_well r.seeds s.entry.count s.entry.table _ ((finish_halts _ _).at _)
  finished_well x (stops {e = e} h) = numbered e.resource h

  -- whatever stands in the tables: a run ends, and where it is stopped it is with 3, 8, 9 or 10
  pub ran_ends : EndsWell (ran_on (given_of r t.header) t).header.phase
  unfolding ran_on
  ran_ends = finished_well _ ((begin_halts r.seeds t.header.counts.positions).at _)

  pub ran_stops : StopsWell (ran_on (given_of r t.header) t).header.phase
  ran_stops = stops_well (ran_on (given_of r t.header) t).header.phase ran_ends

-- ---- the run as a call

-- what it reads of a store
abbrev pub given : input.Tables → Read
given t = read t.nodes t.constants t.rules t.seeds

-- tables to work in, of the sizes that it asks for, which may hold anything
pub record Fitting (w : Working) : Type 0 where
  pub current : length w.current ≡ size.argument_cells
  pub growth : length w.growth ≡ size.growth_cells
  pub scratch : length w.scratch ≡ size.scratch_cells

-- and what it is lent
abbrev pub lent : input.Tables → List ℕ → List ℕ → Tables
lent t arguments slots = tables t.header t.thresholds arguments slots

module _ (t : input.Tables) (reached : Reached t) (opened : t.header.phase ≡ Open)
    (arguments slots : List ℕ) (wide : length arguments ≡ size.argument_cells) (long : length slots ≡ size.bounds_cells) (w : Working) (fit : Fitting w) where
  -- it is not turned down
  pub run_taken : run_call (given t) w (lent t arguments slots) ≡ going tt (ran_on (given_of (given t) t.header) (lent t arguments slots))
  unfolding run_call
  run_taken =
      rw (
        eq-eqb (length t.nodes) size.node_cells reached.sized.nodes,
        eq-eqb (length t.constants) size.constant_cells reached.sized.constants,
        eq-eqb (length t.rules) size.rule_cells reached.sized.rules,
        eq-eqb (length t.seeds) size.argument_cells reached.sized.seeds,
        eq-eqb (length t.thresholds) size.thresholds reached.sized.thresholds,
        eq-eqb (length arguments) size.argument_cells wide,
        eq-eqb (length slots) size.bounds_cells long,
        eq-eqb (length w.current) size.argument_cells fit.current,
        eq-eqb (length w.growth) size.growth_cells fit.growth,
        eq-eqb (length w.scratch) size.scratch_cells fit.scratch,
        opened,
        le-leb t.header.counts.positions 256 reached.counted.positions,
        le-leb t.header.counts.rules 256 reached.counted.rules,
        le-leb t.header.counts.thresholds size.thresholds_before_run reached.counted.thresholds,
      )
      refl

  -- and completes, or stops with one of the four
  pub run_halts : Ends (λ _ u. EndsWell u.header.phase) (λ _ _. ⊥) (run_call (given t) w (lent t arguments slots))
  run_halts = rw run_taken (completes (ran_ends (given t) (lent t arguments slots)))

-- ---- calls one after another

-- a store that has not been run
pub record Ready (t : input.Tables) : Type 0 where
  pub reached : Reached t
  pub opened : t.header.phase ≡ Open

call_ready : (c : Call) → Typed c → (t : input.Tables) → Ready t → Ready (left (call c t))
call_ready c h t r = go (ends_both (call_phase t r.reached c h) (call_keeps c h t r.reached))
  where
    go : {x : Run Told input.Tables Reply} → Ends (λ _ u. (u.header.phase ≡ t.header.phase) × Goes t u) (λ e u. Unit {0} × Refused t e u) x → Ready (left x)
    go (completes p) = record { reached = p.1.reached; opened = p.0 ∙ r.opened }
    go (stops p) = record { reached = p.1.reached; opened = p.1.leaves.header.phase ∙ r.opened }

pub played_ready : (cs : List Call) → All Typed cs → (t : input.Tables) → Ready t → Ready (played t cs)
unfolding played
played_ready [] h t r = r
played_ready (c ∷ cs) h t r = played_ready cs h.1 (left (call c t)) (call_ready c h.0 t r)

fresh_ready : (l : Limits) (t : input.Tables) → fresh_of l ≡ going tt t.header → Sized t → Ready t
fresh_ready l t e z = record { reached = fresh_reached l t e z; opened = go (leb l.width 16) e }
  where
    go : (b : Bool) → cond b (going (tt {0}) (empty l Open)) (stopped (told Shape) (empty l Absent)) ≡ going (tt {0}) t.header → t.header.phase ≡ Open
    go true e = let f : empty l Open ≡ t.header = cc in rw (← f) refl
    go false e = let y : ◌≡◌ {A = ℕ} 0 1 = cc in absurd (omega arith)

-- whatever calls came before, answered or refused: the run of a fresh store is taken, and completes or stops with 3, 8, 9 or 10
pub played_halts : (l : Limits) (t : input.Tables) → fresh_of l ≡ going tt t.header → Sized t → (cs : List Call) → All Typed cs →
    (arguments slots : List ℕ) → length arguments ≡ size.argument_cells → length slots ≡ size.bounds_cells → (w : Working) → Fitting w →
    let u = played t cs in Ends (λ _ v. EndsWell v.header.phase) (λ _ _. ⊥) (run_call (given u) w (lent u arguments slots))
played_halts l t e z cs h arguments slots wide long w fit =
    let r = played_ready cs h t (fresh_ready l t e z) in run_halts (played t cs) r.reached r.opened arguments slots wide long w fit
