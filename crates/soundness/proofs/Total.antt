-- CR 14: `entry_total`, `entry_total_code`. As long as a store is open, one whose tables have their sizes stands beside it; where the run ends, the live
-- entries are those of the reported lists or those of the seeds, and from then on nothing changes.
use Rattle.sizes.specs.Sizes as size
use Prim.Native.Nat.{ℕ, zero, suc, ◌+◌, ◌≤◌, ◌<◌}
use native.Mathlib.Omega.{arith}
use mathlib.Core.Path.{◌≡◌, refl, sym, ap, subst, ◌∙◌}
use mathlib.Core.Bool.{Bool, true, false}
use mathlib.Core.Logic.{⊎_elim}
use mathlib.Core.List.{List, [], ◌∷◌}
use borrow.Author.Tests.{eqb-true, eq-eqb, lt-ltb}
use lib.Dec.{eqb}
use lib.ListN.{length}
use Rattle.std.specs.Prelude.{min, sum_by}
use Rattle.std.specs.List.{range_with_len}
use Rattle.std.proofs.lemmas.List.Sums.{sum_by-cons}
use Rattle.integers.specs.Lists.{All}
use Rattle.integers.proofs.Tests.{and_left, and_right}
use Rattle.limits.specs.declared.Limits.{Limits}
use Rattle.limits.specs.declared.Stop.{Stop}
use Rattle.limits.specs.declared.Refusal.TheVariants.{Shape}
use Rattle.limits.specs.Refusal.{Told, told}
use Rattle.limits.specs.Context.{Context}
use Rattle.limits.specs.Metered.{Run}
use Rattle.limits.proofs.Ends.{Ends, completes, stops}
use Rattle.rows.specs.Row.{entries_of, value_at}
use Rattle.slots.specs.Slots.{total}
use Rattle.store.specs.declared.Phase.TheVariants.{Absent, Open, Completed, Stopped}
use Rattle.store.specs.declared.Store.{Store}
use Rattle.store.specs.declared.Kind.TheVariants.{Running}
use Rattle.store.specs.Store.{admits}
use Rattle.engine.specs.Call.{Working, sized, results_sized, working_sized}
use Rattle.engine.specs.Call as engine
use Rattle.input.specs.Input.{with_header}
use Rattle.input.specs.Input as input
use Rattle.numeric.specs.Reading.{argument_reading}
use Rattle.numeric.specs.Step.{Call, State, Stepped, stepped, Event, store, run, reading, for_run, from_run, on_store, on_run, ask, step, fresh, header_of}
use Rattle.numeric.specs.Step as calls
use Rattle.text.specs.Text.{decimal}
use Rattle.numeric.specs.Reading.{given}
use Rattle.store.specs.declared.Phase.{Phase}
use Rattle.report.specs.Report.{completed_lines, stopped_lines, report_in, report_sized, report_of}
use Rattle.report.specs.Seen.{ids_printed, totals_printed}
use Rattle.report.proofs.ReportLaws.{report_phase}
use Rattle.report.proofs.Seen.{completed_seen, stopped_seen}
use Rattle.soundness.specs.Run.{Accepted, accepted, said}
use Rattle.soundness.specs.Fits.{fits, fits_run}
use Rattle.soundness.specs.Claim.{Typed, Lent}
use Rattle.soundness.specs.Code.{leaves, Exchanges, none, next, other}
use Rattle.soundness.specs.Total.{left, left_by, entries, length_read, over_arguments, seeded, Prints, Total, EntryTotal, EntryTotalCode}
use Rattle.soundness.proofs.Ran.{Ran, ended, halted}
use Rattle.soundness.proofs.Ties.{Tied}
use Rattle.soundness.proofs.TiedKeys.{grounded}
use Rattle.soundness.proofs.AnySize.{unfit_step, fit_step, run_same, run_kept, Beside, mend, mend_sized, mend_lent, mend_beside}
use Rattle.soundness.proofs.Theorem.{reading_after, closed_step, store_keeps, run_runs, call_ties, fresh_begins}
use Rattle.soundness.proofs.Coded.{exchange_steps, begun_header}

-- ---- sums over arguments

sum_same : (f g : ℕ → ℕ) (a n : ℕ) → ((i : ℕ) → i < a + n → f i ≡ g i) → sum_by f (range_with_len a n) ≡ sum_by g (range_with_len a n)
sum_same f g a zero h = refl
sum_same f g a (suc n) h =
    omega (arith, sum_by-cons f a (range_with_len (a + 1) n), sum_by-cons g a (range_with_len (a + 1) n), h a (omega arith), sum_same f g (a + 1) n (λ i l. h i (omega arith)))

sum_from : (rows : List ℕ) (a n : ℕ) → total rows (a + n) ≡ total rows a + sum_by (λ i. entries_of (value_at rows i)) (range_with_len a n)
unfolding total
sum_from rows a zero = let e : a + 0 ≡ a = omega arith in rw e (omega arith)
sum_from rows a (suc n) =
    let e : a + suc n ≡ (a + 1) + n = omega arith in
    let d : a + 1 ≡ suc a = omega arith in
    omega (arith, ap (total rows) e, ap (total rows) d, sum_from rows (a + 1) n, sum_by-cons (λ i. entries_of (value_at rows i)) a (range_with_len (a + 1) n))

sum_rows : (rows : List ℕ) (n : ℕ) → total rows n ≡ sum_by (λ i. entries_of (value_at rows i)) (range_with_len 0 n)
unfolding total
sum_rows rows n = let e : 0 + n ≡ n = omega arith in omega (arith, ap (total rows) e, sum_from rows 0 n)

-- ---- a state whose run has ended

module _ (s : State) where
  abbrev n : ℕ
  n = s.tables.header.counts.positions

  module _ (a : length s.arguments ≡ size.argument_cells) (r : length s.tables.rules ≡ size.rule_cells) (b : length s.slots ≡ size.bounds_cells) where
    printed : {ph : Phase} (f : List (List ℕ) → ℕ) (lines : List (List ℕ)) → s.tables.header.phase ≡ ph → report_in ph s.tables.header s.arguments s.tables.rules s.slots ≡ given lines →
        (report_of s.tables.header s.arguments s.tables.rules s.slots ≡ given lines → totals_printed lines ≡ decimal (f lines) ∷ []) → Prints s f
    printed f lines e is seen =
        let r = report_phase s.tables.header s.arguments s.tables.rules s.slots report_sizes e ∙ is in (lines, r, seen r)
      where
        report_sizes : report_sized (length s.arguments) (length s.tables.rules) (length s.slots) ≡ true
        report_sizes = rw (eq-eqb (length s.arguments) size.argument_cells a, eq-eqb (length s.tables.rules) size.rule_cells r, eq-eqb (length s.slots) size.bounds_cells b)

    total_completed : s.tables.header.phase ≡ Completed → n ≤ size.positions → entries s ≡ total s.arguments n → Total s
    unfolding argument_reading
    total_completed e few live = record {
      completed = λ _. counted ∙ sym (sum_same _ _ 0 n (λ i l. read i (omega arith)));
      completed_prints = λ _. printed ids_printed lines e refl (λ q. seen (completed_seen s.tables.header s.arguments s.tables.rules s.slots lines q e));
      stopped = λ q. let z : ◌≡◌ {A = ℕ} 0 1 = cc in absurd (omega arith);
      stopped_prints = λ q. let z : ◌≡◌ {A = ℕ} 0 1 = cc in absurd (omega arith);
    }
      where
        counted : entries s ≡ over_arguments s (λ i. entries_of (value_at s.arguments i))
        counted = live ∙ sum_rows s.arguments n

        read : (i : ℕ) → i < n → length_read (argument_reading s.tables.header s.arguments i) ≡ entries_of (value_at s.arguments i)
        read i l = rw (eq-eqb (length s.arguments) size.argument_cells a, e, lt-ltb i n l) refl

        lines : List (List ℕ)
        lines = completed_lines s.tables.header s.arguments s.tables.rules s.slots

        seen : (totals_printed lines ≡ decimal (entries s) ∷ []) × (ids_printed lines ≡ sum_by (λ i. entries_of (value_at s.arguments i)) (range_with_len 0 (min n size.positions))) →
            totals_printed lines ≡ decimal (ids_printed lines) ∷ []
        seen q = let m : min n size.positions ≡ n = omega arith in let i = rw m at q.1 in q.0 ∙ ap (λ (k : ℕ). decimal k ∷ []) (counted ∙ sym i)

    total_stopped : {stop : Stop} {c : Context} → s.tables.header.phase ≡ Stopped stop c → entries s ≡ total s.tables.seeds n → Total s
    total_stopped {stop} e live =
        let counted : entries s ≡ seeded s = live ∙ sum_rows s.tables.seeds n in
        record {
          completed = λ q. let z : ◌≡◌ {A = ℕ} 0 1 = cc in absurd (omega arith);
          completed_prints = λ q. let z : ◌≡◌ {A = ℕ} 0 1 = cc in absurd (omega arith);
          stopped = λ _. counted;
          stopped_prints = λ _. printed (λ _. seeded s) (stopped_lines s.tables.header stop) e refl (λ q. stopped_seen s.tables.header s.arguments s.tables.rules s.slots _ q e ∙ ap (λ (k : ℕ). decimal k ∷ []) counted);
        }

-- ---- one call more

-- an open store, beside which one stands whose tables have their sizes; or one that admits no run, whose count is as claimed
data Tracked (s : State) : Type 0 where
  building : (p : Accepted) (s' : State) → Beside s s' → s'.tables.header.phase ≡ Open → Tied p s'.tables → Tracked s
  closed : admits Running s.tables.header.phase ≡ false → Total s → Tracked s

-- the sizes of the tables that a run is lent
record RunSized (s : State) : Type 0 where
  arguments : length s.arguments ≡ size.argument_cells
  rules : length s.tables.rules ≡ size.rule_cells
  slots : length s.slots ≡ size.bounds_cells
  seeds : length s.tables.seeds ≡ size.argument_cells

run_sizes : (w : Working) (s : State) → fits_run w s ≡ true → RunSized s
run_sizes w s e =
    let nodes = eqb (length s.tables.nodes) size.node_cells in
    let constants = eqb (length s.tables.constants) size.constant_cells in
    let rules = eqb (length s.tables.rules) size.rule_cells in
    let seeds = eqb (length s.tables.seeds) size.argument_cells in
    let all = sized (length s.tables.nodes) (length s.tables.constants) (length s.tables.rules) (length s.tables.seeds) (length s.tables.thresholds) in
    let read_all = and_left all _ e in
    let written = and_left (results_sized (length s.arguments) (length s.slots)) _ (and_right all _ e) in
    record {
      arguments = eqb-true _ _ (and_left (eqb (length s.arguments) size.argument_cells) _ written);
      rules = eqb-true _ _ (and_left rules _ (and_right constants _ (and_right nodes _ read_all)));
      slots = eqb-true _ _ (and_right (eqb (length s.arguments) size.argument_cells) _ written);
      seeds = eqb-true _ _ (and_left seeds _ (and_right rules _ (and_right constants _ (and_right nodes _ read_all))));
    }

module _ (p : Accepted) (s s' : State) (h : Beside s s') (o : s'.tables.header.phase ≡ Open) (t : Tied p s'.tables) where
  store_tracked : (c : input.Call) → input.Typed c → Beside (step (store c) s).after (step (store c) s').after → Tracked (step (store c) s).after
  unfolding step
  store_tracked c h b = go (input.call c s'.tables) (store_keeps call_ties (λ p t. grounded) p s' o t c h) b
    where
      go : (x : Run Told input.Tables input.Reply) → Ends (λ r u. Tied (said p c r) u × (u.header.phase ≡ Open)) (λ _ u. Tied p u × (u.header.phase ≡ Open)) x → Beside (on_store s (input.call c s.tables)).after (on_store s' x).after →
          Tracked (on_store s (input.call c s.tables)).after
      go x (completes {s = u} q) b = building _ (on_store s' x).after b q.1 q.0
      go x (stops {s = u} q) b = building _ (on_store s' x).after b q.1 q.0

  run_tracked : (w : Working) → fits (run w) s ≡ true → Tracked (step (run w) s).after
  unfolding step
  run_tracked w e =
      subst (λ (x : Run Told engine.Tables (Unit {0})). Tracked (on_run s x).after) (sym (run_same s s' h w e))
      (go (engine.run_call (engine.read s'.tables.nodes s'.tables.constants s'.tables.rules s'.tables.seeds) w (for_run s')) (run_runs call_ties (λ p t. grounded) p s' o t w))
    where
      sizes : RunSized s
      sizes = run_sizes w s e

      wide' : length s'.arguments ≡ size.argument_cells
      wide' = sym (ap length (h.arguments sizes.arguments)) ∙ sizes.arguments

      long' : length s'.slots ≡ size.bounds_cells
      long' = sym (ap length (h.slots sizes.slots)) ∙ sizes.slots

      few : s'.tables.header.counts.positions ≤ size.positions
      few = t.reached.counted.positions

      go : (x : Run Told engine.Tables (Unit {0})) → Ends (λ _ u. Ran (grounded t) (for_run s') u) (λ _ u. u ≡ for_run s') x → Tracked (on_run s x).after
      go x (completes {s = u} (ended ph k live holds wide long)) =
          closed (rw ph refl)
          (total_completed (from_run u s) (wide ∙ wide') sizes.rules (long ∙ long') ph (omega (arith, k, few)) (live ∙ ap (total u.arguments) (sym k)))
      go x (completes {s = u} (halted ph k live a b)) =
          closed (rw ph refl)
          (total_stopped (from_run u s) (ap length a ∙ wide') sizes.rules (ap length b ∙ long') ph
          (live ∙ (ap (λ (rows : List ℕ). total rows s'.tables.header.counts.positions) (sym (h.seeds sizes.seeds)) ∙ ap (total s.tables.seeds) (sym k))))
      go x (stops {s = u} q) = subst (λ (v : engine.Tables). Tracked (from_run v s)) (sym q) (building p s' (run_kept s s' h (for_run s')) o t)

  call_tracked : (c : Call) → Typed c → (b : Bool) → fits c s ≡ b → Tracked (step c s).after
  unfolding step
  call_tracked c y false e = subst Tracked (sym (ap (λ (x : Stepped). x.after) (unfit_step c s e))) (building p s' h o t)
  call_tracked (store c) y true e = store_tracked c y (fit_step s s' h (store c) e).after
  call_tracked (run w) y true e = run_tracked w e
  call_tracked (reading q) y true e = subst Tracked (sym (reading_after s (ask q s))) (building p s' h o t)

step_tracked : (c : Call) → Typed c → (s : State) → Tracked s → Tracked (step c s).after
step_tracked c y s (building p s' h o t) = call_tracked p s s' h o t c y (fits c s) refl
step_tracked c y s (closed a z) = subst Tracked (sym (closed_step (accepted [] [] [] []) s a c).after) (closed a z)

-- where no run has ended there is no total to tell
no_total : (s : State) → (s.tables.header.phase ≡ Completed → ⊥) → ((e : Stop) (c : Context) → s.tables.header.phase ≡ Stopped e c → ⊥) → Total s
no_total s f g = record { completed = λ q. absurd (f q); completed_prints = λ q. absurd (f q); stopped = λ q. absurd (g _ _ q); stopped_prints = λ q. absurd (g _ _ q) }

tracked_total : (s : State) → Tracked s → Total s
tracked_total s (closed a z) = z
tracked_total s (building p s' h o t) =
    let e : s.tables.header.phase ≡ Open = ap (λ (x : Store). x.phase) h.header ∙ o in
    no_total s (λ q. let z : ◌≡◌ {A = ℕ} 0 1 = cc in omega arith) (λ _ _ q. let z : ◌≡◌ {A = ℕ} 0 1 = cc in omega arith)

absent_total : (s : State) → s.tables.header.phase ≡ Absent → Total s
absent_total s e = no_total s (λ q. let z : ◌≡◌ {A = ℕ} 0 1 = cc in omega arith) (λ _ _ q. let z : ◌≡◌ {A = ℕ} 0 1 = cc in omega arith)

fresh_tracked : (l : Limits) (s : State) → Lent s.tables → Tracked (fresh l s)
fresh_tracked l s z =
    ⊎_elim (λ q. building (accepted [] [] [] []) (fresh l (mend s)) (mend_beside s l) q.0 q.1) (λ e. closed (rw e refl) (absent_total (fresh l s) e))
    (fresh_begins l (mend s) (mend_sized s) (mend_lent s z))

-- ---- lists of calls

play_tracked : (cs : List Call) → All Typed cs → (s : State) → Tracked s → Tracked (left s cs)
unfolding left
play_tracked [] h s t = t
play_tracked (c ∷ cs) h s t = play_tracked cs h.1 (step c s).after (step_tracked c h.0 s t)

pub entry_total : EntryTotal
entry_total l s z cs h = tracked_total _ (play_tracked cs h (fresh l s) (fresh_tracked l s z))

code_tracked : {s : State} {es : List Event} (x : Exchanges s es) → All (λ e. Typed e.call) es → Tracked s → Tracked (left_by x)
unfolding left_by
code_tracked none h t = t
code_tracked {s} (next {c = c} x xs) h t = code_tracked xs h.1 (subst Tracked (sym (ap (λ (d : Stepped). d.after) (exchange_steps x))) (step_tracked c h.0 s t))
code_tracked {s} (other {x = x} {y = y} {c = c} {a = a} f e r xs) h t =
    let i : stepped a y ≡ stepped (calls.refused (told Shape)) x = exchange_steps r ∙ unfit_step c x e in
    let same : y.tables.header ≡ s.tables.header = ap (λ (d : Stepped). d.after.tables.header) i ∙ f in
    code_tracked xs h.1 (subst (λ (v : Store). Tracked (leaves s (with_header v s.tables))) (sym same) t)

pub entry_total_code : EntryTotalCode
entry_total_code l a₀ h₀ b s z es x h =
    tracked_total _ (code_tracked x h (subst (λ (u : Store). Tracked (leaves s (with_header u s.tables))) (sym (begun_header b)) (fresh_tracked l s z)))
