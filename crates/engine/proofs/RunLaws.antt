-- What the code answers of the run of an open store, and out to the call, is what the definitions say, over plain variables.
use Rattle.sizes.specs.Sizes as size
use Prim.Native.Nat.{ℕ, ◌+◌, ◌*◌, ◌≤◌, ◌<◌}
use native.Mathlib.Omega.{arith}
use mathlib.Core.Path.{◌≡◌, refl, sym, ap, ◌∙◌}
use mathlib.Core.Bool.{Bool, true}
use mathlib.Core.List.{List}
use borrow.Author.Tests.{leb-true, eqb-true}
use lib.Dec.{leb, eqb}
use lib.IntN.{ℤ}
use lib.ListN.{length, take, get_or, set, replicate}
use lib.Seq.{length-take-le}
use Rattle.integers.proofs.Stores.{Writing, writing_more, writing_all}
use Rattle.integers.proofs.Tests.{and_left, and_right}
use Rattle.limits.specs.declared.Stop.{Stop}
use Rattle.limits.specs.declared.Budget.{Budget}
use Rattle.std.proofs.Common.{Result, Ok, Err}
use Rattle.limits.specs.Refusal.{Told}
use Rattle.limits.specs.Metered.{Run, going, stopped, answered}
use Rattle.thresholds.specs.Thresholds.{entry}
use Rattle.rows.specs.Row.{padded}
use Rattle.rows.proofs.RowLaws.{length_padded, get_or_padded}
use Rattle.store.specs.declared.Phase.TheVariants.{Stopped}
use Rattle.store.specs.declared.Counts.{Counts}
use Rattle.store.specs.declared.Store.{Store}
use Rattle.store.specs.declared.Kind.TheVariants.{Running}
use Rattle.store.specs.Store.{admits}
use Rattle.sizes.specs.Sizes.{value_row, growth_row}
use Rattle.rounds.specs.Round.{Given}
use Rattle.engine.specs.Run.{Beginning, beginning, Progress, progress, finish}
use Rattle.engine.specs.Call.{Read, Tables, tables, Working, sized, results_sized, working_sized, spacious, given_of, ended_in, concluded, begun, to_end, finished, ran_on, run_call, values_of, values_after, values_left, in_rows, left_in, unless_refused, run_leaves}
use Rattle.engine.specs.Lent.{fitting}
use Rattle.engine.proofs.Kept.{begin_grown}
use Rattle.engine.proofs.Anew.{ran_anew}

-- ---- the first cells of a table in another

module _ (from : List ℕ) {count i : ℕ} where
  pub cell_moved : {r to to' : List ℕ} {x : ℕ} → i < count → Writing r to 0 (padded count from) i → x ≡ get_or from i 0 → to' ≡ set to i x → Writing r to' 0 (padded count from) (i + 1)
  cell_moved l h p q =
      let n : length (padded count from) ≡ count = length_padded count from in
      let z : 0 + i ≡ i = omega arith in
      writing_more h 0 (omega arith) (p ∙ sym (get_or_padded count from i l)) (rw z q)

  pub cells_moved : {r to : List ℕ} → Writing r to 0 (padded count from) i → count ≤ i → to ≡ r
  cells_moved h l = let n : length (padded count from) ≡ count = length_padded count from in writing_all h (omega arith)

-- ---- the run of a store that admits it

-- what an ascent and its end leave of the values, whatever they answer
values_answered : (r : Result (Unit {0}) Stop) (s : Progress) → values_of (answered r s) ≡ (s.current, s.growth)
values_answered (Ok a) s = refl
values_answered (Err e) s = refl

module _ (g : Given) (few : g.positions ≤ 256) (s : Store) (entered : List ℤ) (arguments slots current growth : List ℕ)
    (cells : length current ≡ value_row * g.positions) (rows : length growth ≡ growth_row * g.positions) (b : Budget) (n : ℕ) (marks : List ℤ) (current' growth' : List ℕ) where
  abbrev lent : Tables
  lent = tables s entered arguments slots

  abbrev to : Beginning
  to = beginning (entry b n marks) current' growth'

  anew : finished g lent (begun g lent current growth) ≡ ran_on g lent
  anew = ran_anew g lent few current growth cells rows

  module _ {e : Stop} (h : stopped e to ≡ begun g lent current growth) where
    pub open_stopped : {result : Store} → result ≡ ended_in (Stopped e s.context) b n s → tables result marks arguments slots ≡ ran_on g lent
    open_stopped e = rw e (ap (finished g lent) h ∙ anew)

    pub stopped_leaves : (current', growth') ≡ values_left g lent current growth
    unfolding values_left
    stopped_leaves = ap (values_after g lent) h

  module _ (begins : going tt to ≡ begun g lent current growth) where
    -- the thresholds stand inside their table
    pub open_marks : s.counts.thresholds + 2 ≤ length entered → length marks ≡ length entered → n ≤ length marks
    open_marks a l = omega (arith, begin_grown g.seeds g.positions (beginning (entry s.budget s.counts.thresholds entered) current growth) begins)

    pub open_taken : s.counts.thresholds + 2 ≤ length entered → length marks ≡ length entered → n ≡ length (take n marks)
    open_taken a l = sym (length-take-le n marks (open_marks a l))

    module _ (r : Result (Unit {0}) Stop) (last : Progress) {bounds : List ℕ} (cleared : bounds ≡ replicate (size.bounds_row * g.count) 0)
        (f : answered r last ≡ finish g (take n marks) (progress b s.context current' growth' bounds)) where
      ends : answered r last ≡ to_end g lent to
      ends = rw (← cleared) f

      pub open_run : {t : Tables} → t ≡ concluded g.seeds n marks lent (answered r last) → t ≡ ran_on g lent
      open_run c = c ∙ ap (concluded g.seeds n marks lent) ends ∙ ap (finished g lent) begins ∙ anew

      pub open_leaves : (last.current, last.growth) ≡ values_left g lent current growth
      unfolding values_left
      open_leaves = sym (values_answered r last) ∙ ap values_of ends ∙ ap (values_after g lent) begins

-- ---- the call

module _ (r : Read) (w : Working) (t : Tables) where
  -- the arguments' rows as the run leaves them
  taken_leaves : {u : Tables} → going tt u ≡ run_call r w t → left_in (given_of r t.header) t w ≡ run_leaves r w t
  unfolding run_leaves
  taken_leaves h = ap (λ (x : Run Told Tables (Unit {0})). unless_refused x (left_in (given_of r t.header) t w) (w.current, w.growth)) h

module _ (r : Read) (s : Store) (marks : List ℤ) (arguments slots : List ℕ) (w : Working) {x y v z f : Bool}
    (p : x ≡ sized (length r.nodes) (length r.constants) (length r.rules) (length r.seeds) (length marks)) (a : x ≡ true) (q : y ≡ results_sized (length arguments) (length slots)) (b : y ≡ true)
    (o : v ≡ working_sized (length w.current) (length w.growth) (length w.scratch)) (l : v ≡ true) (i : z ≡ admits Running s.phase) (c : z ≡ true) (j : f ≡ spacious s.counts) (e : f ≡ true)
    (g : Given) (given : g ≡ given_of r s) {t : Tables} (k : t ≡ ran_on g (tables s marks arguments slots)) where
  pub run_on : going tt t ≡ run_call r w (tables s marks arguments slots)
  unfolding run_call
  run_on = rw (← p, a, ← q, b, ← o, l, ← i, c, ← j, e, k, given)

  -- the cells behind the arguments' rows stay
  pub run_left : (left : List ℕ × List ℕ) → left ≡ values_left g (tables s marks arguments slots) (take (value_row * g.positions) w.current) (take (growth_row * g.positions) w.growth) →
      in_rows (value_row * g.positions) (growth_row * g.positions) w left ≡ run_leaves r w (tables s marks arguments slots)
  run_left left h =
      ap (in_rows (value_row * g.positions) (growth_row * g.positions) w) h
      ∙ ap (λ (g : Given). left_in g (tables s marks arguments slots) w) given
      ∙ taken_leaves r w (tables s marks arguments slots) run_on

-- what the tests give the run behind them
pub run_room : (nodes constants rules seeds thresholds : ℕ) (n : Counts) {x y : Bool} → x ≡ sized nodes constants rules seeds thresholds → x ≡ true → y ≡ spacious n → y ≡ true →
    (n.rules ≤ 256) × ((n.thresholds + 2 ≤ thresholds) × (n.positions ≤ 256))
run_room nodes constants rules seeds thresholds n p a q b =
    let t : eqb thresholds size.thresholds ≡ true =
    and_right (eqb seeds size.argument_cells) _ (and_right (eqb rules size.rule_cells) _ (and_right (eqb constants size.constant_cells) _ (and_right (eqb nodes size.node_cells) _ (sym p ∙ a)))) in
    let u : leb n.rules 256 ≡ true = and_left (leb n.rules 256) _ (and_right (leb n.positions 256) _ (sym q ∙ b)) in
    let v : leb n.thresholds size.thresholds_before_run ≡ true = and_right (leb n.rules 256) _ (and_right (leb n.positions 256) _ (sym q ∙ b)) in
    let w : leb n.positions 256 ≡ true = and_left (leb n.positions 256) _ (sym q ∙ b) in
    (leb-true n.rules 256 u, (omega (arith, eqb-true thresholds size.thresholds t, leb-true n.thresholds size.thresholds_before_run v), leb-true n.positions 256 w))

-- and that the tables that it works in have the cells which are lent further
pub run_cells : (w : Working) {x : Bool} → x ≡ working_sized (length w.current) (length w.growth) (length w.scratch) → x ≡ true →
    (length w.current ≡ size.argument_cells) × ((length w.growth ≡ size.growth_cells) × (length w.scratch ≡ size.scratch_cells))
run_cells w p a =
    let h : working_sized (length w.current) (length w.growth) (length w.scratch) ≡ true = sym p ∙ a in
    let k = and_right (eqb (length w.current) size.argument_cells) _ h in (
      eqb-true (length w.current) size.argument_cells (and_left (eqb (length w.current) size.argument_cells) _ h),
      (eqb-true (length w.growth) size.growth_cells (and_left (eqb (length w.growth) size.growth_cells) _ k), eqb-true (length w.scratch) size.scratch_cells (and_right (eqb (length w.growth) size.growth_cells) _ k)),
    )

pub run_fits : (g : Given) → g.positions ≤ 256 → g.count ≤ 256 → (current growth bounds scratch : List ℕ) → length current ≡ size.argument_cells → length growth ≡ size.growth_cells →
    length bounds + size.pass_cells ≡ size.scratch_cells → length scratch ≡ size.pass_cells →
    fitting g (take (value_row * g.positions) current) (take (growth_row * g.positions) growth) (take (size.bounds_row * g.count) bounds) scratch
run_fits g few rules current growth bounds scratch c d e f =
    (length-take-le (value_row * g.positions) current (omega arith), (length-take-le (growth_row * g.positions) growth (omega arith), (length-take-le (size.bounds_row * g.count) bounds (omega arith), f)))
