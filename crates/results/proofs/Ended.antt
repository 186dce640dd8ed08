-- The end of a run: the values are those of one more round, and live entries are those of the values whichever way it ends.
use Prim.Native.Nat.{ℕ, zero, suc, ◌+◌, ◌<◌, ◌^◌}
use native.Mathlib.Omega.{arith}
use mathlib.Core.Path.{◌≡◌, refl}
use mathlib.Core.Bool.{Bool, true, false}
use mathlib.Core.List.{List}
use Rattle.integers.specs.Lists.{All}
use Rattle.limits.specs.declared.Resource.TheVariants.{Work}
use Rattle.limits.specs.Budget.{work, released}
use Rattle.limits.proofs.Ends.{Ends, completes, ends_then, ends_through, ends_as, on_bind, on_then}
use Rattle.interval.specs.declared.Bound.{Bound}
use Rattle.rows.specs.Row.{value_at, moved}
use Rattle.rules.specs.Read.{slots_at}
use Rattle.slots.specs.Slots.{total}
use Rattle.slots.proofs.Live.{Formed}
use Rattle.evaluation.specs.Evaluation.{Input}
use Rattle.rounds.specs.declared.Course.{Course}
use Rattle.rounds.specs.Round.{Given, Standing, standing, charging, each_rule, course, candidates}
use Rattle.limits.proofs.Charging.{charge_ends}
use Rattle.rounds.proofs.Brings.{Brings, brings_pure, brings_then, brings_step, brings_locals, Stands, rules_keep}
use Rattle.slots.proofs.Moved.{length_moved, moved_row, moved_formed, moved_total}
use Rattle.rounds.proofs.Live.{Fit, Legible, local_live, Room}
use Rattle.results.specs.Result.{keeping, keep_bounds, keep_both, bound, close, taking, last_round, Ending, ending, closing, last}

-- ---- the bounds of the rules' slots: a table without entries

abbrev nothing : List ℕ → ℕ
nothing rows = 0

abbrev Any : List ℕ → Type 0
Any rows = Unit {0}

keeping_brings : (id slot : ℕ) (after : Bool) (b : Bound) → Brings nothing Any Any (keeping id slot after b)
keeping_brings id slot after b = record { at = λ e s h p. completes (h, tt) }

keep_brings : (rows : List ℕ) (id : ℕ) (after : Bool) (k n : ℕ) → Brings nothing Any Any (keep_bounds rows id after k n)
unfolding keep_bounds
keep_brings rows id after k zero = brings_pure
keep_brings rows id after k (suc n) = brings_then (brings_step (keeping_brings id k after (value_at rows k).bound)) (keep_brings rows id after (k + 1) n)

bound_brings : (i : Input) → All (λ c. c < 2 ^ 32) i.constants → (n : ℕ) (rules current : List ℕ) → Formed current → (id : ℕ) → Fit n i rules id → Brings nothing Any Any (bound i rules current id)
unfolding bound keep_both
bound_brings i small n rules current formed id fit =
    brings_locals i rules id current Legible (local_live i small fit current formed)
    (λ l _. brings_then (keep_brings l.domains id false 0 (slots_at rules id)) (keep_brings l.produced id true 0 (slots_at rules id)))

-- no entries come or go
pub close_live : (i : Input) → All (λ c. c < 2 ^ 32) i.constants → (n : ℕ) (rules : List ℕ) (count positions : ℕ) (current : List ℕ) → Formed current → ((id : ℕ) → id < count → Fit n i rules id) →
    (e : ℕ) (s : Standing) → s.budget.statistics.entries ≡ e → Ends (λ _ t. t.budget.statistics.entries ≡ e) (λ _ t. t.budget.statistics.entries ≡ e) (close i rules count positions current s)
unfolding close
close_live i small n rules count positions current formed fits e s q =
    ends_then {P = λ _ t. Stands nothing e t × Any t.rows} {Q = λ _ t. Stands nothing e t} (each_rule rules (bound i rules current) 0 count) (charging (work positions)) s
    (rules_keep rules (bound i rules current) nothing Any e 0 count (λ id l. bound_brings i small n rules current formed id (fits id (omega arith))) s (omega arith) tt)
    (λ _ t p.
    ends_through (λ u. u.budget) (λ u b. standing b u.context u.rows) (λ u b. standing b u.context u.rows) (λ x. x) (work positions) t (charge_ends Work positions t.budget)
    (λ _ b z. rw z (omega (arith, p.0))) (λ _ b z. rw z.1 (omega (arith, p.0))))
    (λ _ t p. omega arith)

-- ---- the last round

-- the values are those of a round that X holds of
pub record Rounded (X : List ℕ → Type 0) (e n : ℕ) (entries : ℕ) (values : List ℕ) : Type 0 where
  pub result : List ℕ
  pub is : X result
  pub live : entries ≡ e + total values n
  pub room : Room n values
  pub rows : (a : ℕ) → a < n → value_at values a ≡ value_at result a

module _ (g : Given) (X : List ℕ → Type 0) (formed : (rows : List ℕ) → X rows → Formed rows) (e : ℕ) where
  pub last_round_ends : (s : Standing) → Room g.positions s.rows → s.budget.statistics.entries ≡ e + total s.rows g.positions →
      ((c : Course) → c.budget.statistics.entries ≡ e + total s.rows g.positions →
      Ends (λ rows d. (d.budget.statistics.entries ≡ e + total s.rows g.positions + total rows g.positions) × X rows) (λ _ d. d.budget.statistics.entries ≡ e + total s.rows g.positions) (candidates g s.rows c)) →
      Ends (λ _ t. Rounded X e g.positions t.budget.statistics.entries t.rows) (λ _ t. t.budget.statistics.entries ≡ e + total t.rows g.positions) (last_round g s)
  unfolding last_round
  last_round_ends s r q round =
      on_bind (λ t. course t.budget t.context) (λ t c. standing c.budget c.context t.rows) (λ t c. standing c.budget c.context t.rows) (λ x. x) (candidates g s.rows) (taking g.positions) s
      (round (course s.budget s.context) q)
      (λ rows d p.
      completes {s = standing (released (total s.rows g.positions) d.budget) d.context (moved rows g.positions s.rows)} record {
        result = rows;
        is = p.1;
        live = omega (arith, p.0, moved_total rows s.rows (formed rows p.1) g.positions r.0);
        room = (omega (arith, r.0, length_moved rows s.rows g.positions), moved_formed rows s.rows (formed rows p.1) g.positions r.0 r.1);
        rows = λ a l. moved_row rows s.rows (formed rows p.1) g.positions a r.0 l;
      })
      (λ _ d p. p)

-- ---- both

pub closing_live : (g : Given) → All (λ c. c < 2 ^ 32) g.input.constants → ((id : ℕ) → id < g.count → Fit g.positions g.input g.rules id) → (s : Ending) → Formed s.current →
    Ends (λ _ t. (t.budget.statistics.entries ≡ s.budget.statistics.entries) × (t.current ≡ s.current)) (λ _ t. (t.budget.statistics.entries ≡ s.budget.statistics.entries) × (t.current ≡ s.current)) (closing g s)
unfolding closing
closing_live g small fits s formed =
    ends_through (λ t. standing t.budget t.context t.bounds) (λ t u. ending u.budget u.context t.current u.rows) (λ t u. ending u.budget u.context t.current u.rows) (λ x. x)
    (close g.input g.rules g.count g.positions s.current) s
    (close_live g.input small g.positions g.rules g.count g.positions s.current formed fits s.budget.statistics.entries (standing s.budget s.context s.bounds) refl)
    (λ _ u z. (z, refl)) (λ _ u z. (z, refl))

module _ (g : Given) (small : All (λ c. c < 2 ^ 32) g.input.constants) (fits : (id : ℕ) → id < g.count → Fit g.positions g.input g.rules id) (X : List ℕ → Type 0) (formed : (rows : List ℕ) → X rows → Formed rows) (e : ℕ) where
  pub last_ends : (s : Ending) → Room g.positions s.current → s.budget.statistics.entries ≡ e + total s.current g.positions →
      ((c : Course) → c.budget.statistics.entries ≡ e + total s.current g.positions →
      Ends (λ rows d. (d.budget.statistics.entries ≡ e + total s.current g.positions + total rows g.positions) × X rows) (λ _ d. d.budget.statistics.entries ≡ e + total s.current g.positions) (candidates g s.current c)) →
      Ends (λ _ t. Rounded X e g.positions t.budget.statistics.entries t.current) (λ _ t. t.budget.statistics.entries ≡ e + total t.current g.positions) (last g s)
  unfolding last
  last_ends s r q round =
      on_then (λ t. standing t.budget t.context t.current) (λ t u. ending u.budget u.context u.rows t.bounds) (λ t u. ending u.budget u.context u.rows t.bounds) (λ x. x)
      (last_round g) (closing g) s (last_round_ends g X formed e (standing s.budget s.context s.current) r q round)
      (λ _ u p.
      ends_as (closing_live g small fits (ending u.budget u.context u.rows s.bounds) p.room.1)
      (λ _ t z. rw (z.0, z.1) p) (λ _ t z. rw (z.0, z.1) p.live))
      (λ _ u p. p)
