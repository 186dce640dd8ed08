-- Live entries of a round: beside those before, the lists of its result where it completes, and none where it is stopped.
use Prim.Native.Nat.{ℕ, zero, suc, ◌+◌, ◌*◌, ◌≤◌, ◌<◌, ◌^◌}
use native.Mathlib.Omega.{arith}
use mathlib.Core.Path.{◌≡◌, refl, ◌∙◌}
use mathlib.Core.List.{List, [], ◌∷◌}
use mathlib.Core.Option.{none}
use lib.ListN.{length, get_or, drop, replicate, length-replicate}
use Rattle.integers.specs.Lists.{All}
use Rattle.integers.proofs.Stores.{all_get_d}
use Rattle.limits.specs.declared.Stop.{Stop}
use Rattle.limits.specs.declared.Resource.TheVariants.{Rounds}
use Rattle.limits.specs.Metered.{Run}
use Rattle.limits.specs.declared.Meter.{Meter}
use Rattle.limits.specs.Meter.{meter_of, with_meter, work}
use Rattle.limits.specs.Budget.{released, round}
use Rattle.limits.proofs.Monad.{any_value, weaken}
use Rattle.limits.proofs.Ends.{Ends, completes, stops, ends_through, ends_as, on_then}
use Rattle.limits.proofs.Live.{live_work, live_ends}
use Rattle.sizes.specs.Sizes.{value_row}
use Rattle.rows.specs.Row.{padded, decode, value_at}
use Rattle.rows.proofs.RowLaws.{value_formed, row_cell, length_put}
use Rattle.rows.proofs.Good.{Good, join_good}
use Rattle.rows.specs.WellFormed.{Proper}
use Rattle.rules.specs.declared.Head.{Head}
use Rattle.rules.specs.Read.{slots_at, bindings_at, guards_at, heads_at}
use Rattle.slots.specs.Slots.{Slots, slots, blank, total, copies}
use Rattle.slots.proofs.Live.{Formed, formed_put, Held, SlotIn, copies_ends}
use Rattle.refinements.specs.Refinement.{refinements_of}
use Rattle.refinements.proofs.Theorems.{refinements_proper}
use Rattle.evaluation.specs.Evaluation.{Input}
use Rattle.guards.proofs.Live.{GuardIn}
use Rattle.transfer.specs.Transfer.{Frame, frame, rule}
use Rattle.transfer.proofs.Live.{Filled, Lent, rule_ends, head_good}
use Rattle.rounds.specs.Locals.{Locals, locals, fill, blank_frame, locals_of, own_locals}
use Rattle.rounds.specs.declared.Course.{Course}
use Rattle.rounds.specs.Round.{Given, Standing, standing, holding_rows, each_rule, join_head, apply, produce, image, course, candidates_of, candidates}
use Rattle.limits.proofs.Charging.{charge_ends}
use Rattle.rounds.proofs.Brings.{Brings, rows_of, held, brings_each, brings_locals, Stands, rules_keep}
use Rattle.rounds.proofs.Joined.{brings_head}

-- what a rule names stays inside its tables: slots below their number, arguments below n
pub record Fit (n : ℕ) (i : Input) (rules : List ℕ) (id : ℕ) : Type 0 where
  pub bindings : All (SlotIn (slots_at rules id)) (bindings_at rules id)
  pub guards : All (GuardIn (slots_at rules id) i) (guards_at rules id)
  pub heads : All (λ h. h.argument < n) (heads_at rules id)

-- ---- a table that nothing stands in yet

all_zero : (P : ℕ → Type 0) → P 0 → (n : ℕ) → All P (replicate n 0)
all_zero P p zero = tt
all_zero P p (suc n) = (p, all_zero P p n)

small_zero : (n : ℕ) → All (λ c. c < 2 ^ 32) (replicate n 0)
small_zero n = all_zero (λ c. c < 2 ^ 32) (omega arith) n

-- a row of zeros has no list
no_list : (n i : ℕ) → (value_at (replicate n 0) i).values ≡ none
unfolding value_at decode
no_list n i = let e : get_or (padded value_row (drop (value_row * i) (replicate n 0))) 4 0 ≡ 0 = row_cell (replicate n 0) (value_row * i) 4 (omega arith) ∙ all_get_d (λ c. c ≡ 0) (replicate n 0) (value_row * i + 4) 0 (all_zero (λ c. c ≡ 0) refl n) refl in rw e

pub blank_formed : (n : ℕ) → Formed (replicate n 0)
blank_formed n i =
    let e = no_list n i in
    record { formed = value_formed (replicate n 0) i (small_zero n); tidy = record { sorted = rw e tt; small = rw e tt } }

lent : (n : ℕ) (m : Meter) → Lent n (blank_frame n m)
lent n m = record {
  before = rw (length-replicate {A = ℕ} (value_row * n) 0) (omega arith);
  after = rw (length-replicate {A = ℕ} (value_row * n) 0) (omega arith);
  domains = blank_formed (value_row * n);
  produced = blank_formed (value_row * n);
  refinements = small_zero 256;
}

-- ---- a rule's slots

-- what a head reads of them
pub record Legible (l : Locals) : Type 0 where
  pub produced : Formed l.produced
  pub known : All (λ r. Proper r.restriction) l.known

module _ (i : Input) (small : All (λ c. c < 2 ^ 32) i.constants) {n : ℕ} {rules : List ℕ} {id : ℕ} (fit : Fit n i rules id) (arguments : List ℕ) (formed : Formed arguments) where
  pub fill_live : (e : ℕ) (s : Frame) → Lent (slots_at rules id) s → s.meter.entries ≡ e → Ends (λ _ t. Filled (slots_at rules id) e t) (λ _ t. t.meter.entries ≡ e) (fill i rules id arguments s)
  unfolding fill
  fill_live e s h q =
      on_then (λ t. t.meter) (λ t m. frame m t.domains t.produced t.refinements) (λ t m. frame m t.domains t.produced t.refinements) (λ x. x) (work 1) (rule i rules id arguments) s
      (live_ends (live_work 1) (any_value (work 1)) s.meter)
      (λ _ m z.
      rule_ends i small rules id fit.guards arguments formed fit.bindings e (frame m s.domains s.produced s.refinements)
      record { before = h.before; after = h.after; domains = h.domains; produced = h.produced; refinements = h.refinements } (omega (arith, z.1)))
      (λ _ m z. omega arith)

  pub local_live : (m : Meter) → Ends (λ l k. (k.entries ≡ m.entries + held (slots_at rules id) l) × Legible l) (λ _ k. k.entries ≡ m.entries) (own_locals i rules id arguments m)
  unfolding own_locals
  local_live m = go (fill_live m.entries (blank_frame (slots_at rules id) m) (lent (slots_at rules id) m) refl)
    where
      go : {x : Run Stop Frame ℕ} → Ends (λ _ t. Filled (slots_at rules id) m.entries t) (λ _ t. t.meter.entries ≡ m.entries) x →
          Ends (λ l k. (k.entries ≡ m.entries + held (slots_at rules id) l) × Legible l) (λ _ k. k.entries ≡ m.entries) (locals_of x)
      go (completes {a = k} {s = t} h) = completes {a = locals t.domains t.produced (refinements_of t.refinements k)} {s = t.meter} (omega (arith, h.live), record { produced = h.produced; known = refinements_proper t.refinements 0 k h.refinements })
      go (stops h) = stops h

-- ---- one rule of a round

-- a table of n values
abbrev pub Room : ℕ → List ℕ → Type 0
Room n rows = (value_row * n ≤ length rows) × Formed rows

module _ (i : Input) (small : All (λ c. c < 2 ^ 32) i.constants) (n : ℕ) where
  -- a head's value joins a row
  pub head_keeps : (l : Locals) → Legible l → (h : Head) → h.argument < n → Brings (rows_of n) (Room n) (Room n) (join_head i l.produced l.known h)
  head_keeps l k h inside =
      brings_head n (Room n) (Room n) Good (λ rows p. p.0) i l.produced l.known h inside
      (head_good i small l.produced k.produced l.known k.known h.value)
      (λ v w rows p.
      weaken (λ x f. (f.formed, (omega (arith, p.0, length_put rows h.argument x), formed_put rows h.argument x (omega (arith, p.0)) f p.1))) (join_good i.width (value_at rows h.argument) v (p.1 h.argument) w))

  heads_keep : (l : Locals) → Legible l → (hs : List Head) → All (λ h. h.argument < n) hs → All (λ h. Brings (rows_of n) (Room n) (Room n) (join_head i l.produced l.known h)) hs
  heads_keep l k [] q = tt
  heads_keep l k (h ∷ hs) q = (head_keeps l k h q.0, heads_keep l k hs q.1)

  pub apply_keeps : (rules previous : List ℕ) → Formed previous → (id : ℕ) → Fit n i rules id → Brings (rows_of n) (Room n) (Room n) (apply i rules previous id)
  unfolding apply
  apply_keeps rules previous formed id fit =
      brings_locals i rules id previous Legible (local_live i small fit previous formed)
      (λ l k. brings_each (join_head i l.produced l.known) (Room n) (heads_at rules id) (heads_keep l k (heads_at rules id) fit.heads))

-- ---- a round

-- what copies of the seeds bring about, and the rules then bring to G
module _ (g : Given) (previous : List ℕ) (F G : List ℕ → Type 0) (e : ℕ)
    (copy : (s : Slots) → value_row * g.positions ≤ length s.rows → Formed s.rows → s.meter.entries ≡ e → Ends (λ _ t. (t.meter.entries ≡ e + total t.rows g.positions) × F t.rows) (λ _ t. t.meter.entries ≡ e) (copies g.seeds 0 g.positions s))
    (apply_all : (s : Standing) → Stands (rows_of g.positions) e s → F s.rows →
    Ends (λ _ t. Stands (rows_of g.positions) e t × G t.rows) (λ _ t. Stands (rows_of g.positions) e t) (each_rule g.rules (apply g.input g.rules previous) 0 g.count s)) where
  produce_brings : (s : Standing) → value_row * g.positions ≤ length s.rows → Formed s.rows → s.budget.statistics.entries ≡ e →
      Ends (λ _ t. Stands (rows_of g.positions) e t × G t.rows) (λ _ t. t.budget.statistics.entries ≡ e) (produce g previous s)
  unfolding produce
  produce_brings s r f q =
      on_then (λ u. slots (meter_of u.budget) u.rows) (λ u v. standing (with_meter v.meter u.budget) u.context v.rows) (λ u v. standing (with_meter v.meter u.budget) u.context v.rows) (λ x. x)
      (copies g.seeds 0 g.positions) (holding_rows g.positions (each_rule g.rules (apply g.input g.rules previous) 0 g.count)) s (copy (slots (meter_of s.budget) s.rows) r f q)
      (λ _ u p.
      ends_through (λ t. t) (λ _ t. t) (λ _ t. standing (released (total t.rows g.positions) t.budget) t.context t.rows) (λ x. x)
      {P = λ _ t. Stands (rows_of g.positions) e t × G t.rows} {Q = λ _ t. Stands (rows_of g.positions) e t}
      (each_rule g.rules (apply g.input g.rules previous) 0 g.count) (standing (with_meter u.meter s.budget) s.context u.rows)
      (apply_all (standing (with_meter u.meter s.budget) s.context u.rows) p.0 p.1) (λ _ t z. z) (λ _ t z. omega arith))
      (λ _ u p. p)

  pub image_brings : (s : Standing) → value_row * g.positions ≤ length s.rows → Formed s.rows → s.budget.statistics.entries ≡ e →
      Ends (λ _ t. Stands (rows_of g.positions) e t × G t.rows) (λ _ t. t.budget.statistics.entries ≡ e) (image g previous s)
  unfolding image
  image_brings s r f q =
      on_then (λ u. u.budget) (λ u b. standing b u.context u.rows) (λ u b. standing b u.context u.rows) (λ x. x) round (produce g previous) s (charge_ends Rounds 1 s.budget)
      (λ _ b p. produce_brings (standing b s.context s.rows) r f (rw p q)) (λ _ b p. rw p.1 q)

pub image_live : (g : Given) → All (λ c. c < 2 ^ 32) g.input.constants → ((id : ℕ) → id < g.count → Fit g.positions g.input g.rules id) → ((a : ℕ) → a < g.positions → Good (value_at g.seeds a)) → (previous : List ℕ) → Formed previous →
    (e : ℕ) (s : Standing) → value_row * g.positions ≤ length s.rows → Formed s.rows → s.budget.statistics.entries ≡ e →
    Ends (λ _ t. Stands (rows_of g.positions) e t × Room g.positions t.rows) (λ _ t. t.budget.statistics.entries ≡ e) (image g previous s)
unfolding total
image_live g small fits seeds previous formed e =
    image_brings g previous (Room g.positions) (Room g.positions) e
    (λ s r f q. ends_as (copies_ends g.seeds g.positions seeds 0 g.positions e (omega arith) s (omega arith) (held_none s f q)) (λ _ t h. all t h) (λ _ t h. h))
    (λ s p q. rules_keep g.rules (apply g.input g.rules previous) (rows_of g.positions) (Room g.positions) e 0 g.count (λ id l. apply_keeps g.input small g.positions g.rules previous formed id (fits id (omega arith))) s p q)
  where
    held_none : (s : Slots) → Formed s.rows → s.meter.entries ≡ e → Held 0 e s
    held_none s f q = record { room = omega arith; formed = f; live = omega arith }

    all : (t : Slots) → Held (0 + g.positions) e t → (t.meter.entries ≡ e + total t.rows g.positions) × Room g.positions t.rows
    all t h = let k : 0 + g.positions ≡ g.positions = omega arith in (rw k at h.live, (omega (arith, h.room), h.formed))

-- a round in a table of its own
pub candidates_ends : (g : Given) (previous : List ℕ) (G : List ℕ → Type 0) (e : ℕ) →
    ((s : Standing) → value_row * g.positions ≤ length s.rows → Formed s.rows → s.budget.statistics.entries ≡ e →
    Ends (λ _ t. Stands (rows_of g.positions) e t × G t.rows) (λ _ t. t.budget.statistics.entries ≡ e) (image g previous s)) →
    (c : Course) → c.budget.statistics.entries ≡ e →
    Ends (λ rows d. (d.budget.statistics.entries ≡ e + total rows g.positions) × G rows) (λ _ d. d.budget.statistics.entries ≡ e) (candidates g previous c)
unfolding candidates
candidates_ends g previous G e h c q = go (h (standing c.budget c.context (blank g.positions)) (rw (length-replicate {A = ℕ} (value_row * g.positions) 0) (omega arith)) (blank_formed (value_row * g.positions)) q)
  where
    go : {x : Run Stop Standing (Unit {0})} → Ends (λ _ t. Stands (rows_of g.positions) e t × G t.rows) (λ _ t. t.budget.statistics.entries ≡ e) x →
        Ends (λ rows d. (d.budget.statistics.entries ≡ e + total rows g.positions) × G rows) (λ _ d. d.budget.statistics.entries ≡ e) (candidates_of x)
    go (completes {a = tt} {s = t} k) = completes {a = t.rows} {s = course t.budget t.context} k
    go (stops {s = t} k) = stops {s = course t.budget t.context} k
