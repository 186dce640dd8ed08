-- What `predicate` leaves of the seeds: accepted, all that holds of them holds for the new arguments as well; refused, nothing is changed but work.
use Rattle.sizes.specs.Sizes as size
use Prim.Native.Nat.{ℕ, ◌+◌, ◌*◌, ◌≤◌, ◌<◌}
use native.Mathlib.Omega.{arith}
use mathlib.Core.Path.{◌≡◌, refl}
use mathlib.Core.Logic.{◌⊎◌, inl, inr}
use mathlib.Core.Bool.{◌&&◌}
use mathlib.Core.List.{List, [], ◌∷◌}
use borrow.Author.Tests.{eqb-true}
use lib.Dec.{eqb}
use lib.ListN.{length}
use lib.Seq.{sets}
use Rattle.integers.proofs.Tests.{and_right}
use Rattle.limits.specs.declared.Resource.TheVariants.{Work, Predicates, Positions}
use Rattle.limits.specs.declared.Budget.{Budget}
use Rattle.limits.specs.Refusal.{Told}
use Rattle.limits.specs.Metered.{stopped}
use Rattle.limits.specs.Budget.{work}
use Rattle.limits.proofs.Ends.{Ends, completes, stops, ends_as, ends_test, ends_then, ends_through}
use Rattle.lattice.specs.Lattice.{bottom}
use Rattle.sizes.specs.Sizes.{value_row}
use Rattle.rows.specs.Row.{value_at}
use Rattle.store.specs.declared.Store.{Store}
use Rattle.store.specs.Store.{with_budget, with_predicate}
use Rattle.store.specs.Calls.{billing, declared, room_for, add_predicate, predicate_call}
use Rattle.store.proofs.Opened.{open?}
use Rattle.store.specs.Calls as store
use Rattle.store.proofs.CodeLaws.{room_yes}
use Rattle.seeds.proofs.Seeded.{bottoms_length, bottoms_old, bottoms_new, seeded_bottoms, live_bottoms, lost_bottoms}
use Rattle.limits.proofs.Charging.{billed, charge_ends}
use Rattle.seeds.proofs.Beside.{Standing, Quiet, Bill, same_bill, quiet_bill, charged_ends}

-- ---- `predicate`

declared_ends : (arity : ℕ) (b : Budget) → Ends (λ _ c. c ≡ billed Work arity (billed Positions arity (billed Predicates 1 b))) (λ _ c. c ≡ b) (declared arity b)
unfolding declared
declared_ends arity b =
    ends_through (λ s. s) (λ _ c. c) (λ s _. s) (λ e. e) {Q = λ _ _. Unit {0}} _ b
    (ends_then _ _ b (charge_ends Predicates 1 b)
    (λ _ c p. rw p
    (ends_then _ _ (billed Predicates 1 b) (charge_ends Positions arity (billed Predicates 1 b))
    (λ _ d q. rw q (ends_as (charge_ends Work arity (billed Positions arity (billed Predicates 1 b))) (λ _ e r. r) (λ _ e r. tt)))
    (λ _ d q. tt)))
    (λ _ c p. tt))
    (λ _ c p. p)
    (λ _ c p. refl)

-- accepted
pub record PredicateTaken (constants : List ℕ) (arity id : ℕ) (t t' : store.Tables) : Type 0 where
  -- all that holds of the seeds holds for the new arguments as well
  pub standing : Standing constants t'.header t'.seeds
  -- the old arguments keep their seeds, the new ones have nothing
  pub old : (a : ℕ) → a < t.header.counts.positions → value_at t'.seeds a ≡ value_at t.seeds a
  pub new : (a : ℕ) → t.header.counts.positions ≤ a → a < t.header.counts.positions + arity → value_at t'.seeds a ≡ bottom
  pub size : length t'.seeds ≡ length t.seeds
  -- the answer, the new row and the room that there was
  pub answer : id ≡ t.header.counts.predicates
  pub rows : t'.rows ≡ sets t.rows (2 * t.header.counts.predicates) (t.header.counts.positions ∷ arity ∷ [])
  pub few : t.header.counts.predicates < 64
  pub most : t.header.counts.positions + arity ≤ 256
  -- the header: one predicate and its arguments more, which were charged, with their work
  pub header : t'.header ≡ with_predicate arity (with_budget (billed Work arity (billed Positions arity (billed Predicates 1 (billed Work 1 t.header.budget)))) t.header)

-- refused: nothing is changed but for one unit of work, and with number 1 or 2 not even that
pub record PredicateRefused (x : Told) (t t' : store.Tables) : Type 0 where
  pub left : (t' ≡ t) ⊎ (t' ≡ store.tables (with_budget (billed Work 1 t.header.budget) t.header) t.rows t.seeds)
  pub same : t'.seeds ≡ t.seeds
  pub same_rows : t'.rows ≡ t.rows
  pub quiet : Quiet 0 0 t.header t'.header
  pub whole : x.number ≤ 2 → t' ≡ t

module _ (constants : List ℕ) (arity : ℕ) (t : store.Tables) (stands : Standing constants t.header t.seeds) where
  early_predicate : (x : Told) → Ends (λ id u. PredicateTaken constants arity id t u) (λ y u. PredicateRefused y t u) (stopped x t)
  early_predicate x = stops record { left = inl refl; same = refl; same_rows = refl; quiet = quiet_bill t.header (same_bill t.header.budget); whole = λ _. refl }

  abbrev worked : Store
  worked = with_budget (billed Work 1 t.header.budget) t.header

  work_bill : Bill t.header.budget.statistics.entries t.header.budget (billed Work 1 t.header.budget)
  work_bill = record { kin = record { limits = refl; predicates = refl; positions = refl; rounds = refl }; entries = refl; widened = refl }

  module _ (rows : t.header.counts.predicates < 64) (fits : t.header.counts.positions + arity ≤ 256) (size : length t.seeds ≡ size.argument_cells) where
    added : (u : store.Tables) → u ≡ store.tables (with_budget (billed Work arity (billed Positions arity (billed Predicates 1 (billed Work 1 t.header.budget)))) t.header) t.rows t.seeds →
        Ends (λ id w. PredicateTaken constants arity id t w) (λ y w. PredicateRefused y t w) (add_predicate arity u)
    added u e =
        let room : value_row * (t.header.counts.positions + arity) ≤ length t.seeds = omega arith in
        rw e
        (completes record {
          standing = record {
            seeded = seeded_bottoms t.seeds t.header.counts.positions arity room _ _ constants stands.seeded;
            live = live_bottoms t.seeds t.header.counts.positions arity room _ stands.live;
            lost = lost_bottoms t.seeds t.header.counts.positions arity room _ stands.lost;
          };
          old = λ a l. bottoms_old t.seeds t.header.counts.positions arity a l;
          new = λ a l m. bottoms_new t.seeds t.header.counts.positions arity a room l m;
          size = bottoms_length t.seeds t.header.counts.positions arity;
          answer = refl;
          rows = refl;
          few = rows;
          most = fits;
          header = refl;
        })

  pub predicate_kept : Ends (λ id u. PredicateTaken constants arity id t u) (λ x u. PredicateRefused x t u) (predicate_call arity t)
  unfolding predicate_call
  predicate_kept =
      ends_test (eqb (length t.rows) size.predicate_cells && eqb (length t.seeds) size.argument_cells)
      (λ e.
      let z : length t.seeds ≡ size.argument_cells = eqb-true (length t.seeds) size.argument_cells (and_right (eqb (length t.rows) size.predicate_cells) _ e) in
      ends_test (open? t.header)
      (λ _.
      ends_test (room_for t.header.counts.predicates t.header.counts.positions arity)
      (λ f.
      let g = room_yes t.header.counts.predicates t.header.counts.positions arity refl f in
      ends_then _ _ t
      (ends_through (λ w. w.header) (λ w s. store.tables s w.rows w.seeds) (λ w s. store.tables s w.rows w.seeds) (λ y. y)
      {R = λ _ u. u ≡ store.tables worked t.rows t.seeds}
      {U = λ x u. PredicateRefused x t u}
      (billing (work 1)) t
      (charged_ends (work 1) t.header (charge_ends Work 1 t.header.budget))
      (λ _ s q. rw (q.2, q.1))
      (λ x s q. rw (q.4, q.3.1) record { left = inl refl; same = refl; same_rows = refl; quiet = quiet_bill t.header (same_bill t.header.budget); whole = λ _. refl }))
      (λ _ u p.
      rw p
      (ends_then _ _ (store.tables worked t.rows t.seeds)
      (ends_through (λ w. w.header) (λ w s. store.tables s w.rows w.seeds) (λ w s. store.tables s w.rows w.seeds) (λ y. y)
      {R = λ _ u. u ≡ store.tables (with_budget (billed Work arity (billed Positions arity (billed Predicates 1 (billed Work 1 t.header.budget)))) t.header) t.rows t.seeds}
      {U = λ x u. PredicateRefused x t u}
      (billing (declared arity)) (store.tables worked t.rows t.seeds)
      (charged_ends (declared arity) worked (declared_ends arity worked.budget))
      (λ _ s q. rw (q.2, q.1))
      (λ x s q. rw (q.4, q.3) record { left = inr refl; same = refl; same_rows = refl; quiet = quiet_bill t.header work_bill; whole = λ l. absurd (omega (arith, q.0)) }))
      (λ _ w q. added g.0 g.1 z w q)
      (λ x w q. q)))
      (λ x u q. q))
      (λ _. early_predicate _))
      (λ _. early_predicate _))
      (λ _. early_predicate _)
