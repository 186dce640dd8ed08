-- A run of a store whose tables hold what the accepted calls have said. Completed: its live entries are those of the lists that it reports, and
-- whatever the plain run reaches lies in what it reports. Stopped: live entries are those of the seeds, and no result is written.
use Rattle.sizes.specs.Sizes as size
use Prim.Native.Nat.{ℕ, zero, suc, ◌+◌, ◌*◌, ◌≤◌}
use native.Mathlib.Omega.{arith}
use native.Mathlib.Decide.{ℕ_discrete}
use mathlib.Core.Path.{◌≡◌, refl, ap, ◌∙◌}
use mathlib.Core.Logic.{◌⊎◌, ⊎_elim}
use mathlib.Core.List.{List, [], ◌∷◌}
use mathlib.Core.Option.{none}
use lib.IntN.{ℤ}
use lib.ListN.{length, take, replicate, length-replicate}
use lib.Seq.{length-sets}
use Rattle.integers.specs.Order.{Number}
use Rattle.integers.specs.Lists.{All}
use Rattle.integers.proofs.Stores.{all_take}
use Rattle.limits.specs.declared.Stop.{Stop}
use Rattle.limits.specs.Metered.{Run}
use Rattle.limits.proofs.Ends.{Ends, completes, stops, ends_as}
use Rattle.sizes.specs.Sizes.{value_row}
use Rattle.rows.specs.Row.{padded, entries_of, value_at, moved}
use Rattle.keys.specs.Key.{Key}
use Rattle.thresholds.specs.Thresholds.{entry}
use Rattle.limits.specs.Context.{Context}
use Rattle.store.specs.declared.Phase.TheVariants.{Completed, Stopped}
use Rattle.slots.specs.Slots.{blank, total}
use Rattle.integers.proofs.Totals as totals
use Rattle.seeds.proofs.Seeded.{entries_in}
use Rattle.slots.proofs.Moved.{length_moved, moved_row, moved_total}
use Rattle.slots.proofs.Copied.{Same}
use Rattle.rounds.proofs.Live.{Room, blank_formed}
use Rattle.engine.specs.Run.{Beginning, beginning, Progress, progress, finish}
use Rattle.engine.specs.Call.{Tables, tables, read, given_of, concluded, finished, ran_on}
use Rattle.engine.proofs.Finished.{Settled, finish_alone, finish_ends}
use Rattle.engine.proofs.Begun.{Ended, Sown, begin_ends}
use Rattle.input.specs.Input as input
use Rattle.soundness.specs.Plain.{Opaque, PlainState}
use Rattle.soundness.specs.Run.{Accepted, Seeded, Firing, Produces, fired, Reaches}
use Rattle.soundness.proofs.Round.{stored_fit}
use Rattle.soundness.proofs.Grounded.{Inside, Grounded, ends_all, seeds_good}
use Rattle.soundness.proofs.Settled.{run, Closed, Round, round_ends, pass_sound, reaches_both}

-- ---- two sums over rows that are one

same_total : (rows : List ℕ) (n : ℕ) → entries_in rows n ≡ total rows n
unfolding total totals.total
same_total rows zero = refl
same_total rows (suc n) = ap (λ (k : ℕ). k + entries_of (value_at rows n)) (same_total rows n)

module _ {p : Accepted} {t : input.Tables} (g : Grounded p t) where
  abbrev n : ℕ
  n = t.header.counts.positions

  -- whatever the plain run reaches lies in these values
  abbrev pub Holds : Opaque → List ℕ → Type 0
  Holds o values = (fs : List Firing) (a : ℕ) (k : Key) → Reaches o p fs a k → Inside p t values a k

  -- rows that are the same below n
  holds_as : (o : Opaque) (values rows : List ℕ) → Same values n rows → Holds o values → Holds o rows
  holds_as o values rows same h fs a k x = let i = h fs a k x in record { below = i.below; proper = i.proper; lies = rw (same a i.below) i.lies }

  -- without rules nothing but the seeds is reached
  module _ (z : t.header.counts.rules ≡ 0) (o : Opaque) where
    nothing_fires : (s : PlainState) (f : Firing) (a : ℕ) (k : Key) → Produces o p s f a k → ⊥
    nothing_fires s f a k h = omega (arith, (g.rules f.rule h.among).below)

    stays : (fs : List Firing) (s : PlainState) → ((a : ℕ) (k : Key) → s a k → Inside p t t.seeds a k) → (a : ℕ) (k : Key) → fired o p s fs a k → Inside p t t.seeds a k
    unfolding fired
    stays [] s h a k x = h a k x
    stays (f ∷ fs) s h a k x = stays fs (λ b v. s b v ⊎ Produces o p s f b v) (λ b v. ⊎_elim (h b v) (λ q. absurd (nothing_fires s f b v q))) a k x

    alone : Holds o t.seeds
    alone fs a k x = stays fs (Seeded p) g.seeds a k x

  module _ (thresholds : List ℤ) (numbers : All Number thresholds) (e : ℕ) where
    -- what is left of the values
    pub record Finished (o : Opaque) (entries : ℕ) (current : List ℕ) : Type 0 where
      pub live : entries ≡ e + total current n
      pub room : Room n current
      pub holds : Holds o current

    finish_sound : (o : Opaque) (s : Progress) → Sown t.seeds n e s.budget.statistics.entries s.current →
        Ends (λ _ u. Finished o u.budget.statistics.entries u.current) (λ _ u. u.budget.statistics.entries ≡ e + total u.current n) (finish (run g o thresholds numbers e) thresholds s)
    finish_sound o s h = elim (ℕ_discrete t.header.counts.rules 0) [
      | yes z ↦
          ends_as (finish_alone (run g o thresholds numbers e) thresholds g.cells (λ id l. stored_fit t g.reached id l) e z s h.room.1)
          (λ _ u q. rw (q.1, q.0) record { live = h.live; room = h.room; holds = holds_as o t.seeds s.current h.same (alone z o) }) (λ _ u q. rw (q.1, q.0) h.live)
      | no z ↦
          ends_as
          (finish_ends (run g o thresholds numbers e) thresholds g.cells (λ id l. stored_fit t g.reached id l) e (Closed g o thresholds numbers e) (Round g o thresholds numbers e) (λ values rows r. r.room.1)
          (λ u r l. pass_sound g o thresholds numbers e u r l) (λ values r c d l. round_ends g o thresholds numbers e values r (e + total values n) d l) z s h.room h.live)
          (λ _ u q. settled u q) (λ _ u q. q)
    ]
      where
        settled : (u : Progress) → Settled (Closed g o thresholds numbers e) (Round g o thresholds numbers e) e n u.budget.statistics.entries u.current → Finished o u.budget.statistics.entries u.current
        settled u q = record {
          live = q.rounded.live;
          room = q.rounded.room;
          holds = holds_as o q.rounded.result u.current q.rounded.rows (λ fs a k x. (reaches_both g o thresholds numbers e q.values q.rounded.result q.closed q.rounded.is fs a k x).1);
        }

  -- ---- the run as a whole

  -- what a run leaves: u from the state s that it was lent
  pub data Ran (s u : Tables) : Type 0 where
    ended : u.header.phase ≡ Completed → u.header.counts.positions ≡ n → u.header.budget.statistics.entries ≡ total u.arguments n → ((o : Opaque) → Holds o u.arguments) →
        length u.arguments ≡ length s.arguments → length u.slots ≡ length s.slots → Ran s u
    halted : {e : Stop} {c : Context} → u.header.phase ≡ Stopped e c → u.header.counts.positions ≡ n → u.header.budget.statistics.entries ≡ total t.seeds n → u.arguments ≡ s.arguments → u.slots ≡ s.slots → Ran s u

  module _ (numbers : All Number t.thresholds) (few : t.header.counts.thresholds + 2 ≤ length t.thresholds) (arguments slots : List ℕ) (roomy : value_row * n ≤ length arguments) where
    abbrev lent : Tables
    lent = tables t.header t.thresholds arguments slots

    abbrev e : ℕ
    e = t.header.budget.statistics.entries

    seeds_live : e ≡ total t.seeds n
    seeds_live = g.reached.standing.live ∙ same_total t.seeds n

    -- an opaque function without values, where any will do
    abbrev some_opaque : Opaque
    some_opaque = record { one = λ _ _. none; two = λ _ _ _. none }

    conclude_sound : (th : List ℤ) (all : All Number th) (m : ℕ) (marks : List ℤ) (x : Run Stop Progress (Unit {0})) →
        Ends (λ _ u. Finished th all e some_opaque u.budget.statistics.entries u.current × ((o : Opaque) → Holds o u.current)) (λ _ u. u.budget.statistics.entries ≡ e + total u.current n) x →
        Ran lent (concluded t.seeds m marks lent x)
    conclude_sound th all m marks x (completes {a = a} {s = u} h) =
        ended refl refl (omega (arith, h.0.live, seeds_live, moved_total u.current arguments h.0.room.1 n roomy))
        (λ o. holds_as o u.current (moved u.current n arguments) (λ j l. moved_row u.current arguments h.0.room.1 n j roomy l) (h.1 o)) (length_moved u.current arguments n)
        (length-sets slots 0 (padded (size.bounds_row * t.header.counts.rules) u.bounds))
    conclude_sound th all m marks x (stops {e = r} {s = u} h) = halted refl refl (omega (arith, seeds_live)) refl refl

    pub ran_sound : Ran lent (ran_on (given_of (read t.nodes t.constants t.rules t.seeds) t.header) lent)
    unfolding ran_on
    ran_sound =
        go _
        (begin_ends t.seeds n (seeds_good g some_opaque (blank n) blank_room) e (beginning (entry t.header.budget t.header.counts.thresholds t.thresholds) (blank n) (replicate (size.growth_row * n) 0)) g.reached.rises numbers few
        blank_room.0 blank_room.1 refl)
      where
        blank_room : Room n (blank n)
        blank_room = (rw (length-replicate {A = ℕ} (value_row * n) 0) (omega arith), blank_formed (value_row * n))

        go : (x : Run Stop Beginning (Unit {0})) →
            Ends (λ _ b. Sown t.seeds n e b.entry.budget.statistics.entries b.current × Ended (entry t.header.budget t.header.counts.thresholds t.thresholds) b.entry) (λ _ b. b.entry.budget.statistics.entries ≡ e) x →
            Ran lent (finished (given_of (read t.nodes t.constants t.rules t.seeds) t.header) lent x)
        go x (completes {a = a} {s = b} h) =
            let th = take b.entry.count b.entry.table in
            let all = all_take Number b.entry.count b.entry.table h.1.marks.numbers in
            let at = progress b.entry.budget t.header.context b.current b.growth (replicate (size.bounds_row * t.header.counts.rules) 0) in
            conclude_sound th all b.entry.count b.entry.table _
            (ends_all (λ o _ u. Holds o u.current) (finish_sound th all e some_opaque at h.0) (λ o. ends_as (finish_sound th all e o at h.0) (λ _ u q. q.holds) (λ _ _ _. tt)))
        go x (stops h) = halted refl refl (h ∙ seeds_live) refl refl
