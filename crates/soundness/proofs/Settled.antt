-- A run over a store that is grounded: an unchanged pass leaves values that are closed under the plain run's steps, and whatever the plain run
-- reaches lies in one more round over them.
use Prim.Native.Nat.{ℕ, ◌+◌}
use mathlib.Core.Path.{◌≡◌, refl, subst}
use mathlib.Core.Logic.{◌⊎◌, inl, inr, ⊎_elim}
use mathlib.Core.Bool.{Bool, false}
use mathlib.Core.List.{List, [], ◌∷◌}
use mathlib.Core.Option.{Option}
use lib.IntN.{ℤ}
use Rattle.integers.specs.Order.{Number}
use Rattle.integers.specs.Lists.{All}
use Rattle.limits.proofs.Monad.{Ensures, weaken, both, for_all}
use Rattle.limits.proofs.Ends.{Ends, ends_as}
use Rattle.lattice.specs.Value.{Value}
use Rattle.rows.specs.Row.{value_at}
use Rattle.keys.specs.Key.{Key}
use Rattle.slots.specs.Slots.{total}
use Rattle.widening.specs.declared.Growth.{Growth}
use Rattle.rounds.specs.declared.Course.{Course}
use Rattle.rounds.specs.Round.{Given, given, candidates}
use Rattle.rounds.proofs.Live.{Room, candidates_ends}
use Rattle.passes.specs.Step.{grow}
use Rattle.passes.specs.Pass.{Ascent, pass}
use Rattle.passes.proofs.Growing.{grow_good, grow_in, grow_same, grow_lives}
use Rattle.passes.proofs.Renewed.{Advances, Passed}
use Rattle.passes.proofs.Passing.{pass_ends}
use Rattle.input.specs.Input.{Tables}
use Rattle.soundness.specs.Plain.{Opaque, PlainState, ProperKey}
use Rattle.soundness.specs.Run.{Accepted, key_for, Seeded, Firing, Produces, fired, Reaches}
use Rattle.soundness.proofs.Lies.{Lies, num, with_proper, to_in, from_in}
use Rattle.soundness.proofs.Lies as lies
use Rattle.soundness.proofs.Round.{over}
use Rattle.soundness.proofs.Grounded.{Inside, Grounded, Stepped, seeded, produced, fires_on, stepped_on, step_inside, image_sound}

-- ---- one argument of a pass

module _ (key : ℕ → Option Key) (cells : List ℕ) (width : ℕ) (thresholds : List ℤ) (old candidate : Value) (g : Growth) (k : Key) (p : ProperKey k) where
  grow_lies : Lies key cells old k ⊎ Lies key cells candidate k → Ensures (λ w. Lies key cells w.value k) (grow width thresholds old candidate g)
  grow_lies h =
      weaken (λ w. from_in key cells k p w.value)
      (grow_in width thresholds old candidate g num (lies.Stands key cells) (with_proper k p) (⊎_elim (λ a. inl (to_in key cells k p old a)) (λ a. inr (to_in key cells k p candidate a)) h))

  grow_back : Ensures (λ w. w.changed ≡ false → Lies key cells w.value k → Lies key cells old k) (grow width thresholds old candidate g)
  grow_back =
      weaken (λ w f e h. from_in key cells k p old ((f e).1 (to_in key cells k p w.value h))) (grow_same width thresholds old candidate g num (lies.Stands key cells) (with_proper k p))

-- ---- a pass

module _ {p : Accepted} {t : Tables} (g : Grounded p t) (o : Opaque) (thresholds : List ℤ) (numbers : All Number thresholds) (e : ℕ) where
  abbrev n : ℕ
  n = t.header.counts.positions

  abbrev pub run : Given
  run = given (over t) t.rules t.header.counts.rules t.seeds n

  -- what the plain run puts into an argument, from values that lie in these, lies in them too
  abbrev pub Closed : List ℕ → Type 0
  Closed values = (a : ℕ) (k : Key) → Stepped o p (Inside p t values) a k → Inside p t values a k

  -- what a round over them gives has it
  pub record Round (values rows : List ℕ) : Type 0 where
    pub room : Room n rows
    pub steps : (a : ℕ) (k : Key) → Stepped o p (Inside p t values) a k → Inside p t rows a k

  pub round_ends : (values : List ℕ) → Room n values → (base : ℕ) (c : Course) → c.budget.statistics.entries ≡ base →
      Ends (λ rows d. (d.budget.statistics.entries ≡ base + total rows n) × Round values rows) (λ _ d. d.budget.statistics.entries ≡ base) (candidates run values c)
  round_ends values room base c q =
      candidates_ends run values (Round values) base
      (λ s r f z. ends_as (image_sound g o values room base s r f z) (λ _ u y. (y.0, record { room = y.1.0; steps = y.1.1 })) (λ _ u y. y)) c q

  -- a new value of the argument j has what a step gives and what the old one had; where it has not changed, no more than the old one
  pub record New (values : List ℕ) (j : ℕ) (v : Value) (changed : Bool) : Type 0 where
    pub steps : (k : Key) → Stepped o p (Inside p t values) j k → Lies (key_for p) t.constants v k
    pub back : changed ≡ false → (k : Key) → ProperKey k → Lies (key_for p) t.constants v k → Lies (key_for p) t.constants (value_at values j) k

  advances : (values : List ℕ) → Room n values → (rows : List ℕ) → Round values rows → (j width : ℕ) (h : Growth) → Advances (New values j) (grow width thresholds (value_at values j) (value_at rows j) h)
  advances values room rows r j width h = record {
    lives = grow_lives width thresholds (value_at values j) (value_at rows j) h;
    gives = weaken (λ w z. (z.0, record { steps = λ k s. z.1.0 (k, s); back = λ c k q. z.1.1 (k, q) c }))
        (both (grow_good width thresholds (value_at values j) (value_at rows j) h numbers (room.1 j) (r.room.1 j))
        (both (for_all (λ (i : (k : Key) × Stepped o p (Inside p t values) j k). let s = r.steps j i.0 i.1 in grow_lies (key_for p) t.constants width thresholds (value_at values j) (value_at rows j) h i.0 s.proper (inr s.lies)))
        (for_all (λ (i : (k : Key) × ProperKey k). grow_back (key_for p) t.constants width thresholds (value_at values j) (value_at rows j) h i.0 i.1))));
  }

  -- an unchanged pass leaves closed values
  closed : (s u : Ascent) → Room n s.current → Passed (New s.current) e n false u → Closed u.current
  closed s u room h a k x =
      let y = stepped_on o (Inside p t u.current) (Inside p t s.current) before p a k x in
      let w = step_inside g o s.current room a k y in
      record { below = w.0; proper = w.1; lies = (h.rows a w.0).is.steps k y }
    where
      before : (b : ℕ) (v : Key) → Inside p t u.current b v → Inside p t s.current b v
      before b v i = let r = h.rows b i.below in record { below = i.below; proper = i.proper; lies = r.is.back (r.told refl) v i.proper i.lies }

  pub pass_sound : (s : Ascent) → Room n s.current → s.budget.statistics.entries ≡ e + total s.current n →
      Ends (λ changed u. (Room n u.current × (u.budget.statistics.entries ≡ e + total u.current n)) × (changed ≡ false → Closed u.current)) (λ _ u. u.budget.statistics.entries ≡ e + total u.current n)
      (pass run thresholds s)
  pass_sound s room live =
      ends_as
      (pass_ends run thresholds s room e live (Round s.current) (New s.current) (λ c q. round_ends s.current room (e + total s.current n) c q) (λ rows r. advances s.current room rows r))
      (λ changed u h. ((h.room, h.live), λ z. closed s u room (subst (λ (b : Bool). Passed (New s.current) e n b u) z h)))
      (λ _ u h. rw h.1 h.0)

  -- ---- the plain run

  -- where values are closed, and a round over them has what they lead to, all that the plain run ever reaches lies in both
  module _ (values rows : List ℕ) (fixed : Closed values) (round : Round values rows) where
    abbrev Both : PlainState
    Both a k = Inside p t values a k × Inside p t rows a k

    step_both : (a : ℕ) (k : Key) → Stepped o p (Inside p t values) a k → Both a k
    step_both a k h = (fixed a k h, round.steps a k h)

    stays : (fs : List Firing) (s : PlainState) → ((a : ℕ) (k : Key) → s a k → Both a k) → (a : ℕ) (k : Key) → fired o p s fs a k → Both a k
    unfolding fired
    stays [] s h a k x = h a k x
    stays (f ∷ fs) s h a k x =
        stays fs (λ b v. s b v ⊎ Produces o p s f b v)
        (λ b v. ⊎_elim (h b v) (λ q. step_both b v (produced f (fires_on o s (Inside p t values) (λ c w y. (h c w y).0) p f b v q)))) a k x

    pub reaches_both : (fs : List Firing) (a : ℕ) (k : Key) → Reaches o p fs a k → Both a k
    reaches_both fs a k x = stays fs (Seeded p) (λ b v q. step_both b v (seeded q)) a k x
