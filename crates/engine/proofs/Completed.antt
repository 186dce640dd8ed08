-- A run that completes: its values are one round over values that a pass left unchanged. What follows of it, demand 3 among them, uses nothing else
-- of how they came about. Without rules the values are those that the run began with.
use Prim.Native.Nat.{ℕ}
use mathlib.Core.Path.{◌≡◌, refl, ap, subst, ◌∙◌}
use mathlib.Core.Bool.{Bool, false}
use mathlib.Core.List.{List}
use borrow.Author.Tests.{eq-eqb, ne_eqb}
use lib.IntN.{ℤ}
use Rattle.rows.specs.Row.{moved}
use Rattle.limits.specs.Metered.{Run, going, stopped}
use Rattle.limits.proofs.Ends.{Ends, completes, stops, ends_as, ends_through, on_bind, on_then, in_some_way, where_going}
use Rattle.rounds.specs.declared.Course.{Course}
use Rattle.rounds.specs.Round.{Given, Standing, standing, course, candidates}
use Rattle.passes.specs.Pass.{Ascent, ascent, pass, ascend}
use Rattle.passes.proofs.Ascending.{ascend_ends}
use Rattle.results.specs.Result.{close, taking, last_round, Ending, ending, closing, last}
use Rattle.engine.specs.Run.{Progress, progress, in_ending, ascend_and_end, finish}

pub record Completed (g : Given) (thresholds : List ℤ) (values : List ℕ) : Type 0 where
  -- a pass that changed nothing
  pub before : Ascent
  pub after : Ascent
  pub unchanged : pass g thresholds before ≡ going false after
  -- one round over the values that it left
  pub from : Course
  pub to : Course
  pub result : List ℕ
  pub round : candidates g after.current from ≡ going result to
  -- and its rows are the result
  pub is : values ≡ moved result g.positions after.current

-- how a computation ended, as it ended
itself : {E S A : Type 0} (x : Run E S A) → Ends (λ a s. x ≡ going a s) (λ e s. x ≡ stopped e s) x
itself (going a s) = completes refl
itself (stopped e s) = stops refl

-- a pass that led here unchanged
record Led (g : Given) (thresholds : List ℤ) (t : Ascent) : Type 0 where
  before : Ascent
  unchanged : pass g thresholds before ≡ going false t

record Rounded (g : Given) (values current : List ℕ) : Type 0 where
  from : Course
  to : Course
  result : List ℕ
  round : candidates g values from ≡ going result to
  is : current ≡ moved result g.positions values

module _ (g : Given) where
  closing_stays : (s : Ending) → Ends (λ _ t. t.current ≡ s.current) (λ _ _. Unit {0}) (closing g s)
  unfolding closing
  closing_stays s =
      ends_through (λ t. standing t.budget t.context t.bounds) (λ t u. ending u.budget u.context t.current u.rows) (λ t u. ending u.budget u.context t.current u.rows) (λ x. x)
      (close g.input g.rules g.count g.positions s.current) s (in_some_way (close g.input g.rules g.count g.positions s.current (standing s.budget s.context s.bounds))) (λ _ _ _. refl) (λ _ _ _. tt)

  round_is : (s : Standing) → Ends (λ _ t. Rounded g s.rows t.rows) (λ _ _. Unit {0}) (last_round g s)
  unfolding last_round
  round_is s =
      on_bind (λ t. course t.budget t.context) (λ t c. standing c.budget c.context t.rows) (λ t c. standing c.budget c.context t.rows) (λ x. x) (candidates g s.rows) (taking g.positions) s
      (itself (candidates g s.rows (course s.budget s.context)))
      (λ rows d e. completes record { from = course s.budget s.context; to = d; result = rows; round = e; is = refl }) (λ _ _ _. tt)

  last_is : (s : Ending) → Ends (λ _ t. Rounded g s.current t.current) (λ _ _. Unit {0}) (last g s)
  unfolding last
  last_is s =
      on_then (λ t. standing t.budget t.context t.current) (λ t u. ending u.budget u.context u.rows t.bounds) (λ t u. ending u.budget u.context u.rows t.bounds) (λ x. x) (last_round g) (closing g) s
      (round_is (standing s.budget s.context s.current))
      (λ _ u p. ends_as (closing_stays (ending u.budget u.context u.rows s.bounds)) (λ _ t e. rw e p) (λ _ _ _. tt)) (λ _ _ _. tt)

  module _ (thresholds : List ℤ) where
    ascend_led : (s : Ascent) → Ends (λ _ t. Led g thresholds t) (λ _ _. Unit {0}) (ascend g thresholds s)
    ascend_led s =
        ends_as
        (ascend_ends g thresholds (λ _. Unit {0}) (Led g thresholds) (λ _ _. Unit {0})
        (λ t _. ends_as (itself (pass g thresholds t)) (λ changed u e. (tt, λ z. record { before = t; unchanged = e ∙ ap (λ (b : Bool). going b u) z })) (λ _ _ _. tt)) s tt)
        (λ _ t p. p.1) (λ _ _ _. tt)

    finish_is : (g.count ≡ 0 → ⊥) → (s : Progress) → Ends (λ _ t. Completed g thresholds t.current) (λ _ _. Unit {0}) (finish g thresholds s)
    unfolding finish ascend_and_end
    finish_is z s =
        rw (ne_eqb g.count 0 z)
        (on_then (λ t. ascent t.budget t.context t.current t.growth) (λ t u. progress u.budget u.context u.current u.growth t.bounds) (λ t u. progress u.budget u.context u.current u.growth t.bounds)
        (λ x. x) (ascend g thresholds) (in_ending (last g)) s (ascend_led (ascent s.budget s.context s.current s.growth))
        (λ _ t p.
        ends_through (λ u. ending u.budget u.context u.current u.bounds) (λ u v. progress v.budget v.context v.current u.growth v.bounds)
        (λ u v. progress v.budget v.context v.current u.growth v.bounds) (λ x. x) (last g) (progress t.budget t.context t.current t.growth s.bounds)
        (last_is (ending t.budget t.context t.current s.bounds))
        (λ _ u q. record { before = p.before; after = t; unchanged = p.unchanged; from = q.from; to = q.to; result = q.result; round = q.round; is = q.is }) (λ _ _ _. tt))
        (λ _ _ _. tt))

    pub finish_completed : (g.count ≡ 0 → ⊥) → (s t : Progress) → finish g thresholds s ≡ going tt t → Completed g thresholds t.current
    finish_completed z s t e = where_going (subst (Ends (λ _ u. Completed g thresholds u.current) (λ _ _. Unit {0})) e (finish_is z s))

    pub finish_unruled : g.count ≡ 0 → (s t : Progress) → finish g thresholds s ≡ going tt t → t.current ≡ s.current
    unfolding finish
    finish_unruled z s t e = where_going (subst (Ends (λ _ u. u.current ≡ s.current) (λ _ _. Unit {0})) e (rw (eq-eqb g.count 0 z) closed))
      where
        closed : Ends (λ _ u. u.current ≡ s.current) (λ _ _. Unit {0}) (in_ending (closing g) s)
        closed =
            ends_through (λ u. ending u.budget u.context u.current u.bounds) (λ u v. progress v.budget v.context v.current u.growth v.bounds)
            (λ u v. progress v.budget v.context v.current u.growth v.bounds) (λ x. x) (closing g) s (closing_stays (ending s.budget s.context s.current s.bounds)) (λ _ _ q. q) (λ _ _ _. tt)
