-- What the end of a run makes of the values and of the bounds of the rules' slots is the same from any two budgets, where both complete.
use Prim.Native.Nat.{ℕ, zero, suc, ◌+◌}
use mathlib.Core.Path.{refl, ap}
use mathlib.Core.Bool.{Bool, true, false}
use mathlib.Core.List.{List}
use Rattle.limits.specs.Metered.{◌>>=◌}
use Rattle.limits.specs.Budget.{work}
use Rattle.limits.proofs.Monad.{steady_unit}
use Rattle.limits.proofs.Alike.{SteadyOn, on_pure, on_look, on_bind, on_then, on_through, steady_on}
use Rattle.interval.specs.declared.Bound.{Bound}
use Rattle.rows.specs.Row.{value_at, moved}
use Rattle.rules.specs.Read.{slots_at}
use Rattle.slots.proofs.Steady.{OnRows, on_step}
use Rattle.evaluation.specs.Evaluation.{Input}
use Rattle.rounds.specs.Round.{Given, candidates}
use Rattle.rounds.proofs.Steady.{on_locals, OnTable, on_rules, candidates_steady}
use Rattle.results.specs.Result.{put_bound, keeping, keep_bounds, keep_both, bound, close, in_course, taking, last_round, Ending, in_bounds, closing, last}

on_keeping : (id slot : ℕ) (after : Bool) (b : Bound) → OnRows (keeping id slot after b)
on_keeping id slot after b = record { same = λ s t e. (refl, ap (λ (l : List ℕ). put_bound l id slot after b) e) }

on_keep : (rows : List ℕ) (id : ℕ) (after : Bool) (k n : ℕ) → OnRows (keep_bounds rows id after k n)
unfolding keep_bounds
on_keep rows id after k zero = on_pure tt
on_keep rows id after k (suc n) = on_then (on_step (on_keeping id k after (value_at rows k).bound)) (on_keep rows id after (k + 1) n)

on_bound : (i : Input) (rules current : List ℕ) (id : ℕ) → OnRows (bound i rules current id)
unfolding bound keep_both
on_bound i rules current id = on_locals i rules id current (λ l. on_then (on_keep l.domains id false 0 (slots_at rules id)) (on_keep l.produced id true 0 (slots_at rules id)))

pub on_close : (i : Input) (rules : List ℕ) (count positions : ℕ) (current : List ℕ) → OnTable (close i rules count positions current)
unfolding close
on_close i rules count positions current =
    on_then (on_rules rules (bound i rules current) (on_bound i rules current) 0 count) (on_through _ _ _ _ (λ s t e. refl) (λ s t u v e _. e) (steady_on (steady_unit (work positions))))

on_last_round : (g : Given) → OnTable (last_round g)
unfolding last_round
on_last_round g =
    on_look {f = λ v. in_course (candidates g v) >>= taking g.positions}
    (λ v.
    on_bind (on_through _ _ _ _ (λ s t e. refl) (λ s t u w e _. e) (steady_on (candidates_steady g v))) (λ new. record { same = λ s t e. (refl, ap (moved new g.positions) e) }))

-- what is looked at: the current values and the bounds
abbrev pub tables : Ending → List ℕ × List ℕ
tables s = (s.current, s.bounds)

pub on_closing : (g : Given) → SteadyOn tables (closing g)
unfolding closing
on_closing g =
    on_look {f = λ v. in_bounds (close g.input g.rules g.count g.positions v.0)}
    (λ v. on_through _ _ _ _ (λ s t e. ap (λ (w : List ℕ × List ℕ). w.1) e) (λ s t u w e q j. ((e j).0, q j)) (on_close g.input g.rules g.count g.positions v.0))

pub on_last : (g : Given) → SteadyOn tables (last g)
unfolding last
on_last g = on_then (on_through _ _ _ _ (λ s t e. ap (λ (w : List ℕ × List ℕ). w.0) e) (λ s t u w e q j. (q j, (e j).1)) (on_last_round g)) (on_closing g)
