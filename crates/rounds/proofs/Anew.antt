-- What a lent table held before does not matter. A rule's slots are the same in any tables of exactly as many rows as it has slots, and a round's
-- values in any table of exactly as many rows as there are arguments; so the code may lend what the definitions begin blank.
use Prim.Native.Nat.{ℕ, ◌*◌}
use mathlib.Core.Path.{◌≡◌, refl, sym, ap, subst, ◌∙◌}
use mathlib.Core.List.{List}
use lib.ListN.{length, replicate, length-replicate}
use Rattle.limits.specs.Context.{Context}
use Rattle.limits.specs.declared.Stop.{Stop}
use Rattle.limits.specs.declared.Budget.{Budget}
use Rattle.limits.specs.declared.Meter.{Meter}
use Rattle.std.proofs.Common.{Result, Ok, Err}
use Rattle.limits.specs.Metered.{Run, Metered, going, stopped, answered, zoom}
use Rattle.limits.proofs.Answering.{went, broke}
use Rattle.refinements.specs.Refinement.{refinements_of}
use Rattle.limits.specs.Meter.{work, meter_of, with_meter}
use Rattle.limits.specs.Budget.{round}
use Rattle.sizes.specs.Sizes.{value_row, refinement_cells}
use Rattle.rules.specs.Read.{slots_at}
use Rattle.slots.specs.Slots.{blank, copies}
use Rattle.slots.proofs.Likewise.{Likewise, both_go, both_stop, like_equal, like_then, like_through, like_part}
use Rattle.slots.proofs.Anew.{copies_anew}
use Rattle.evaluation.specs.Evaluation.{Input}
use Rattle.guards.proofs.Recorded.{refinements_same}
use Rattle.transfer.specs.Transfer.{Frame, frame, rule}
use Rattle.transfer.proofs.Anew.{Framed, Charged, rule_anew}
use Rattle.rounds.specs.Locals.{locals, fill, locals_of, own_locals}
use Rattle.rounds.specs.Round.{Given, Standing, standing, charging, in_table, holding_rows, each_rule, apply, produce, image, course, candidates_of, candidates}

-- ---- a rule's slots

same_locals : {x y : Run Stop Frame ℕ} → Likewise (λ k s s'. Framed k s s') Charged x y → locals_of x ≡ locals_of y
same_locals (both_go {a = k} h) = λ d. going (locals (h.domains d) (h.produced d) (refinements_same k h.shared d)) (h.meter d)
same_locals (both_stop {e = e} q) = λ d. stopped e (q d)

module _ (i : Input) (rules : List ℕ) (id : ℕ) (arguments : List ℕ) (m : Meter) (t p r : List ℕ) where
  module _ (t' p' r' : List ℕ) (size : length t ≡ value_row * slots_at rules id) (same : length t' ≡ length t)
      (size' : length p ≡ value_row * slots_at rules id) (same' : length p' ≡ length p) (alike : length r' ≡ length r) where
    fill_anew : Likewise (λ k s s'. Framed k s s') Charged (fill i rules id arguments (frame m t p r)) (fill i rules id arguments (frame m t' p' r'))
    unfolding fill
    fill_anew =
        like_then {P = λ _ s s'. (s ≡ frame s.meter t p r) × (s' ≡ frame s.meter t' p' r')} {Q = Charged}
        (zoom (λ s. s.meter) (λ n s. frame n s.domains s.produced s.refinements) (work 1)) (rule i rules id arguments) (frame m t p r) (frame m t' p' r')
        (like_part _ _ _ _ (work 1) (frame m t p r) (frame m t' p' r') refl (λ _ u. (refl, refl)) (λ u. refl))
        (λ _ s s' h.
        subst (λ (x : Frame). Likewise (λ k u v. Framed k u v) Charged (rule i rules id arguments x) (rule i rules id arguments s')) (sym h.0)
        (subst (λ (y : Frame). Likewise (λ k u v. Framed k u v) Charged (rule i rules id arguments (frame s.meter t p r)) (rule i rules id arguments y)) (sym h.1)
        (rule_anew i rules id arguments s.meter t t' p p' r r' size same size' same' alike)))
        (λ s s' q. q)

  -- in tables that held anything
  module _ (size : length t ≡ value_row * slots_at rules id) (size' : length p ≡ value_row * slots_at rules id) (cells : length r ≡ refinement_cells) where
    locals_anew : locals_of (fill i rules id arguments (frame m t p r)) ≡ own_locals i rules id arguments m
    unfolding own_locals
    locals_anew =
        let n = slots_at rules id in
        let e : length (blank n) ≡ value_row * n = length-replicate {A = ℕ} (value_row * n) 0 in
        same_locals (fill_anew (blank n) (blank n) (replicate refinement_cells 0) size (e ∙ sym size) size' (e ∙ sym size') (length-replicate {A = ℕ} refinement_cells 0 ∙ sym cells))

    module _ {x : Result ℕ Stop} (f : Frame) (h : answered x f ≡ fill i rules id arguments (frame m t p r)) where
      pub filled_stopped : {e : Stop} → x ≡ Err e → stopped e f.meter ≡ own_locals i rules id arguments m
      filled_stopped q = ap locals_of (broke h q) ∙ locals_anew

      pub filled_on : {k : ℕ} → x ≡ Ok k → going (locals f.domains f.produced (refinements_of f.refinements k)) f.meter ≡ own_locals i rules id arguments m
      filled_on q = ap locals_of (went h q) ∙ locals_anew

-- ---- a round

-- what a stop leaves: the counts and the context in force
abbrev Spent : Standing → Standing → Type 0
Spent s s' = (s.budget ≡ s'.budget) × (s.context ≡ s'.context)

abbrev Same : Run Stop Standing (Unit {0}) → Run Stop Standing (Unit {0}) → Type 0
Same x y = Likewise (λ _ s s'. s ≡ s') Spent x y

same_candidates : {x y : Run Stop Standing (Unit {0})} → Same x y → candidates_of x ≡ candidates_of y
same_candidates (both_go {a = tt} e) = λ d. going (e d).rows (course (e d).budget (e d).context)
same_candidates (both_stop {e = e} q) = λ d. stopped e (course (q.0 d) (q.1 d))

module _ (g : Given) (previous : List ℕ) where
  module _ (c : Context) (t t' : List ℕ) (size : length t ≡ value_row * g.positions) (same : length t' ≡ length t) where
    produce_anew : (b : Budget) → Same (produce g previous (standing b c t)) (produce g previous (standing b c t'))
    unfolding produce
    produce_anew b =
        like_then {P = λ _ s s'. s ≡ s'} {Q = Spent} (in_table (copies g.seeds 0 g.positions)) joined (standing b c t) (standing b c t')
        (like_through _ _ _ _ (copies g.seeds 0 g.positions) (standing b c t) (standing b c t') (copies_anew g.positions (meter_of b) t t' size same g.seeds)
        (λ _ u v e d. standing (with_meter (e d).meter b) c (e d).rows) (λ u v e. (λ d. with_meter (e d) b, refl)))
        (λ _ s s' e. like_equal joined e (λ _ _. refl) (λ _. (refl, refl)))
        (λ s s' q. q)
      where
        joined : Metered Stop Standing (Unit {0})
        joined = holding_rows g.positions (each_rule g.rules (apply g.input g.rules previous) 0 g.count)

    image_anew : (b : Budget) → Same (image g previous (standing b c t)) (image g previous (standing b c t'))
    unfolding image
    image_anew b =
        like_then {P = λ _ s s'. (s ≡ standing s.budget c t) × (s' ≡ standing s.budget c t')} {Q = Spent} (charging round) (produce g previous) (standing b c t) (standing b c t')
        (like_part _ _ _ _ round (standing b c t) (standing b c t') refl (λ _ u. (refl, refl)) (λ u. (refl, refl)))
        (λ _ s s' h.
        subst (λ (x : Standing). Same (produce g previous x) (produce g previous s')) (sym h.0)
        (subst (λ (y : Standing). Same (produce g previous (standing s.budget c t)) (produce g previous y)) (sym h.1) (produce_anew s.budget)))
        (λ s s' q. q)

  -- in a table that held anything
  pub candidates_anew : (b : Budget) (c : Context) (t : List ℕ) → length t ≡ value_row * g.positions →
      {x : Run Stop Standing (Unit {0})} → x ≡ image g previous (standing b c t) → candidates_of x ≡ candidates g previous (course b c)
  unfolding candidates
  candidates_anew b c t size h = ap candidates_of h ∙ same_candidates (image_anew c t (blank g.positions) size (length-replicate {A = ℕ} (value_row * g.positions) 0 ∙ sym size) b)
