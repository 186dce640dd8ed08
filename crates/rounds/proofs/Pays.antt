-- What a round leaves of a budget: the limits and the count of widened arguments stay, and where it completes it has charged one round, within
-- the limit.
use Prim.Native.Nat.{ℕ, zero, suc, ◌+◌, ◌≤◌}
use mathlib.Core.Path.{◌≡◌, refl, ap, ◌∙◌}
use mathlib.Core.List.{List}
use Rattle.limits.specs.declared.Resource.TheVariants.{Rounds}
use Rattle.limits.specs.declared.Limits.{Limits}
use Rattle.limits.specs.declared.Stop.{Stop}
use Rattle.limits.specs.declared.Budget.{Budget}
use Rattle.limits.specs.Metered.{Run, Metered, ◌>>◌}
use Rattle.limits.specs.Budget.{round, released}
use Rattle.limits.specs.declared.Meter.{Meter}
use Rattle.limits.specs.Meter.{meter_of, with_meter}
use Rattle.limits.proofs.ChargeLaws.{Charges, accepted, refused, charge_does}
use Rattle.limits.proofs.Ends.{Ends, completes, stops, ends_pure, ends_as, ends_then, ends_through, on_then, in_some_way}
use Rattle.limits.specs.Context.{Context}
use Rattle.rules.specs.Read.{context_at}
use Rattle.slots.specs.Slots.{Slots, slots, blank, total, copies}
use Rattle.rounds.specs.declared.Course.{Course}
use Rattle.rounds.specs.Round.{Given, Standing, standing, in_table, holding_rows, set_context, each_rule, apply, produce, image, candidates_of, candidates}

-- ---- of budgets

-- the limits and the count of rounds stay
pub record Kept (b c : Budget) : Type 0 where
  pub limits : c.limits ≡ b.limits
  pub rounds : c.statistics.rounds ≡ b.statistics.rounds

-- one round more, within the limit
pub record Pays (b c : Budget) : Type 0 where
  pub limits : c.limits ≡ b.limits
  pub rounds : c.statistics.rounds ≡ b.statistics.rounds + 1
  pub within : b.statistics.rounds + 1 ≤ b.limits.rounds

pub kept_same : (b : Budget) → Kept b b
kept_same b = record { limits = refl; rounds = refl }

pub kept_metered : (m : Meter) (b : Budget) → Kept b (with_meter m b)
kept_metered m b = record { limits = refl; rounds = refl }

pub kept_released : (n : ℕ) (b : Budget) → Kept b (released n b)
kept_released n b = record { limits = refl; rounds = refl }

module _ {b c d : Budget} where
  pub kept_then : Kept b c → Kept c d → Kept b d
  kept_then h k = record { limits = k.limits ∙ h.limits; rounds = k.rounds ∙ h.rounds }

  pub pays_then : Pays b c → Kept c d → Pays b d
  pays_then h k = record { limits = k.limits ∙ h.limits; rounds = k.rounds ∙ h.rounds; within = h.within }

pub round_pays : (b : Budget) → Ends (λ _ c. Pays b c) (λ _ c. c.limits ≡ b.limits) (round b)
round_pays b = go (charge_does Rounds 1 b)
  where
    go : {x : Run Stop Budget (Unit {0})} → Charges Rounds 1 b x → Ends (λ _ c. Pays b c) (λ _ c. c.limits ≡ b.limits) x
    go (accepted h) = completes (record { limits = refl; rounds = refl; within = h })
    go (refused e h p q o) = stops refl

-- ---- of a round: what neither a charge of work and of live entries nor a release changes

module _ {X : Type 0} (part : Budget → X) (metered : (m : Meter) (b : Budget) → part (with_meter m b) ≡ part b) (freed : (n : ℕ) (b : Budget) → part (released n b) ≡ part b) where
  abbrev Stays : {A : Type 0} → Budget → A → Standing → Type 0
  Stays b a t = part t.budget ≡ part b

  -- after what has kept it
  on_keeps : {A : Type 0} {b c : Budget} {x : Run Stop Standing A} → part c ≡ part b → Ends (Stays c) (Stays c) x → Ends (Stays b) (Stays b) x
  on_keeps h k = ends_as k (λ a u i. i ∙ h) (λ e u i. i ∙ h)

  module _ (s : Standing) where
    enter_keeps : (c : Context) → Ends (Stays s.budget) (Stays s.budget) (set_context c s)
    enter_keeps c = completes refl

    table_keeps : {A : Type 0} (m : Metered Stop Slots A) → Ends (Stays s.budget) (Stays s.budget) (in_table m s)
    table_keeps m =
        ends_through _ _ _ _ m s (in_some_way (m (slots (meter_of s.budget) s.rows))) (λ a t i. metered t.meter s.budget)
        (λ e t i. metered t.meter s.budget)

  pub rules_keep : (rules : List ℕ) (f : ℕ → Metered Stop Slots (Unit {0})) (k n : ℕ) (s : Standing) → Ends (Stays s.budget) (Stays s.budget) (each_rule rules f k n s)
  unfolding each_rule
  rules_keep rules f k zero s = ends_pure tt s refl
  rules_keep rules f k (suc n) s =
      ends_then (set_context (context_at rules k)) (in_table (f k) >> each_rule rules f (k + 1) n) s (enter_keeps s (context_at rules k))
      (λ a t h. ends_then (in_table (f k)) (each_rule rules f (k + 1) n) t (on_keeps h (table_keeps t (f k))) (λ b u i. on_keeps i (rules_keep rules f (k + 1) n u)) (λ e u i. i))
      (λ e t h. h)

  module _ (g : Given) (previous : List ℕ) (s : Standing) where
    -- all rules
    abbrev rules : Metered Stop Standing (Unit {0})
    rules = each_rule g.rules (apply g.input g.rules previous) 0 g.count

    produce_keeps : Ends (Stays s.budget) (Stays s.budget) (produce g previous s)
    unfolding produce
    produce_keeps =
        ends_then (in_table (copies g.seeds 0 g.positions)) (holding_rows g.positions rules) s (table_keeps s (copies g.seeds 0 g.positions))
        (λ a t h. on_keeps h
        (ends_through _ _ _ _ rules t (rules_keep g.rules (apply g.input g.rules previous) 0 g.count t) (λ b u i. i)
        (λ e u i. freed (total u.rows g.positions) u.budget ∙ i)))
        (λ e t h. h)

-- ---- a round and its candidates

pub image_pays : (g : Given) (previous : List ℕ) (s : Standing) → Ends (λ _ t. Pays s.budget t.budget) (λ _ t. t.budget.limits ≡ s.budget.limits) (image g previous s)
unfolding image
image_pays g previous s =
    on_then _ _ _ _ round (produce g previous) s (round_pays s.budget)
    (λ a b h. ends_as (produce_keeps even (λ m c. refl) (λ n c. refl) g previous (standing b s.context s.rows)) (λ c t i. pays_then h (kept b t.budget i)) (λ e t i. (kept b t.budget i).limits ∙ h.limits))
    (λ e b h. h)
  where
    even : Budget → Limits × ℕ
    even b = (b.limits, b.statistics.rounds)

    kept : (b c : Budget) → even c ≡ even b → Kept b c
    kept b c h = record { limits = ap (λ (p : Limits × ℕ). p.0) h; rounds = ap (λ (p : Limits × ℕ). p.1) h }

pub candidates_pay : (g : Given) (previous : List ℕ) (c : Course) → Ends (λ _ d. Pays c.budget d.budget) (λ _ d. d.budget.limits ≡ c.budget.limits) (candidates g previous c)
unfolding candidates
candidates_pay g previous c = go (image_pays g previous (standing c.budget c.context (blank g.positions)))
  where
    go : {x : Run Stop Standing (Unit {0})} → Ends (λ _ t. Pays c.budget t.budget) (λ _ t. t.budget.limits ≡ c.budget.limits) x →
        Ends (λ _ d. Pays c.budget d.budget) (λ _ d. d.budget.limits ≡ c.budget.limits) (candidates_of x)
    go (completes h) = completes h
    go (stops h) = stops h

-- a round counts no argument as widened
round_same : (b : Budget) → Ends (λ _ c. c.statistics.widened ≡ b.statistics.widened) (λ _ c. c.statistics.widened ≡ b.statistics.widened) (round b)
round_same b = go (charge_does Rounds 1 b)
  where
    go : {x : Run Stop Budget (Unit {0})} → Charges Rounds 1 b x → Ends (λ _ c. c.statistics.widened ≡ b.statistics.widened) (λ _ c. c.statistics.widened ≡ b.statistics.widened) x
    go (accepted h) = completes refl
    go (refused e h p q o) = stops refl

abbrev Same : {A S : Type 0} → (S → Budget) → Budget → A → S → Type 0
Same budget b a t = (budget t).statistics.widened ≡ b.statistics.widened

image_same : (g : Given) (previous : List ℕ) (s : Standing) → Ends (Same (λ (t : Standing). t.budget) s.budget) (Same (λ (t : Standing). t.budget) s.budget) (image g previous s)
unfolding image
image_same g previous s =
    on_then _ _ _ _ round (produce g previous) s (round_same s.budget)
    (λ a b h. ends_as (produce_keeps (λ b. b.statistics.widened) (λ m c. refl) (λ n c. refl) g previous (standing b s.context s.rows)) (λ c t i. i ∙ h) (λ e t i. i ∙ h))
    (λ e b h. h)

pub candidates_same : (g : Given) (previous : List ℕ) (c : Course) → Ends (λ _ d. d.budget.statistics.widened ≡ c.budget.statistics.widened) (λ _ d. d.budget.statistics.widened ≡ c.budget.statistics.widened) (candidates g previous c)
unfolding candidates
candidates_same g previous c = go (image_same g previous (standing c.budget c.context (blank g.positions)))
  where
    go : {x : Run Stop Standing (Unit {0})} → Ends (Same (λ (t : Standing). t.budget) c.budget) (Same (λ (t : Standing). t.budget) c.budget) x →
        Ends (λ _ d. d.budget.statistics.widened ≡ c.budget.statistics.widened) (λ _ d. d.budget.statistics.widened ≡ c.budget.statistics.widened) (candidates_of x)
    go (completes h) = completes h
    go (stops h) = stops h
