-- What the tables of a rule held before does not matter: from any tables of slots of exactly as many rows as the rule has slots, and any two
-- tables of refinements of one length, `rule` ends alike.
use Prim.Native.Nat.{ℕ, ◌*◌}
use mathlib.Core.Path.{◌≡◌, subst}
use mathlib.Core.List.{List}
use lib.ListN.{length}
use Rattle.limits.specs.declared.Stop.{Stop}
use Rattle.limits.specs.declared.Meter.{Meter}
use Rattle.limits.specs.Metered.{Run, Metered}
use Rattle.limits.specs.Meter.{released}
use Rattle.sizes.specs.Sizes.{value_row, refinement_row}
use Rattle.rules.specs.Read.{slots_at, bindings_at, guards_at}
use Rattle.slots.specs.Slots.{total}
use Rattle.slots.proofs.Likewise.{Likewise, like_then, like_through}
use Rattle.slots.proofs.Shared.{Shared}
use Rattle.evaluation.specs.Evaluation.{Input}
use Rattle.bindings.specs.Bindings.{bind}
use Rattle.bindings.proofs.Anew.{bind_anew}
use Rattle.guards.specs.Guards.{Local, local, guard}
use Rattle.guards.proofs.Anew.{Beside, Spent, guard_anew}
use Rattle.transfer.specs.Transfer.{Frame, frame, in_domains, in_local, holding_domains, guarding, rule}

-- of the same counts and values before and after guards, with the first k refinements the same
pub record Framed (k : ℕ) (s s' : Frame) : Type 0 where
  pub meter : s.meter ≡ s'.meter
  pub domains : s.domains ≡ s'.domains
  pub produced : s.produced ≡ s'.produced
  pub shared : Shared (refinement_row * k) s.refinements s'.refinements

-- what a stop leaves of them: the counts
abbrev pub Charged : Frame → Frame → Type 0
Charged s s' = s.meter ≡ s'.meter

-- ---- after the bindings: the same counts and values before guards, and tables for the values after them

record Bound (n : ℕ) (s s' : Frame) : Type 0 where
  meter : s.meter ≡ s'.meter
  domains : s.domains ≡ s'.domains
  size : length s.produced ≡ value_row * n
  same : length s'.produced ≡ length s.produced
  alike : length s'.refinements ≡ length s.refinements

-- what a stop leaves of them
abbrev Filled : Frame → Frame → Type 0
Filled s s' = (s.meter ≡ s'.meter) × (s.domains ≡ s'.domains)

module _ (i : Input) (rules : List ℕ) (id : ℕ) where
  guards_of : List ℕ → Metered Stop Local ℕ
  guards_of d = guard i d (slots_at rules id) (guards_at rules id)

  guarding_like : (s s' : Frame) → Bound (slots_at rules id) s s' → Likewise (λ k t t'. Framed k t t') Filled (guarding i rules id s) (guarding i rules id s')
  unfolding guarding guards_of
  guarding_like s s' h =
      subst (λ (d : List ℕ). Likewise (λ k t t'. Framed k t t') Filled (in_local (guards_of s.domains) s) (in_local (guards_of d) s')) h.domains
      (like_through _ _ _ _ {P = λ k u v. Beside k u v} {Q = Spent} (guards_of s.domains) s s'
      (subst (λ (m : Meter). Likewise (λ k u v. Beside k u v) Spent (over s.meter s.produced s.refinements) (over m s'.produced s'.refinements)) h.meter
      (guard_anew i s.domains (slots_at rules id) (guards_at rules id) s.meter s.produced s'.produced s.refinements s'.refinements h.size h.same h.alike))
      (λ k u v q. record { meter = q.meter; domains = h.domains; produced = q.produced; shared = q.shared }) (λ u v q. (q, h.domains)))
    where
      over : Meter → List ℕ → List ℕ → Run Stop Local ℕ
      over m p r = guards_of s.domains (local m p r)

  module _ (arguments : List ℕ) (m : Meter) (t t' p p' r r' : List ℕ) (size : length t ≡ value_row * slots_at rules id) (same : length t' ≡ length t)
      (size' : length p ≡ value_row * slots_at rules id) (same' : length p' ≡ length p) (alike : length r' ≡ length r) where
    -- both go on with the same answer, counts and values before and after guards, and as many refinements the same as the answer says are
    -- recorded, or both are stopped with the same stop and the same counts
    pub rule_anew : Likewise (λ k s s'. Framed k s s') Charged (rule i rules id arguments (frame m t p r)) (rule i rules id arguments (frame m t' p' r'))
    unfolding rule
    rule_anew =
        like_then {P = λ _ s s'. Bound (slots_at rules id) s s'} {Q = Charged} (in_domains (bind i arguments (slots_at rules id) (bindings_at rules id)))
        (holding_domains (slots_at rules id) (guarding i rules id)) (frame m t p r) (frame m t' p' r')
        (like_through _ _ _ _ (bind i arguments (slots_at rules id) (bindings_at rules id)) (frame m t p r) (frame m t' p' r')
        (bind_anew i arguments (slots_at rules id) (bindings_at rules id) m t t' size same)
        (λ _ u v e. record { meter = λ d. (e d).meter; domains = λ d. (e d).rows; size = size'; same = same'; alike = alike }) (λ u v e. e))
        (λ _ s s' q.
        like_through _ _ _ _ (guarding i rules id) s s' (guarding_like s s' q) (λ k u v e. e) (λ u v e d. released (total (e.1 d) (slots_at rules id)) (e.0 d)))
        (λ s s' q. q)
