-- Every store that a list of calls reaches from a fresh one is as `Reached` says, and what a refused call leaves.
use mathlib.Core.Path.{◌≡◌, subst}
use mathlib.Core.Logic.{◌⊎◌}
use mathlib.Core.List.{List, [], ◌∷◌}
use Prim.Native.Nat.{ℕ}
use lib.IntN.{ℤ, pos, ◌+ℤ◌, ◌-ℤ◌}
use Rattle.integers.specs.Order.{Number}
use Rattle.integers.specs.Lists.{All}
use Rattle.limits.specs.declared.Limits.{Limits}
use Rattle.limits.specs.Refusal.{Told}
use Rattle.limits.specs.Metered.{Run, going, stopped}
use Rattle.limits.proofs.Ends.{Ends, completes, stops, ends_as, where_going, where_stopped}
use Rattle.store.specs.Store.{fresh_of}
use Rattle.keys.specs.Key.{number}
use Rattle.constants.specs.Constant.{constant_call}
use Rattle.constants.proofs.Kept.{Surrounds}
use Rattle.constants.proofs.Kept as kept
use Rattle.seeds.specs.Seed.{seed_interval_call}
use Rattle.seeds.proofs.KeptInterval.{seed_interval_kept}
use Rattle.input.specs.Input.{for_constant, from_constant, for_interval, from_interval, done, id, Tables, Call, context, work, predicate, argument, constant, expression, seed_value, seed_interval, rule, Reply, Typed, call, left, played}
use Rattle.input.proofs.Reached.{Sized, Reached, fresh_reached}
use Rattle.input.proofs.Left.{on_ends_lem, Leaves, Stay, Goes, Refused}
use Rattle.input.proofs.Calls.{Keeps, context_keeps, work_keeps, argument_keeps, constant_keeps, expression_keeps}
use Rattle.input.proofs.SeedCalls.{predicate_keeps, seed_value_keeps, seed_interval_keeps}
use Rattle.input.proofs.RuleCalls.{rule_keeps}

pub call_keeps : (c : Call) → Typed c → (t : Tables) → Reached t → Keeps c t
call_keeps (context c) h t r = context_keeps c t h r
call_keeps (work n) h t r = work_keeps n t r
call_keeps (predicate arity) h t r = predicate_keeps arity t r
call_keeps (argument p i) h t r = argument_keeps p i t r
call_keeps (constant k) h t r = constant_keeps k t h r
call_keeps (expression e) h t r = expression_keeps e t r
call_keeps (seed_value a k) h t r = seed_value_keeps a k t r
call_keeps (seed_interval a low high) h t r = seed_interval_keeps a low high t h.0 h.1 r
call_keeps (rule q) h t r = rule_keeps q t h r

pub call_reached : (c : Call) → Typed c → (t : Tables) → Reached t → Ends (λ _ u. Reached u) (λ _ u. Reached u) (call c t)
call_reached c h t r = ends_as (call_keeps c h t r) (λ _ u p. p.reached) (λ _ u p. p.reached)

-- no call takes a threshold away
pub call_stays : (c : Call) → Typed c → (t : Tables) → Reached t → Ends (λ _ u. Stay t u) (λ _ u. Stay t u) (call c t)
call_stays c h t r = ends_as (call_keeps c h t r) (λ _ u p. p.stay) (λ _ u p. p.stay)

-- ---- calls one after another, answered or refused

left_reached : {x : Run Told Tables Reply} → Ends (λ _ u. Reached u) (λ _ u. Reached u) x → Reached (left x)
left_reached (completes p) = p
left_reached (stops p) = p

pub played_reached : (cs : List Call) → All Typed cs → {t : Tables} → Reached t → Reached (played t cs)
unfolding played
played_reached [] h r = r
played_reached (c ∷ cs) h {t} r = played_reached cs h.1 (left_reached (call_reached c h.0 t r))

left_stays : (t : Tables) {x : Run Told Tables Reply} → Ends (λ _ u. Stay t u) (λ _ u. Stay t u) x → Stay t (left x)
left_stays t (completes p) = p
left_stays t (stops p) = p

pub played_stays : (cs : List Call) → All Typed cs → (t : Tables) → Reached t → Stay t (played t cs)
unfolding played
played_stays [] h t r = λ z k. k
played_stays (c ∷ cs) h t r = λ z k. played_stays cs h.1 (left (call c t)) (left_reached (call_reached c h.0 t r)) z (left_stays t (call_stays c h.0 t r) z k)

-- from a fresh store, whatever stands in the tables
pub fresh_played : (l : Limits) (t : Tables) → fresh_of l ≡ going tt t.header → Sized t → (cs : List Call) → All Typed cs → Reached (played t cs)
fresh_played l t e z cs h = played_reached cs h (fresh_reached l t e z)

-- ---- a refused call

module _ (c : Call) (typed : Typed c) (t : Tables) (r : Reached t) (e : Told) (u : Tables) (refused : call c t ≡ stopped e u) where
  told_refused : Refused t e u
  told_refused = where_stopped (subst (λ (x : Run Told Tables Reply). Ends (λ _ v. Goes t v) (Refused t) x) refused (call_keeps c typed t r))

  -- with number 1 or 2 nothing is changed
  pub turned_down : (e.number ≡ 1) ⊎ (e.number ≡ 2) → u ≡ t
  turned_down = told_refused.untouched

  -- otherwise thresholds, provenance records and what was charged of work, links and bytes at most
  pub refused_leaves : Leaves t u
  refused_leaves = told_refused.leaves

-- ---- the numbers that an accepted call names

-- v and its neighbours of 32 bits are thresholds
abbrev pub Around : ℤ → Tables → Type 0
Around v t = Surrounds (number v) t.header.counts.thresholds t.thresholds

-- once they are, they stay
pub around_stays : (v : ℤ) (cs : List Call) → All Typed cs → (t : Tables) → Reached t → Around v t → Around v (played t cs)
around_stays v cs h t r a =
    let s = played_stays cs h t r in
    (s v a.0, (λ n. s (v -ℤ pos 1) (a.1 n)), λ n. s (v +ℤ pos 1) (a.2 n))

module _ (t : Tables) (r : Reached t) {reply : Reply} {u : Tables} where
  pub constant_around : (v : ℤ) → Number v → call (constant (number v)) t ≡ going reply u → Around v u
  unfolding call
  constant_around v n e =
      where_going
      (subst (Ends (λ _ u. Around v u) (λ _ _. Unit {0})) e
      (on_ends_lem for_constant from_constant id (constant_call (number v)) t (kept.constant_keeps (number v) n (for_constant t) r.keyed r.rises) (λ _ w p. p.surrounds) (λ _ _ _. tt)))

  pub interval_around : (a : ℕ) (low high : ℤ) → Number low → Number high → call (seed_interval a low high) t ≡ going reply u → Around low u × Around high u
  unfolding call
  interval_around a low high l h e =
      where_going
      (subst (Ends (λ _ u. Around low u × Around high u) (λ _ _. Unit {0})) e
      (on_ends_lem for_interval from_interval (λ _. done) (seed_interval_call a low high) t (seed_interval_kept t.constants a low high (for_interval t) r.standing r.rises l h) (λ _ w p. (p.low_stands, p.high_stands))
      (λ _ _ _. tt)))
