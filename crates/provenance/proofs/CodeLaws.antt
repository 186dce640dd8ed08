-- What the code's answers are, over plain variables: one law for each way out.
use Prim.Native.Nat.{ℕ, ◌+◌, ◌*◌, ◌<◌, ◌≤◌}
use native.Mathlib.Omega.{arith}
use native.Mathlib.Numerals.{add-one}
use mathlib.Core.Path.{◌≡◌, ap}
use mathlib.Core.Bool.{Bool, true, false, cond}
use mathlib.Core.List.{List, [], ◌∷◌}
use borrow.Author.Tests.{lt-ltb}
use lib.Dec.{ltb}
use lib.ListN.{set}
use lib.Seq.{sets}
use Rattle.limits.specs.declared.Stop.{Stop}
use Rattle.limits.specs.declared.Budget.{Budget}
use Rattle.limits.specs.declared.Refusal.{Refusal}
use Rattle.limits.specs.declared.Refusal.TheVariants.{Limit, Missing}
use Rattle.limits.specs.Refusal.{Told, told}
use Rattle.limits.specs.Metered.{Run, going, stopped, pure, after, ◌>>=◌, ◌>>◌, mapped, through}
use Rattle.limits.specs.Budget.{links}
use Rattle.limits.proofs.Monad.{then_on, then_stop, through_on, through_stop}
use Rattle.limits.specs.Context.{Context}
use Rattle.std.proofs.Common.{None, Some}
use Rattle.store.specs.declared.Store.{Store}
use Rattle.store.specs.Store.{with_budget, with_provenance}
use Rattle.store.specs.Calls.{billing}
use Rattle.provenance.specs.Provenance.{Records, records, paying, add_record, record_in, provenance, Room}

-- ---- room

-- with a context in force there is room for n records more
pub room_for : {context : Context} {c : ℕ} (n standing : ℕ) → context ≡ Some c → Room n context standing → standing + n ≤ 1024
room_for n standing e h = rw e at h

-- ---- the cells of a record

pub two_cells : (t : List ℕ) (n a c : ℕ) {t₁ t₂ : List ℕ} → t₁ ≡ set t (2 * n) a → t₂ ≡ set t₁ (2 * n + 1) c → t₂ ≡ sets t (2 * n) (a ∷ c ∷ [])
two_cells t n a c p q = rw (q, p, add-one (2 * n))

-- ---- the ways of `provenance`

in_force : (a : ℕ) (r : Records) {context : Context} {c : ℕ} {x : Run Told Records (Unit {0})} → context ≡ Some c → x ≡ (paying (links 1) >> add_record a c) r → x ≡ record_in a context r
in_force a r e h = rw e h

pub provenance_none : (a : ℕ) (s : Store) (t : List ℕ) → a < s.counts.positions → s.context ≡ None → going tt (records s t) ≡ provenance a (records s t)
unfolding provenance pure
provenance_none a s t h e = rw (lt-ltb a s.counts.positions h, e)

module _ (a : ℕ) (s : Store) (t : List ℕ) (h : a < s.counts.positions) {c : ℕ} (e : s.context ≡ Some c) where
  pub provenance_unpaid : (x : Refusal) {u : Store} → stopped (told x) u ≡ billing (links 1) s → stopped (told x) (records u t) ≡ provenance a (records s t)
  unfolding provenance
  provenance_unpaid x p = rw (lt-ltb a s.counts.positions h) (in_force a (records s t) e (then_stop _ (records s t) _ (through_stop _ _ _ _ (billing (links 1)) (records s t) p)))

  pub provenance_new : {u : Store} {t' : List ℕ} → going tt u ≡ billing (links 1) s → t' ≡ sets t (2 * u.counts.provenance) (a ∷ c ∷ []) →
      going tt (records (with_provenance (u.counts.provenance + 1) u) t') ≡ provenance a (records s t)
  unfolding provenance
  provenance_new p i =
      rw (lt-ltb a s.counts.positions h)
      (in_force a (records s t) e (then_on _ (records s t) _ (through_on _ _ _ _ (billing (links 1)) (records s t) p) (rw i)))

-- ---- for callers

-- a record leaves the thresholds' count as it was
pub provenance_thresholds : (a : ℕ) (s : Store) (t : List ℕ) {u : Store} {t' : List ℕ} → going tt (records u t') ≡ provenance a (records s t) → u.counts.thresholds ≡ s.counts.thresholds
unfolding provenance pure ◌>>◌ ◌>>=◌ after through mapped
provenance_thresholds a s t {u} {t'} = go (ltb a s.counts.positions) s.context
  where
    paid : (c : ℕ) (x : Run Stop Budget (Unit {0})) →
        going tt (records u t') ≡
        after (mapped (λ v. records v t) (λ v. records v t) (λ e. e) (mapped (λ v. v) (λ v. v) (λ e. told (Limit e)) (mapped (λ b. with_budget b s) (λ b. with_budget b s) (λ e. e) x))) (λ _. add_record a c) →
        u.counts.thresholds ≡ s.counts.thresholds
    paid c (going v b) h =
        let e : records u t' ≡ records (with_provenance (s.counts.provenance + 1) (with_budget b s)) (sets t (2 * s.counts.provenance) (a ∷ c ∷ [])) = cc in
        ap (λ (r : Records). r.header.counts.thresholds) e
    paid c (stopped e b) h = let z : ◌≡◌ {A = ℕ} 0 1 = cc in absurd (omega arith)

    go : (b : Bool) (c : Context) → going tt (records u t') ≡ cond b (record_in a c (records s t)) (stopped (told Missing) (records s t)) → u.counts.thresholds ≡ s.counts.thresholds
    go false c h = let z : ◌≡◌ {A = ℕ} 0 1 = cc in absurd (omega arith)
    go true None h = let e : records u t' ≡ records s t = cc in ap (λ (r : Records). r.header.counts.thresholds) e
    go true (Some c) h = paid c (links 1 s.budget) h
