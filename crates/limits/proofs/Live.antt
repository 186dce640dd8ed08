-- How many entries are live afterwards. A computation is begun while n entries of the one who runs it are live beside any others: where it
-- completes, `size` of its value says how many there are instead, and where it is stopped all of them are gone.
use Prim.Native.Nat.{ℕ, ◌+◌}
use native.Mathlib.Omega.{arith}
use mathlib.Core.Path.{◌≡◌, refl, subst}
use Rattle.std.proofs.Common.{Result, Ok, Err}
use mathlib.Core.Bool.{Bool, true, false, cond}
use mathlib.Core.List.{List, [], ◌∷◌}
use lib.Dec.{leb}
use Rattle.limits.specs.declared.Resource.TheVariants.{Work, ValueEntries}
use Rattle.limits.specs.declared.Stop.{Stop}
use Rattle.limits.specs.Charge.{stop_of, charge_of}
use Rattle.limits.specs.Metered.{Run, going, stopped, Metered, pure, after, ◌>>=◌, ◌>>◌, fold_m, mapped, through}
use Rattle.limits.specs.declared.Meter.{Meter}
use Rattle.limits.specs.Meter.{work, retain, release, released, holding, dropping, charged, with_work, with_entries}
use Rattle.limits.proofs.Monad.{Holds, Ensures}
use Rattle.limits.proofs.Ends.{Ends, completes, stops}

module _ {A : Type 0} where
  abbrev pub LiveIn : ℕ → (A → ℕ) → Run Stop Meter A → Type 0
  LiveIn e size (going a m) = m.entries ≡ e + size a
  LiveIn e size (stopped x m) = m.entries ≡ e

  pub record Lives (n : ℕ) (size : A → ℕ) (c : Metered Stop Meter A) : Type 0 where
    pub at : (e : ℕ) (m : Meter) → m.entries ≡ e + n → LiveIn e size (c m)

  pub live_pure : {size : A → ℕ} (n : ℕ) (a : A) → n ≡ size a → Lives n size (pure a)
  unfolding pure
  live_pure n a h = record { at = λ e m k. omega arith }

  pub live_test : {n : ℕ} {size : A → ℕ} (t : Bool) {c d : Metered Stop Meter A} → (t ≡ true → Lives n size c) → (t ≡ false → Lives n size d) → Lives n size (cond t c d)
  live_test true f g = f refl
  live_test false f g = g refl

  as_live : {f g : A → ℕ} → ((a : A) → f a ≡ g a) → (e : ℕ) (x : Run Stop Meter A) → LiveIn e f x → LiveIn e g x
  as_live q e (going a m) h = let k = q a in omega arith
  as_live q e (stopped s m) h = h

  -- the same size in other words
  pub live_as : {n : ℕ} {f g : A → ℕ} {c : Metered Stop Meter A} → ((a : A) → f a ≡ g a) → Lives n f c → Lives n g c
  live_as {f} {g} {c} q h = record { at = λ e m k. as_live {f = f} {g = g} q e (c m) (h.at e m k) }

module _ {A B : Type 0} where
  after_live : {f : A → ℕ} {g : B → ℕ} {k : A → Metered Stop Meter B} (e : ℕ) (x : Run Stop Meter A) → LiveIn e f x → ((a : A) → Lives (f a) g (k a)) → LiveIn e g (after x k)
  unfolding after
  after_live e (going a m) h l = (l a).at e m h
  after_live e (stopped s m) h l = h

  pub live_bind : {n : ℕ} {f : A → ℕ} {g : B → ℕ} {c : Metered Stop Meter A} {k : A → Metered Stop Meter B} → Lives n f c → ((a : A) → Lives (f a) g (k a)) → Lives n g (c >>= k)
  unfolding ◌>>=◌
  live_bind {f} {c} h l = record { at = λ e m q. after_live {f = f} e (c m) (h.at e m q) l }

  pub live_then : {n i : ℕ} {g : B → ℕ} {c : Metered Stop Meter A} {k : Metered Stop Meter B} → Lives n (λ _. i) c → Lives i g k → Lives n g (c >> k)
  unfolding ◌>>◌
  live_then h l = live_bind h (λ _. l)

module _ {A B : Type 0} where
  pub live_fold : {n : ℕ} {f : B → A → Metered Stop Meter B} → ((b : B) (a : A) → Lives n (λ _. n) (f b a)) → (b : B) (l : List A) → Lives n (λ _. n) (fold_m f b l)
  unfolding fold_m
  live_fold {n} h b [] = live_pure n b refl
  live_fold h b (a ∷ l) = live_bind (h b a) (λ b'. live_fold h b' l)

-- ---- the charges

charged_work : (m : Meter) (x : Result ℕ Stop) → LiveIn m.entries (λ _. 0) (charged (λ n. with_work n m) m x)
charged_work m (Ok n) = omega arith
charged_work m (Err e) = refl

pub live_work : (amount : ℕ) → Lives 0 (λ _. 0) (work amount)
unfolding work
live_work amount = record {
  at = λ e m h.
      subst (λ (i : ℕ). LiveIn i (λ _. 0) (charged (λ n. with_work n m) m (charge_of Work m.work amount m.max_work))) (omega arith)
      (charged_work m (charge_of Work m.work amount m.max_work));
}

charged_entries : (m : Meter) (count : ℕ) (t : Bool) (s : Stop) → LiveIn m.entries (λ _. count) (charged (λ n. with_entries n m) m (cond t (Ok (m.entries + count)) (Err s)))
charged_entries m count true s = refl
charged_entries m count false s = refl

pub live_retain : (count : ℕ) → Lives 0 (λ _. count) (retain count)
unfolding retain charge_of
live_retain count = record {
  at = λ e m h.
      subst (λ (i : ℕ). LiveIn i (λ _. count) (retain count m)) (omega arith)
      (charged_entries m count (leb (m.entries + count) m.max_entries) (stop_of ValueEntries m.max_entries (m.entries + count)));
}

pub live_release : (n : ℕ) → Lives n (λ _. 0) (release n)
unfolding release
live_release n = record { at = λ e m h. omega arith }

-- what is done while n entries are held, and gives them back where it is stopped
module _ {A : Type 0} where
  holding_live : (size : A → ℕ) (n e : ℕ) (x : Run Stop Meter A) → LiveIn (e + n) size x → LiveIn e (λ a. n + size a) (mapped (λ t. t) (released n) (λ s. s) x)
  unfolding mapped
  holding_live size n e (going a m) h = omega arith
  holding_live size n e (stopped s m) h = omega arith

  pub live_holding : {size : A → ℕ} (n : ℕ) {c : Metered Stop Meter A} → Lives 0 size c → Lives n (λ a. n + size a) (holding n c)
  unfolding through
  live_holding {size} n {c} h = record { at = λ e m k. holding_live size n e (c m) (h.at (e + n) m (omega arith)) }

  -- what holds no entries of its own
  pub live_beside : (n : ℕ) {c : Metered Stop Meter A} → Lives 0 (λ _. 0) c → Lives n (λ _. n) (holding n c)
  live_beside n h = live_as (λ _. omega arith) (live_holding n h)

  -- what is done while n entries are live, which go whichever way it ends
  dropping_live : (size : A → ℕ) (n e : ℕ) (x : Run Stop Meter A) → LiveIn (e + n) size x → LiveIn e size (mapped (released n) (released n) (λ s. s) x)
  unfolding mapped
  dropping_live size n e (going a m) h = omega arith
  dropping_live size n e (stopped s m) h = omega arith

  pub live_dropping : {size : A → ℕ} (n : ℕ) {c : Metered Stop Meter A} → Lives 0 size c → Lives n size (dropping n c)
  unfolding through
  live_dropping {size} n {c} h = record { at = λ e m k. dropping_live size n e (c m) (h.at (e + n) m (omega arith)) }

-- ---- with what holds of the value, as an end

module _ {A : Type 0} where
  in_ends_lem : (P : A → Type 0) (size : A → ℕ) (e : ℕ) (x : Run Stop Meter A) → LiveIn e size x → Holds P x → Ends (λ a m. P a × (m.entries ≡ e + size a)) (λ _ m. m.entries ≡ e) x
  in_ends_lem P size e (going a m) h p = completes (p, h)
  in_ends_lem P size e (stopped s m) h p = stops h

  pub live_ends : {P : A → Type 0} {size : A → ℕ} {c : Metered Stop Meter A} → Lives 0 size c → Ensures P c → (m : Meter) →
      Ends (λ a m'. P a × (m'.entries ≡ m.entries + size a)) (λ _ m'. m'.entries ≡ m.entries) (c m)
  live_ends {P} {size} {c} h k m = in_ends_lem P size m.entries (c m) (h.at m.entries m (omega arith)) (k.at m)
