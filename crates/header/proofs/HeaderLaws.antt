-- Theorems about the words of a header: a header that is written reads back, whatever stands behind its words.
use Prim.Native.Nat.{ℕ, zero, suc, ◌+◌, ◌%◌, ◌≤◌, ◌<◌, ◌^◌}
use native.Mathlib.Omega.{arith}
use mathlib.Core.Path.{◌≡◌, refl, ap, ◌∙◌}
use mathlib.Core.Bool.{Bool, true, false, cond}
use mathlib.Core.List.{List, [], ◌∷◌, ◌++◌}
use lib.Dec.{eqb}
use lib.ListN.{length, get_or, drop, length-append}
use Rattle.std.specs.Prelude.{Some, None}
use Rattle.std.proofs.lemmas.List.Edits.{sets, sets-eq}
use Rattle.sizes.specs.Sizes as size
use Rattle.integers.proofs.Stores.{sets_both}
use Rattle.limits.specs.declared.Resource.{Resource}
use Rattle.limits.specs.declared.Resource.TheVariants.{Work, Predicates, Positions, Links, ValueEntries, Rounds, InspectedBytes}
use Rattle.limits.specs.declared.Stop.{Stop}
use Rattle.limits.specs.declared.Budget.{Budget}
use Rattle.limits.specs.Context.{Context}
use Rattle.limits.specs.Refusal.{resource_number}
use Rattle.store.specs.declared.Phase.{Phase}
use Rattle.store.specs.declared.Phase.TheVariants.{Absent, Open, Completed, Stopped}
use Rattle.store.specs.declared.Counts.{Counts}
use Rattle.store.specs.declared.Store.{Store}
use Rattle.store.specs.Store.{header}
use Rattle.header.specs.Header.{word, context_in, resource_of, stop_in, header_of, limit_words, statistic_words, count_words, context_words, phase_words, words_of, Small, Ended, Fits}

-- ---- what is written reads back

pub resource_back : (r : Resource) → resource_of (resource_number r) ≡ r
resource_back Work = refl
resource_back Predicates = refl
resource_back Positions = refl
resource_back Links = refl
resource_back ValueEntries = refl
resource_back Rounds = refl
resource_back InspectedBytes = refl

small_back : (n : ℕ) → n < 2 ^ 32 → n % 2 ^ 32 ≡ n
small_back n h = omega arith

module _ (b : Budget) (n : Counts) (r : List ℕ) where
  back : (c : Context) (p : Phase) → Small c → Ended p → header_of (words_of (header b n c p) ++ r) ≡ header b n c p
  unfolding header_of words_of
  back None Absent h k = refl
  back None Open h k = refl
  back None Completed h k = refl
  back None (Stopped s None) h k = rw (resource_back s.resource) refl
  back None (Stopped s (Some m)) h k = rw (resource_back s.resource, small_back m k) refl
  back (Some i) Absent h k = rw (small_back i h) refl
  back (Some i) Open h k = rw (small_back i h) refl
  back (Some i) Completed h k = rw (small_back i h) refl
  back (Some i) (Stopped s None) h k = rw (small_back i h, resource_back s.resource) refl
  back (Some i) (Stopped s (Some m)) h k = rw (small_back i h, small_back m k, resource_back s.resource) refl

-- whatever stands behind the words
pub header_back : (s : Store) (r : List ℕ) → Fits s → header_of (words_of s ++ r) ≡ s
header_back s r f = back s.budget s.counts r s.context s.phase f.context f.phase

-- ---- what a write leaves

context_length : (c : Context) → length (context_words c) ≡ 2
context_length None = refl
context_length (Some n) = refl

phase_length : (p : Phase) → length (phase_words p) ≤ 7
phase_length Absent = omega arith
phase_length Open = omega arith
phase_length Completed = omega arith
phase_length (Stopped s None) = omega arith
phase_length (Stopped s (Some n)) = omega arith

words_length : (s : Store) → length (words_of s) ≤ size.header
unfolding words_of
words_length s = omega (arith, length-append (context_words s.context) (phase_words s.phase), context_length s.context, phase_length s.phase)

module _ (s : Store) (w : List ℕ) where
  pub words_put : {w₁ w₂ w₃ w₄ r : List ℕ} → w₁ ≡ sets w 0 (limit_words s.budget.limits) → w₂ ≡ sets w₁ size.header_counted (statistic_words s.budget.statistics) →
      w₃ ≡ sets w₂ size.header_rows (count_words s.counts) → w₄ ≡ sets w₃ size.header_context (context_words s.context) → r ≡ sets w₄ size.header_phase (phase_words s.phase) → r ≡ sets w 0 (words_of s)
  unfolding words_of
  words_put p₁ p₂ p₃ p₄ p = p ∙ rw (p₄, p₃, p₂, p₁) (rw (sets_both, context_length s.context))

  pub put_back : Fits s → size.header ≤ length w → header_of (sets w 0 (words_of s)) ≡ s
  put_back f h = ap header_of (sets-eq (words_of s) w 0 (omega (arith, words_length s))) ∙ header_back s (drop (0 + length (words_of s)) w) f

-- ---- any words are a header that reads back

small_in : (t : Bool) (n : ℕ) → Small (cond t None (Some (n % 2 ^ 32)))
small_in true n = tt
small_in false n = omega arith

ended_in : (n : ℕ) (s : Stop) (c : Context) → Small c → Ended (get_or (Absent ∷ Open ∷ Completed ∷ []) n (Stopped s c))
ended_in zero s c h = tt
ended_in (suc zero) s c h = tt
ended_in (suc (suc zero)) s c h = tt
ended_in (suc (suc (suc n))) s c h = h

pub header_fits : (w : List ℕ) → Fits (header_of w)
unfolding header_of
header_fits w = record {
  context = small_in (eqb (word w 25) 0) (word w 26);
  phase = ended_in (word w 27) (stop_in w) (context_in w 32) (small_in (eqb (word w 32) 0) (word w 33));
}

pub read_back : (w : List ℕ) → size.header ≤ length w → header_of (sets w 0 (words_of (header_of w))) ≡ header_of w
read_back w h = put_back (header_of w) w (header_fits w) h
