-- A file is one thing alone: a text with one reading, or none with one place, or one with a literal outside at one place.
use Rattle.std.specs.Prelude.{ℕ, suc, ◌<◌, ◌≤◌, ◌≡◌, refl, List, [], ◌++◌, take, drop, length}
use mathlib.Core.Path.{sym, ap, subst, ◌∙◌}
use mathlib.Core.Logic.{◌⊎◌, inl, inr}
use native.Mathlib.Omega.{arith}
use Rattle.std.proofs.lemmas.List.{append_assoc, append-nil, take-append-drop, take-append-le, length-take-le}
use Rattle.std.proofs.lemmas.Bool.{cases_order}
use Rattle.std.proofs.Math.Seq.{take-length}
use Rattle.grammar.specs.Grammar.{IsText}
use Rattle.grammar.specs.Errors.{most, Begins, NotText, wrong, breaks_off, longer, Before, all, some_of, Outside, Judgement, not_text, outside, accepted, Judged, first_outside, no_text, a_text}
use Rattle.grammar.proofs.OneReading.{one_reading}

-- ---- what begins a text, and where that ends

begins_front : (a c : List ℕ) → Begins (a ++ c) → Begins a
begins_front a c (d, (t, (g, e))) = (c ++ d, (t, (g, e ∙ append_assoc a c d)))

begins_less : (s : List ℕ) (i j : ℕ) → i ≤ j → j ≤ length s → Begins (take j s) → Begins (take i s)
begins_less s i j m n h =
    let n' : length (take j s) ≡ j = length-take-le j s n in
    let e : take i (take j s) ≡ take i s = sym (take-append-le i (take j s) (drop j s) (omega (arith, m, n'))) ∙ ap (λ l. take i l) (take-append-drop j s) in
    begins_front (take i s) (drop i (take j s)) (subst Begins (sym (take-append-drop i (take j s)) ∙ ap (λ l. l ++ drop i (take j s)) e) h)

begins_whole : (s : List ℕ) → Begins s → Begins (take (length s) s)
begins_whole s h = subst Begins (sym (take-length s)) h

text_begins : (s : List ℕ) → IsText s → Begins s
text_begins s (t, (g, e)) = ([], (t, (g, e ∙ sym (append-nil s))))

-- ---- one place

not_before : (s : List ℕ) (i j : ℕ) → NotText s i → NotText s j → i < j → ⊥
not_before s i j (wrong a b h n) (wrong c d k o) l = n (begins_less s (suc i) j (omega (arith, l)) (omega (arith, c)) k)
not_before s i j (wrong a b h n) (breaks_off c k o) l = n (begins_less s (suc i) (length s) (omega (arith, l)) (omega arith) (begins_whole s k))
not_before s i j (wrong a b h n) (longer c k) l = n (begins_less s (suc i) most (omega (arith, l)) (omega (arith, c)) k)
not_before s i j (breaks_off a h n) (wrong c d k o) l = omega (arith, c, l)
not_before s i j (breaks_off a h n) (breaks_off c k o) l = omega (arith, l)
not_before s i j (breaks_off a h n) (longer c k) l = omega (arith, a, c)
not_before s i j (longer a h) (wrong c d k o) l = omega (arith, d, l)
not_before s i j (longer a h) (breaks_off c k o) l = omega (arith, a, c)
not_before s i j (longer a h) (longer c k) l = omega (arith, l)

by_order : (i j : ℕ) → (i < j → ⊥) → (j < i → ⊥) → i ≡ j
by_order i j h k = go (cases_order i j)
  where
    go : (i ≡ j) ⊎ ((i < j) ⊎ (j < i)) → i ≡ j
    go (inl e) = e
    go (inr (inl l)) = absurd (h l)
    go (inr (inr l)) = absurd (k l)

pub one_place : (s : List ℕ) (i j : ℕ) → NotText s i → NotText s j → i ≡ j
one_place s i j h k = by_order i j (not_before s i j h k) (not_before s j i k h)

pub no_place : (s : List ℕ) (i : ℕ) → IsText s → length s ≤ most → NotText s i → ⊥
no_place s i t m (wrong a b h n) = n (begins_less s (suc i) (length s) (omega (arith, a)) (omega arith) (begins_whole s (text_begins s t)))
no_place s i t m (breaks_off a h n) = n t
no_place s i t m (longer a h) = omega (arith, m, a)

pub one_before : (s b c : List ℕ) → Before s b → Before s c → b ≡ c
one_before s b c (all m t) (all n u) = refl
one_before s b c (all m t) (some_of {i = i} h) = absurd (no_place s i t m h)
one_before s b c (some_of {i = i} h) (all m t) = absurd (no_place s i t m h)
one_before s b c (some_of {i = i} h) (some_of {i = j} k) = ap (λ n. take n s) (one_place s i j h k)

-- ---- one judgement

pub judged_once : (s : List ℕ) (x y : Judgement) → Judged s x → Judged s y → x ≡ y
judged_once s x y (first_outside {b = b} {d = d} h o l) (first_outside {b = c} {d = e} k p m) =
    let q : b ≡ c = one_before s b c h k in
    ap outside (by_order d e (λ r. m d r (subst (λ z. Outside z d) q o)) (λ r. l e r (subst (λ z. Outside z e) (sym q) p)))
judged_once s x y (first_outside {b = b} {d = d} h o l) (no_text {i = i} k n) = absurd (n d (subst (λ z. Outside z d) (one_before s b (take i s) h (some_of k)) o))
judged_once s x y (first_outside {b = b} {d = d} h o l) (a_text t g e m n) = absurd (n d (subst (λ z. Outside z d) (one_before s b s h (all m (t, (g, e)))) o))
judged_once s x y (no_text {i = i} k n) (first_outside {b = b} {d = d} h o l) = absurd (n d (subst (λ z. Outside z d) (one_before s b (take i s) h (some_of k)) o))
judged_once s x y (no_text {i = i} k n) (no_text {i = j} h o) = ap not_text (one_place s i j k h)
judged_once s x y (no_text {i = i} k n) (a_text t g e m o) = absurd (no_place s i (t, (g, e)) m k)
judged_once s x y (a_text t g e m n) (first_outside {b = b} {d = d} h o l) = absurd (n d (subst (λ z. Outside z d) (one_before s b s h (all m (t, (g, e)))) o))
judged_once s x y (a_text t g e m n) (no_text {i = i} k o) = absurd (no_place s i (t, (g, e)) m k)
judged_once s x y (a_text t g e m n) (a_text u h f o p) = ap accepted (one_reading t u g h (e ∙ sym f))
