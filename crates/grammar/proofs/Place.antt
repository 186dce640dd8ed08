-- The reader turns a file down exactly where specs/Errors tells that it is not a text.
use Rattle.std.specs.Prelude.{ℕ, zero, suc, ◌<◌, ◌≤◌, ◌≡◌, refl, false, ◌&&◌, ltb, List, [], ◌∷◌, take, length}
use mathlib.Core.Path.{sym, ap, subst, ◌∙◌}
use mathlib.Core.Logic.{◌⊎◌, inl, inr}
use native.Mathlib.Omega.{arith}
use Rattle.std.proofs.Math.Option.{Option, some, none}
use Rattle.std.proofs.Math.Seq.{take-length}
use Rattle.std.proofs.lemmas.Bool.{ltb-true, ltb-false, and_cases}
use Rattle.integers.proofs.Tests.{by_cond, and_left, and_right}
use Rattle.grammar.specs.Grammar.{Text, IsText}
use Rattle.grammar.specs.Errors.{most, Begins, NotText, wrong, breaks_off, longer, Before, all, some_of, Judged, not_text, accepted, no_text, a_text}
use Rattle.grammar.specs.Reader.{and_then, State, step, run, beginning, read, lives, turned_down, before_place, read_before}
use Rattle.grammar.proofs.Atoms.{dead_alive}
use Rattle.grammar.proofs.OneReading.{complete, text_is_read, dead_begins_none}
use Rattle.grammar.proofs.Once.{one_before, one_place, no_place}
use Rattle.grammar.proofs.SoundTexts.{text_exactly_if_read}
use Rattle.grammar.proofs.Turned.{begins_exactly_if_alive}

-- ---- how long it lives

abbrev alive_for : Option State → List ℕ → ℕ
alive_for o s = elim o [ none ↦ 0 | some y ↦ suc (lives y s) ]

alive_to : (z : State) (s : List ℕ) (n : ℕ) → n ≤ lives z s → (y : State) × (run z (take n s) ≡ some y)
unfolding run lives
alive_to z s zero h = (z, refl)
alive_to z [] (suc n) h = (z, refl)
alive_to z (b ∷ s) (suc n) h = on (step z b) (λ y k. alive_to y s n k) h
  where
    on : (o : Option State) → ((y : State) → n ≤ lives y s → (x : State) × (run y (take n s) ≡ some x)) → suc n ≤ alive_for o s → (x : State) × (and_then o (λ y. run y (take n s)) ≡ some x)
    on none k h = absurd (omega (arith, h))
    on (some y) k h = k y (omega (arith, h))

dead_after : (z : State) (s : List ℕ) → lives z s < length s → run z (take (suc (lives z s)) s) ≡ none
unfolding run lives
dead_after z [] h = absurd (omega (arith, h))
dead_after z (b ∷ s) h = on (step z b) (λ y k. dead_after y s k) h
  where
    on : (o : Option State) → ((y : State) → lives y s < length s → run y (take (suc (lives y s)) s) ≡ none) → alive_for o s < suc (length s) → and_then o (λ y. run y (take (alive_for o s) s)) ≡ none
    on none k h = refl
    on (some y) k h = k y (omega (arith, h))

begins_to : (s : List ℕ) (n : ℕ) → n ≤ lives beginning s → Begins (take n s)
begins_to s n h = (begins_exactly_if_alive (take n s)).1 (alive_to beginning s n h)

-- ---- what is answered

-- no place: a text that is not longer
abbrev pub Told : List ℕ → Option ℕ → Type 0
Told s none = IsText s × (length s ≤ most)
Told s (some i) = NotText s i

told_wrong : (s : List ℕ) → lives beginning s < length s → lives beginning s < most → NotText s (lives beginning s)
told_wrong s h m = wrong h m (begins_to s (lives beginning s) (omega arith)) (dead_begins_none (take (suc (lives beginning s)) s) (dead_after beginning s h))

told_end : (s : List ℕ) (o : Option Text) → read s ≡ o → length s ≤ most → Begins s → Told s (elim o [ none ↦ some (length s) | some t ↦ none ])
told_end s none e m h = breaks_off m h (λ t. dead_alive (sym e ∙ (text_is_read s t).1))
told_end s (some t) e m h = ((text_exactly_if_read s).1 (t, e), m)

lives_most : (i n : ℕ) → (ltb i n ≡ false) ⊎ (ltb i most ≡ false) → most < n → most ≤ i
lives_most i n (inl e) h = let k : n ≤ i = ltb-false i n e in omega (arith, k, h)
lives_most i n (inr e) h = ltb-false i most e

lives_all : (i n : ℕ) → (ltb i n ≡ false) ⊎ (ltb i most ≡ false) → n ≤ most → n ≤ i
lives_all i n (inl e) h = ltb-false i n e
lives_all i n (inr e) h = let k : most ≤ i = ltb-false i most e in omega (arith, k, h)

pub turned_down_tells : (s : List ℕ) → Told s (turned_down s)
turned_down_tells s =
    let i = lives beginning s in
    by_cond (Told s) (ltb i (length s) && ltb i most) (λ e. told_wrong s (ltb-true i (length s) (and_left _ _ e)) (ltb-true i most (and_right _ _ e))) (λ n.
    by_cond (Told s) (ltb most (length s)) (λ e. let m = ltb-true most (length s) e in longer m (begins_to s most (lives_most i (length s) (and_cases _ _ n) m))) (λ e.
    let m = ltb-false most (length s) e in
    told_end s (read s) refl m (subst Begins (take-length s) (begins_to s (length s) (lives_all i (length s) (and_cases _ _ n) m)))))

told_place : (s : List ℕ) (i : ℕ) (o : Option ℕ) → Told s o → NotText s i → o ≡ some i
told_place s i none k h = absurd (no_place s i k.0 k.1 h)
told_place s i (some j) k h = ap some (one_place s j i k h)

-- the place of 11, and no other
pub not_text_exactly : (s : List ℕ) (i : ℕ) → (NotText s i → turned_down s ≡ some i) × (turned_down s ≡ some i → NotText s i)
not_text_exactly s i = (told_place s i (turned_down s) (turned_down_tells s), λ e. subst (Told s) e (turned_down_tells s))

-- ---- what follows for the bytes before any 11, and for what a file is

is_before : (s : List ℕ) (o : Option ℕ) → Told s o → Before s (before_place s o)
is_before s none k = all k.1 k.0
is_before s (some i) k = some_of k

-- the bytes before any 11 are those that are read before the file is turned down
pub before_exactly : (s b : List ℕ) → (Before s b → b ≡ read_before s) × (b ≡ read_before s → Before s b)
before_exactly s b = (λ h. one_before s b (read_before s) h k, λ e. subst (Before s) (sym e) k)
  where
    k : Before s (read_before s)
    k = is_before s (turned_down s) (turned_down_tells s)

no_place_told : (s : List ℕ) (o : Option ℕ) → Told s o → IsText s → length s ≤ most → o ≡ none
no_place_told s none k t m = refl
no_place_told s (some i) k t m = absurd (no_place s i t m k)

-- a file that is no text is turned down where it says, and one that is a text is read as its tree
pub judged_place : (s : List ℕ) (i : ℕ) → Judged s (not_text i) → turned_down s ≡ some i
judged_place s i (no_text h n) = (not_text_exactly s i).0 h

pub judged_read : (s : List ℕ) (t : Text) → Judged s (accepted t) → (turned_down s ≡ none) × (read s ≡ some t)
judged_read s t (a_text u g e m n) = (no_place_told s (turned_down s) (turned_down_tells s) (t, (g, e)) m, ap read (sym e) ∙ complete t g)
