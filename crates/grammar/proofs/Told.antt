-- Of a text, the literals outside 32 bits by its bytes are those of its tree; so a file is judged that is a text, or that is one as far as it is read.
use Rattle.std.specs.Prelude.{ℕ, ◌<◌, ◌≤◌, ◌≡◌, refl, List, [], ◌∷◌, take}
use mathlib.Core.Path.{sym, subst, ◌∙◌}
use mathlib.Core.Logic.{◌⊎◌, inl, inr}
use native.Mathlib.Omega.{arith}
use Rattle.std.proofs.Math.Option.{Option, some, none}
use Rattle.std.proofs.lemmas.Bool.{cases_order}
use Rattle.std.proofs.lemmas.List.{append-nil}
use Rattle.grammar.specs.Grammar.{Text, text_pieces}
use Rattle.grammar.specs.Errors.{NotText, all, some_of, Outside, Judgement, Judged, outside, not_text, accepted, first_outside, no_text, a_text}
use Rattle.grammar.specs.Reader.{run, beginning, text_of, read, turned_down, before_place, read_before}
use Rattle.grammar.proofs.Atoms.{and_taken}
use Rattle.grammar.proofs.Kept.{kept_at}
use Rattle.grammar.proofs.SoundTexts.{sound}
use Rattle.grammar.proofs.Place.{Told, turned_down_tells}
use Rattle.grammar.proofs.Literals.{In, outside_from, outside_places, outside_exactly}
use Rattle.grammar.proofs.Certain.{certain_pieces, certain_outside, text_certain}

-- by the bytes of a text, what its tree has and no other
pub text_outside_exactly : (s : List ℕ) (t : Text) (d : ℕ) → read s ≡ some t → (Outside s d → In d (outside_places t)) × (In d (outside_places t) → Outside s d)
unfolding read outside_places
text_outside_exactly s t d e = (to, from)
  where
    to : Outside s d → In d (outside_from 0 (text_pieces t))
    to o = let k = sound s t e in (outside_exactly t d).0 (o t k.0 [] (k.1 ∙ sym (append-nil s)))

    from : In d (outside_from 0 (text_pieces t)) → Outside s d
    from h =
        let k = and_taken (run beginning s) text_of e in
        let u = kept_at (λ u. text_pieces u ≡ certain_pieces k.0) (text_of k.0) k.1.1 (text_certain k.0.blanks k.0.sentences k.0.now) in
        certain_outside s k.0 d k.1.0 (subst (λ l. In d (outside_from 0 l)) u h)

-- ---- the first of some places

abbrev First : List ℕ → ℕ → Type 0
First l d = In d l × ((e : ℕ) → e < d → In e l → ⊥)

first_with : (n : ℕ) (l : List ℕ) → ((d : ℕ) × First l d) ⊎ ((e : ℕ) → In e l → ⊥) → (d : ℕ) × First (n ∷ l) d
first_with n l (inr h) = (n, (inl refl, alone))
  where
    alone : (e : ℕ) → e < n → In e (n ∷ l) → ⊥
    alone e m (inl q) = omega (arith, m, q)
    alone e m (inr i) = h e i
first_with n l (inl (d, (i, h))) = on (cases_order n d)
  where
    here : n ≤ d → (e : ℕ) → e < n → In e (n ∷ l) → ⊥
    here q e m (inl r) = omega (arith, m, r)
    here q e m (inr r) = h e (omega (arith, m, q)) r

    there : d < n → (e : ℕ) → e < d → In e (n ∷ l) → ⊥
    there q e m (inl r) = omega (arith, m, r, q)
    there q e m (inr r) = h e m r

    on : (n ≡ d) ⊎ ((n < d) ⊎ (d < n)) → (d : ℕ) × First (n ∷ l) d
    on (inl q) = (n, (inl refl, here (omega (arith, q))))
    on (inr (inl q)) = (n, (inl refl, here (omega (arith, q))))
    on (inr (inr q)) = (d, (inr i, there q))

first_of : (l : List ℕ) → ((d : ℕ) × First l d) ⊎ ((e : ℕ) → In e l → ⊥)
first_of [] = inr (λ e h. h)
first_of (n ∷ l) = inl (first_with n l (first_of l))

-- ---- so a file is judged whose bytes before any 11 are a text: by its first literal outside, or where it is turned down, or as its tree

-- no text, and these places are outside by the bytes before it and no others
pub no_text_judged : (s : List ℕ) (n : ℕ) (l : List ℕ) → NotText s n → ((d : ℕ) → (Outside (take n s) d → In d l) × (In d l → Outside (take n s) d)) → (x : Judgement) × Judged s x
no_text_judged s n l k e = on (first_of l)
  where
    on : ((d : ℕ) × First l d) ⊎ ((d : ℕ) → In d l → ⊥) → (x : Judgement) × Judged s x
    on (inl (d, (i, h))) = (outside d, first_outside (some_of k) ((e d).1 i) (λ c m o. h c m ((e c).0 o)))
    on (inr h) = (not_text n, no_text k (λ d o. h d ((e d).0 o)))

judged_by : (s : List ℕ) (o : Option ℕ) (t : Text) → Told s o → read (before_place s o) ≡ some t → ((d : ℕ) × First (outside_places t) d) ⊎ ((d : ℕ) → In d (outside_places t) → ⊥) → (x : Judgement) × Judged s x
judged_by s none t k e (inl (d, (i, h))) = (outside d, first_outside (all k.1 k.0) ((text_outside_exactly s t d e).1 i) (λ c l o. h c l ((text_outside_exactly s t c e).0 o)))
judged_by s none t k e (inr h) = let q = sound s t e in (accepted t, a_text t q.0 q.1 k.1 (λ d o. h d ((text_outside_exactly s t d e).0 o)))
judged_by s (some n) t k e h = no_text_judged s n (outside_places t) k (λ d. text_outside_exactly (take n s) t d e)

pub judged_if_read : (s : List ℕ) (t : Text) → read (read_before s) ≡ some t → (x : Judgement) × Judged s x
judged_if_read s t e = judged_by s (turned_down s) t (turned_down_tells s) e (first_of (outside_places t))
