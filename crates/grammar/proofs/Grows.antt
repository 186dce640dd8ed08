-- How what is written grows by a byte: the byte behind it, or as the first digit of a literal, or as its next.
use Rattle.std.specs.Prelude.{ℕ, ◌≡◌, Bool, List, [], ◌∷◌, ◌++◌}
use mathlib.Core.Path.{sym, ap, subst, ◌∙◌}
use Rattle.std.proofs.lemmas.List.{append_assoc, append-nil}
use Rattle.grammar.specs.Grammar.{Piece, byte, literal, bytes}
use Rattle.grammar.proofs.Following.{bytes_append}

pub data Grows (b : ℕ) (p q : List Piece) : Type 0 where
  one_more : q ≡ p ++ (byte b ∷ []) → Grows b p q
  begins : (own : Bool) → q ≡ p ++ (literal own (b ∷ []) ∷ []) → Grows b p q
  goes_on : (a : List Piece) (own : Bool) (s : List ℕ) → p ≡ a ++ (literal own s ∷ []) → q ≡ a ++ (literal own (s ++ (b ∷ [])) ∷ []) → Grows b p q

pub grows_behind : (a : List Piece) (b : ℕ) (p q : List Piece) → Grows b p q → Grows b (a ++ p) (a ++ q)
grows_behind a b p q (one_more e) = one_more (ap (λ k. a ++ k) e ∙ sym (append_assoc a p (byte b ∷ [])))
grows_behind a b p q (begins own e) = begins own (ap (λ k. a ++ k) e ∙ sym (append_assoc a p (literal own (b ∷ []) ∷ [])))
grows_behind a b p q (goes_on c own s e f) =
    goes_on (a ++ c) own s (ap (λ k. a ++ k) e ∙ sym (append_assoc a c (literal own s ∷ []))) (ap (λ k. a ++ k) f ∙ sym (append_assoc a c (literal own (s ++ (b ∷ [])) ∷ [])))

pub grows_same : (b : ℕ) (p q u v : List Piece) → p ≡ u → q ≡ v → Grows b u v → Grows b p q
grows_same b p q u v e f g = subst (λ k. Grows b k q) (sym e) (subst (λ k. Grows b u k) (sym f) g)

pub grows_bytes : (b : ℕ) (p q : List Piece) → Grows b p q → bytes q ≡ bytes p ++ (b ∷ [])
unfolding bytes
grows_bytes b p q (one_more e) = ap bytes e ∙ bytes_append p (byte b ∷ [])
grows_bytes b p q (begins own e) = ap bytes e ∙ bytes_append p (literal own (b ∷ []) ∷ [])
grows_bytes b p q (goes_on c own s e f) =
    ap bytes f ∙ (bytes_append c (literal own (s ++ (b ∷ [])) ∷ []) ∙ (ap (λ k. bytes c ++ k) (append-nil (s ++ (b ∷ []))) ∙ (sym (append_assoc (bytes c) s (b ∷ [])) ∙
    ap (λ k. k ++ (b ∷ [])) (sym (ap bytes e ∙ (bytes_append c (literal own s ∷ []) ∙ ap (λ k. bytes c ++ k) (append-nil s)))))))
