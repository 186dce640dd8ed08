-- A literal that is outside 32 bits with its own minus is outside without it too: so the places outside in a fact are outside in the rule that it may become.
use Rattle.std.specs.Prelude.{ℕ, zero, suc, ◌+◌, ◌≡◌, refl, Bool, true, false, cond, List, [], ◌∷◌, ◌++◌, length, pos, neg_ℤ}
use mathlib.Core.Path.{ap, subst}
use mathlib.Core.Logic.{inl, inr}
use native.Mathlib.Omega.{arith}
use Rattle.integers.specs.Order.{Number, number?}
use Rattle.integers.proofs.OrderLaws.{number_yes, yes_number}
use Rattle.integers.proofs.Tests.{by_cond}
use Rattle.grammar.specs.Grammar.{Piece, byte, literal, pieces}
use Rattle.grammar.specs.Errors.{number_of, worth}
use Rattle.grammar.proofs.Literals.{In, outside_from}

-- no literal has its own minus
unfoldable pub bare : List Piece → List Piece
bare [] = []
bare (byte b ∷ l) = byte b ∷ bare l
bare (literal own s ∷ l) = literal false s ∷ bare l

pub bare_append : (p q : List Piece) → bare (p ++ q) ≡ bare p ++ bare q
unfolding bare
bare_append [] q = refl
bare_append (byte b ∷ p) q = ap (λ k. byte b ∷ k) (bare_append p q)
bare_append (literal own s ∷ p) q = ap (λ k. literal false s ∷ k) (bare_append p q)

pub bare_bytes : (s : List ℕ) → bare (pieces s) ≡ pieces s
unfolding bare
bare_bytes [] = refl
bare_bytes (b ∷ s) = ap (λ k. byte b ∷ k) (bare_bytes s)

negated : (n : ℕ) → Number (pos n) → Number (neg_ℤ (pos n))
negated zero h = h
negated (suc n) h = let e = h.1 in (omega (arith, e), omega arith)

-- also of the least number: with its minus it is inside, and nothing is said
pub without_minus : (own : Bool) (s : List ℕ) → Number (worth false s) → Number (worth own s)
without_minus false s h = h
without_minus true s h = negated (number_of s) h

-- told in the pieces as they are, so told without the minuses
pub bare_keeps : (d n : ℕ) (a p : List Piece) → In d (outside_from n (a ++ p)) → In d (outside_from n (a ++ bare p))
unfolding outside_from bare
bare_keeps d n [] [] h = h
bare_keeps d n [] (byte b ∷ p) h = bare_keeps d (suc n) [] p h
bare_keeps d n [] (literal own s ∷ p) h =
    let l = outside_from (n + length s) p in
    let r = outside_from (n + length s) (bare p) in
    let k : In d l → In d r = bare_keeps d (n + length s) [] p in
    by_cond (In d) (number? (worth false s)) (λ e. inside l r k (without_minus own s (number_yes _ e)) h) (λ e. any l r (number? (worth own s)) k h)
  where
    inside : (l r : List ℕ) → (In d l → In d r) → Number (worth own s) → In d (cond (number? (worth own s)) l (n ∷ l)) → In d r
    inside l r k q h = k (subst (λ t. In d (cond t l (n ∷ l))) (yes_number _ q) h)

    any : (l r : List ℕ) (t : Bool) → (In d l → In d r) → In d (cond t l (n ∷ l)) → In d (n ∷ r)
    any l r true k h = inr (k h)
    any l r false k (inl e) = inl e
    any l r false k (inr h) = inr (k h)
bare_keeps d n (byte b ∷ a) p h = bare_keeps d (suc n) a p h
bare_keeps d n (literal own s ∷ a) p h = on _ _ (number? (worth own s)) (bare_keeps d (n + length s) a p) h
  where
    on : (l r : List ℕ) (t : Bool) → (In d l → In d r) → In d (cond t l (n ∷ l)) → In d (cond t r (n ∷ r))
    on l r true k h = k h
    on l r false k (inl e) = inl e
    on l r false k (inr h) = inr (k h)
