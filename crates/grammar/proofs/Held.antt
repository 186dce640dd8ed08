-- A literal that is outside 32 bits stays so when its digits go on, or more stands behind it.
use Rattle.std.specs.Prelude.{ℕ, zero, suc, ◌+◌, ◌*◌, ◌-◌, ◌≤◌, ◌≡◌, refl, Bool, true, false, cond, List, [], ◌∷◌, ◌++◌, length, pos, neg_ℤ}
use mathlib.Core.Path.{sym, subst}
use mathlib.Core.Logic.{inl, inr}
use native.Mathlib.Omega.{arith}
use Rattle.integers.specs.Order.{Number, number?}
use Rattle.integers.proofs.OrderLaws.{number_yes, yes_number}
use Rattle.integers.proofs.Tests.{by_cond}
use Rattle.grammar.specs.Grammar.{Piece, byte, literal}
use Rattle.grammar.specs.Errors.{number_on, number_of, worth}
use Rattle.grammar.proofs.Grows.{Grows, one_more, begins, goes_on}
use Rattle.grammar.proofs.Literals.{In, outside_from, outside_more}

more_digit : (n : ℕ) (s : List ℕ) (b : ℕ) → number_on n (s ++ (b ∷ [])) ≡ 10 * number_on n s + (b - 48)
unfolding number_on
more_digit n [] b = refl
more_digit n (c ∷ s) b = more_digit (10 * n + (c - 48)) s b

smaller : (n m : ℕ) → n ≤ m → Number (neg_ℤ (pos m)) → Number (neg_ℤ (pos n))
smaller zero m h k = (omega arith, omega arith)
smaller (suc n) zero h k = absurd (omega (arith, h))
smaller (suc n) (suc m) h k = let e = k.0 in (omega (arith, h, e), omega arith)

pub fewer_digits : (own : Bool) (s : List ℕ) (b : ℕ) → Number (worth own (s ++ (b ∷ []))) → Number (worth own s)
fewer_digits false s b h = let e = more_digit 0 s b in let k = h.1 in (omega arith, omega (arith, e, k))
fewer_digits true s b h = let e = more_digit 0 s b in smaller (number_of s) (number_of (s ++ (b ∷ []))) (omega (arith, e)) h

last_more : (d n : ℕ) (a : List Piece) (own : Bool) (s : List ℕ) (b : ℕ) → In d (outside_from n (a ++ (literal own s ∷ []))) → In d (outside_from n (a ++ (literal own (s ++ (b ∷ [])) ∷ [])))
unfolding outside_from
last_more d n [] own s b h =
    by_cond (In d) (number? (worth own (s ++ (b ∷ [])))) (λ e. none_told (fewer_digits own s b (number_yes _ e)) h) (λ e. told_here (number? (worth own s)) h)
  where
    told_here : (t : Bool) → In d (cond t [] (n ∷ [])) → In d (n ∷ [])
    told_here true h = absurd h
    told_here false h = h

    none_told : Number (worth own s) → In d (cond (number? (worth own s)) [] (n ∷ [])) → In d []
    none_told k h = subst (λ t. In d (cond t [] (n ∷ []))) (yes_number _ k) h
last_more d n (byte c ∷ a) own s b h = last_more d (suc n) a own s b h
last_more d n (literal w u ∷ a) own s b h = on _ _ (number? (worth w u)) (last_more d (n + length u) a own s b) h
  where
    on : (l r : List ℕ) (t : Bool) → (In d l → In d r) → In d (cond t l (n ∷ l)) → In d (cond t r (n ∷ r))
    on l r true k h = k h
    on l r false k (inl e) = inl e
    on l r false k (inr h) = inr (k h)

pub grows_keeps : (d n b : ℕ) (p q : List Piece) → Grows b p q → In d (outside_from n p) → In d (outside_from n q)
grows_keeps d n b p q (one_more e) h = subst (λ l. In d (outside_from n l)) (sym e) (outside_more n p (byte b ∷ []) d h)
grows_keeps d n b p q (begins own e) h = subst (λ l. In d (outside_from n l)) (sym e) (outside_more n p (literal own (b ∷ []) ∷ []) d h)
grows_keeps d n b p q (goes_on a own s e f) h =
    subst (λ l. In d (outside_from n l)) (sym f) (last_more d n a own s b (subst (λ l. In d (outside_from n l)) e h))
