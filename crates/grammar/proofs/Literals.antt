-- The places of a text's literals that are no 32-bit numbers, computed: they are those of `OutsideAt`.
use Rattle.std.specs.Prelude.{ℕ, suc, ◌+◌, ◌≡◌, refl, Bool, true, false, cond, List, [], ◌∷◌, ◌++◌, length}
use mathlib.Core.Path.{sym, ap, subst, ◌∙◌}
use mathlib.Core.Logic.{◌⊎◌, inl, inr}
use native.Mathlib.Omega.{arith}
use Rattle.std.proofs.lemmas.List.{append_assoc, length-append}
use Rattle.integers.specs.Order.{Number, number?}
use Rattle.integers.proofs.OrderLaws.{number_yes, yes_number}
use Rattle.integers.proofs.Tests.{by_cond}
use Rattle.grammar.specs.Grammar.{Text, Piece, byte, literal, text_pieces, bytes}
use Rattle.grammar.specs.Errors.{worth, OutsideAt}

abbrev pub In : ℕ → List ℕ → Type 0
In d [] = ⊥
In d (e ∷ l) = (d ≡ e) ⊎ In d l

-- of pieces of which the first stands at place n
unfoldable pub outside_from : ℕ → List Piece → List ℕ
outside_from n [] = []
outside_from n (byte b ∷ l) = outside_from (suc n) l
outside_from n (literal own s ∷ l) = cond (number? (worth own s)) (outside_from (n + length s) l) (n ∷ outside_from (n + length s) l)

unfoldable pub outside_places : Text → List ℕ
outside_places t = outside_from 0 (text_pieces t)

record OutsideIn (n : ℕ) (l : List Piece) (d : ℕ) : Type 0 where
  pub before : List Piece
  pub own_minus : Bool
  pub digits : List ℕ
  pub behind : List Piece
  pub stands : l ≡ before ++ (literal own_minus digits ∷ behind)
  pub place : d ≡ n + length (bytes before)
  pub outside : Number (worth own_minus digits) → ⊥

told : (n : ℕ) (a : List Piece) (own : Bool) (s : List ℕ) (c : List Piece) → (Number (worth own s) → ⊥) → (d : ℕ) → d ≡ n + length (bytes a) → In d (outside_from n (a ++ (literal own s ∷ c)))
unfolding outside_from bytes
told n [] own s c o d e = by_cond (In d) (number? (worth own s)) (λ h. absurd (o (number_yes _ h))) (λ h. inl (omega (arith, e)))
told n (byte b ∷ a) own s c o d e = told (suc n) a own s c o d (omega (arith, e))
told n (literal w u ∷ a) own s c o d e =
    let q : length (u ++ bytes a) ≡ length u + length (bytes a) = length-append u (bytes a) in
    let r = told (n + length u) a own s c o d (omega (arith, e, q)) in
    by_cond (In d) (number? (worth w u)) (λ h. r) (λ h. inr r)

later : (n m : ℕ) (p : Piece) (l : List Piece) (d : ℕ) → ((a : List Piece) → n + length (bytes (p ∷ a)) ≡ m + length (bytes a)) → OutsideIn m l d → OutsideIn n (p ∷ l) d
later n m p l d h o = record {
  before = p ∷ o.before;
  own_minus = o.own_minus;
  digits = o.digits;
  behind = o.behind;
  stands = ap (λ k. p ∷ k) o.stands;
  place = o.place ∙ sym (h o.before);
  outside = o.outside;
}

not_yes : (b : Bool) → b ≡ false → b ≡ true → ⊥
not_yes true e h = cc
not_yes false e h = cc

found : (n : ℕ) (l : List Piece) (d : ℕ) → In d (outside_from n l) → OutsideIn n l d
unfolding outside_from bytes
found n [] d h = absurd h
found n (byte b ∷ l) d h = later n (suc n) (byte b) l d (λ a. omega arith) (found (suc n) l d h)
found n (literal own s ∷ l) d h = on (λ a. let q : length (s ++ bytes a) ≡ length s + length (bytes a) = length-append s (bytes a) in omega (arith, q)) (λ k. found (n + length s) l d k) (number? (worth own s)) refl h
  where
    on : ((a : List Piece) → n + length (s ++ bytes a) ≡ (n + length s) + length (bytes a)) → (In d (outside_from (n + length s) l) → OutsideIn (n + length s) l d) →
        (t : Bool) → number? (worth own s) ≡ t → In d (cond t (outside_from (n + length s) l) (n ∷ outside_from (n + length s) l)) → OutsideIn n (literal own s ∷ l) d
    on q k true e h = later n (n + length s) (literal own s) l d q (k h)
    on q k false e (inr h) = later n (n + length s) (literal own s) l d q (k h)
    on q k false e (inl h) = record { before = []; own_minus = own; digits = s; behind = l; stands = refl; place = omega (arith, h); outside = λ o. not_yes _ e (yes_number _ o) }

-- they stay where more pieces stand behind
pub outside_more : (n : ℕ) (l r : List Piece) (d : ℕ) → In d (outside_from n l) → In d (outside_from n (l ++ r))
outside_more n l r d h =
    let o = found n l d h in
    subst (λ k. In d (outside_from n k)) (sym (ap (λ k. k ++ r) o.stands ∙ append_assoc o.before (literal o.own_minus o.digits ∷ o.behind) r)) (told n o.before o.own_minus o.digits (o.behind ++ r) o.outside d o.place)

-- those places and no others
pub outside_exactly : (t : Text) (d : ℕ) → (OutsideAt t d → In d (outside_places t)) × (In d (outside_places t) → OutsideAt t d)
unfolding outside_places
outside_exactly t d = (to, from)
  where
    to : OutsideAt t d → In d (outside_from 0 (text_pieces t))
    to o = subst (λ l. In d (outside_from 0 l)) (sym o.stands) (told 0 o.before o.own_minus o.digits o.behind o.outside d (let e : d ≡ length (bytes o.before) = o.place in omega (arith, e)))

    from : In d (outside_from 0 (text_pieces t)) → OutsideAt t d
    from h = let o = found 0 (text_pieces t) d h in record { before = o.before; own_minus = o.own_minus; digits = o.digits; behind = o.behind; stands = o.stands; place = (let e : d ≡ 0 + length (bytes o.before) = o.place in omega (arith, e)); outside = o.outside }
