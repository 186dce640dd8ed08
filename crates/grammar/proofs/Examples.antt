-- The examples are good trees of these texts, and the reader reads them so; texts that are none are dead at the byte that is told.
use Rattle.std.specs.Prelude.{ℕ, ◌≡◌, ◌++◌, refl, List, [], ◌∷◌, codes, replicate}
use Rattle.std.proofs.Math.Option.{Option, some, none}
use Rattle.grammar.specs.Grammar.{print, bytes, next_pieces, sentences_pieces, sum_pieces}
use Rattle.integers.specs.Order.{number?}
use Rattle.grammar.specs.Errors.{number_on}
use Rattle.grammar.specs.Example.{example, facts}
use Rattle.grammar.specs.Reader.{class_of, step, run, and_then, read, lives, beginning, turned_down}
use Rattle.grammar.proofs.Literals.{outside_from, outside_places}

pub example_print : print example ≡ codes "p(X+1) :- p(X), X < 10."
unfolding print bytes next_pieces sentences_pieces sum_pieces
example_print = refl

pub facts_print : print facts ≡ codes "\nq2( - 007,idle, -5 ..3).\n"
unfolding print bytes next_pieces sentences_pieces sum_pieces
facts_print = refl

pub example_read : read (codes "p(X+1) :- p(X), X < 10.") ≡ some example
unfolding class_of step run read
example_read = refl

pub facts_read : read (codes "\nq2( - 007,idle, -5 ..3).\n") ≡ some facts
unfolding class_of step run read
facts_read = refl

-- ---- read, and written again

again : List ℕ → Option (List ℕ)
unfolding class_of step run read print bytes next_pieces sentences_pieces sum_pieces
again s = and_then (read s) (λ t. some (print t))

data Row : Type 0 where
  accepted : List ℕ → Row
  -- where it is dead
  dead : List ℕ → ℕ → Row

Right : Row → Type 0
unfolding again lives
Right (accepted s) = again s ≡ some s
Right (dead s i) = lives beginning s ≡ i

Every : List Row → Type 0
unfolding Right
Every [] = Unit {0}
Every (r ∷ l) = Right r × Every l

table : List Row
table =
    accepted (codes "p(X+1) :- p(X), X < 10.") ∷
    accepted (codes "") ∷
    accepted (codes " \n") ∷
    accepted (codes "p(- 5).") ∷
    accepted (codes "p(-0,-5 .. -3,0007).q(a).\n") ∷
    accepted (codes "p(X*-2-1-(Y)):-q(X,Y),X>=Y,X=idle,- -X!=1,(X)<=(((2))).") ∷
    accepted (codes "p(X):-name<X.") ∷
    dead (codes "p(0..9,-2147483648,X") 19 ∷
    dead (codes "p(0..9,X") 7 ∷
    dead (codes "p(0..9,-a") 8 ∷
    dead (codes "p(0..9,1+") 8 ∷
    dead (codes "p(0..9) :") 8 ∷
    dead (codes "p(X,0.") 5 ∷
    dead (codes "p(0. .9).") 4 ∷
    dead (codes "p(X):-X< =1.") 9 ∷
    dead (codes "p(X): -p(X).") 5 ∷
    dead (codes "p(X).") 4 ∷
    dead (codes "p(--5).") 6 ∷
    dead (codes "p(-a).") 5 ∷
    dead (codes "p((1)).") 6 ∷
    dead (codes "p(1)\t.") 4 ∷
    dead (codes "p(X):-X<Y<1.") 9 ∷
    dead (codes "p(X):-(X<Y).") 8 ∷
    dead (codes "P(1).") 0 ∷
    dead (codes "p().") 2 ∷
    dead (codes "p.") 1 ∷
    dead (codes "p(X):-p(1).") 8 ∷
    dead (codes "p(X):-p(a).") 8 ∷
    dead (codes "1.") 0 ∷
    dead (codes "p(1) 2.") 5 ∷
    dead (codes "p(X):-s(X,idle).") 10 ∷
    dead (codes "p(1 2).") 4 ∷
    dead (codes "p(a b).") 4 ∷
    dead (codes "p(X):-1.") 7 ∷
    dead (codes "p(1).\r\n") 5 ∷
    dead (codes "a" ++ (replicate 64 98 ++ codes "(1).")) 64 ∷
    accepted (codes "a" ++ (replicate 63 98 ++ codes "(1).")) ∷
    []

table_right : Every table
unfolding Every table
table_right = (refl, (refl, (refl, (refl, (refl, (refl, (refl, (refl, (refl, (refl, (refl, (refl, (refl, (refl, (refl, (refl, (refl, (refl, (refl, (refl, (refl, (refl, (refl, (refl, (refl, (refl, (refl, (refl, (refl, (refl, (refl, (refl, (refl, (refl, (refl, (refl, (refl, tt)))))))))))))))))))))))))))))))))))))

-- ---- where a file is turned down

place : List ℕ → Option ℕ
unfolding class_of step run read lives
place s = turned_down s

whole_place : place (codes "p(1).") ≡ none
unfolding place
whole_place = refl

dead_place : place (codes "p(1). Q") ≡ some 6
unfolding place
dead_place = refl

broken_place : place (codes "p(1). q(X):-p(X)") ≡ some 16
unfolding place
broken_place = refl

-- ---- the places of literals outside 32 bits

places : List ℕ → Option (List ℕ)
unfolding class_of step run read next_pieces sentences_pieces sum_pieces outside_from outside_places number? number_on bytes
places s = and_then (read s) (λ t. some (outside_places t))

greatest_and_one : places (codes "p(2147483648).") ≡ some (2 ∷ [])
unfolding places
greatest_and_one = refl

greatest : places (codes "p(2147483647).") ≡ some []
unfolding places
greatest = refl

-- in a fact its own minus counts
least : places (codes "p(-2147483648).") ≡ some []
unfolding places
least = refl

below_least : places (codes "p(0..-2147483649, - 02147483649).") ≡ some (6 ∷ 20 ∷ [])
unfolding places
below_least = refl

-- in a rule there is none
least_in_rule : places (codes "p(-2147483648):-q(X),X<2147483648.") ≡ some (3 ∷ 23 ∷ [])
unfolding places
least_in_rule = refl
