-- The head of a rule, and the items of a body, are read as their trees.
use Rattle.std.specs.Prelude.{◌≡◌, refl, List, [], ◌∷◌, ◌++◌}
use mathlib.Core.Path.{sym, ap, subst, ◌∙◌}
use Rattle.std.proofs.Math.Option.{Option, some, none}
use Rattle.std.proofs.lemmas.List.{append_assoc}
use Rattle.rules.specs.declared.Relation.{Relation}
use Rattle.rules.specs.declared.Relation.TheVariants.{Lt, Le, Gt, Ge, Eq, Neq}
use Rattle.grammar.specs.Bytes.{Blanks}
use Rattle.grammar.specs.Grammar.{Word, Next, next, Items, items, Atom, atom_of, Sum, Leaf, Item, atom, comparison, Sentence, word_pieces, sum_pieces, item_pieces, pieces, relation_bytes, blank_pieces, items_pieces, sign, byte, GoodSum, GoodItem, GoodItems, IsVariable}
use Rattle.grammar.specs.Grammar as tree
use Rattle.grammar.specs.Reader.{Class, comma, closing, opening, less, greater, equals, bang, stop, class_of, and_then, SumLeft, ProductLeft, Level, empty_level, Open, Part, part, part_step, atom_with, ItemPart, left, not_yet, right, variable_awaited, variable_standing, atom_read, atom_at, item_step, item_of, argument, closed, body, ended, rule_step, rule_with, body_comma}
use Rattle.grammar.proofs.Following.{Reads, then, one_then, blanks_read, variable_read}
use Rattle.grammar.proofs.Parts.{after_sum, sum_read, sum_back, leaf_read}
use Rattle.grammar.proofs.Atoms.{dead_alive, lifted, Sequence, sequence_read, Arguments, arguments_read}

-- ---- the head

pub in_head : (p : Word) (l : List (Next Sum)) (st : Blanks) (o : List Open) (v : Level) (x : Option Leaf) (c : Class) (y : Part) → part_step (part st o v x) c ≡ some y → rule_step (argument p l (part st o v x)) c ≡ some (argument p l y)
in_head p l st o v none comma y e = absurd (dead_alive e)
in_head p l st o v (some x) comma y e = absurd (dead_alive e)
in_head p l st [] v none closing y e = absurd (dead_alive e)
in_head p l st (b ∷ o) v none closing y e = absurd (dead_alive e)
in_head p l st [] v (some x) closing y e = absurd (dead_alive e)
in_head p l st (b ∷ o) v (some x) closing y e = ap (λ r. and_then r (λ u. some (argument p l u))) e
in_head p l st o v x c y e = ap (λ r. and_then r (λ u. some (argument p l u))) e

head_arguments : (p : Word) → Arguments rule_step sum_pieces GoodSum p (λ l s. argument p l (part s [] empty_level none)) (λ l s a. argument p l (after_sum s [] a)) (λ a. closed a)
unfolding class_of
head_arguments p = record {
  on_blank = λ l s x. refl;
  on_item = λ l s a g. lifted part_step rule_step (λ z. argument p l z) (λ z c y e. in_head p l z.start z.brackets z.level z.operand c y e) (sum_read s [] a g);
  on_comma = λ l s a. ap (λ t. some (argument p (l ++ (next s t ∷ [])) (part [] [] empty_level none))) (sum_back a);
  on_stop = λ l s a. ap (λ t. some (closed (atom_with p l (next s t)))) (sum_back a);
  alone = λ n. refl;
  several = λ m l n. refl;
}

pub head_read : (p : Word) (b : Blanks) (t : Items Sum) (c : Blanks) → GoodItems GoodSum t → Reads rule_step (argument p [] (part [] [] empty_level none)) (blank_pieces b ++ (items_pieces sum_pieces t ++ sign 41 c)) (closed (atom_of p b t c))
head_read p = arguments_read rule_step sum_pieces GoodSum p (λ l s. argument p l (part s [] empty_level none)) (λ l s a. argument p l (after_sum s [] a)) (λ a. closed a) (head_arguments p) (λ a x. refl)

-- ---- an item: its parts

at_opening : (z : Part) (o : List Open) (s : Option SumLeft) (p : Option ProductLeft) (m : List Blanks) → atom_at z o s p m none ≡ and_then (part_step z opening) (λ y. some (left y))
at_opening z [] none none [] = refl
at_opening z o s p m = refl

pub in_left : (st : Blanks) (o : List Open) (v : Level) (x : Option Leaf) (c : Class) (y : Part) → part_step (part st o v x) c ≡ some y → item_step (left (part st o v x)) c ≡ some (left y)
in_left st o v none less y e = absurd (dead_alive e)
in_left st o v (some x) less y e = absurd (dead_alive e)
in_left st o v none greater y e = absurd (dead_alive e)
in_left st o v (some x) greater y e = absurd (dead_alive e)
in_left st o v none equals y e = absurd (dead_alive e)
in_left st o v (some x) equals y e = absurd (dead_alive e)
in_left st o v none bang y e = absurd (dead_alive e)
in_left st o v (some x) bang y e = absurd (dead_alive e)
in_left st o v none opening y e = at_opening (part st o v none) o v.sum v.product v.minuses ∙ ap (λ r. and_then r (λ u. some (left u))) e
in_left st o v (some x) opening y e = absurd (dead_alive e)
in_left st o v x c y e = ap (λ r. and_then r (λ u. some (left u))) e

pub in_right : (b : Blanks) (s : Sum) (r : Relation) (st : Blanks) (o : List Open) (v : Level) (x : Option Leaf) (c : Class) (y : Part) → part_step (part st o v x) c ≡ some y → item_step (right b s r (part st o v x)) c ≡ some (right b s r y)
in_right b s r st o v none equals y e = absurd (dead_alive e)
in_right b s r st o v (some x) equals y e = absurd (dead_alive e)
in_right b s r st o v x c y e = ap (λ q. and_then q (λ u. some (right b s r u))) e

left_read : (b : Blanks) (s : Sum) → GoodSum s → Reads item_step (left (part b [] empty_level none)) (sum_pieces s) (left (after_sum b [] s))
left_read b s g = lifted part_step item_step (λ z. left z) (λ z c y e. in_left z.start z.brackets z.level z.operand c y e) (sum_read b [] s g)

right_read : (b : Blanks) (l : Sum) (r : Relation) (k : Blanks) (s : Sum) → GoodSum s → Reads item_step (right b l r (part k [] empty_level none)) (sum_pieces s) (right b l r (after_sum k [] s))
right_read b l r k s g = lifted part_step item_step (λ z. right b l r z) (λ z c y e. in_right b l r z.start z.brackets z.level z.operand c y e) (sum_read k [] s g)

relation_read : (b : Blanks) (s : Sum) (r : Relation) (k : Blanks) → Reads item_step (left (after_sum b [] s)) (pieces (relation_bytes r) ++ blank_pieces k) (right b s r (part k [] empty_level none))
unfolding class_of
relation_read b s Lt k = one_then 60 (ap (λ t. some (right b t Lt (part [] [] empty_level none))) (sum_back s)) (blanks_read (λ c. right b s Lt (part c [] empty_level none)) (λ c x. refl) [] k)
relation_read b s Le k = one_then 60 (ap (λ t. some (right b t Lt (part [] [] empty_level none))) (sum_back s)) (one_then 61 refl (blanks_read (λ c. right b s Le (part c [] empty_level none)) (λ c x. refl) [] k))
relation_read b s Gt k = one_then 62 (ap (λ t. some (right b t Gt (part [] [] empty_level none))) (sum_back s)) (blanks_read (λ c. right b s Gt (part c [] empty_level none)) (λ c x. refl) [] k)
relation_read b s Ge k = one_then 62 (ap (λ t. some (right b t Gt (part [] [] empty_level none))) (sum_back s)) (one_then 61 refl (blanks_read (λ c. right b s Ge (part c [] empty_level none)) (λ c x. refl) [] k))
relation_read b s Eq k = one_then 61 (ap (λ t. some (right b t Eq (part [] [] empty_level none))) (sum_back s)) (blanks_read (λ c. right b s Eq (part c [] empty_level none)) (λ c x. refl) [] k)
relation_read b s Neq k = one_then 33 (ap (λ t. some (not_yet b t)) (sum_back s)) (one_then 61 refl (blanks_read (λ c. right b s Neq (part c [] empty_level none)) (λ c x. refl) [] k))

body_arguments : (b : Blanks) (p : Word) → Arguments item_step word_pieces (λ w. IsVariable w.bytes) p (λ l s. variable_awaited b p l s) (λ l s w. variable_standing b p l s w) (λ a. atom_read b a)
unfolding class_of
body_arguments b p = record {
  on_blank = λ l s x. refl;
  on_item = λ l s w g. variable_read (λ v. variable_standing b p l s v) (record { on_blank = λ v x. refl; on_digit = λ v d. refl; on_capital = λ v d. refl; on_lower = λ v d. refl }) (variable_awaited b p l s) (λ d. refl) w.bytes w.blanks g;
  on_comma = λ l s a. refl;
  on_stop = λ l s a. refl;
  alone = λ n. refl;
  several = λ m l n. refl;
}

-- ---- an item

abbrev pub end_of : Blanks → Item → ItemPart
end_of b (atom a) = atom_read b a
end_of b (comparison l r k s) = right b l r (after_sum k [] s)

item_read : (b : Blanks) (i : Item) → GoodItem i → Reads item_step (left (part b [] empty_level none)) (item_pieces i) (end_of b i)
unfolding class_of sum_pieces
item_read b (atom a) g =
    then (lifted part_step item_step (λ z. left z) (λ z c y e. in_left z.start z.brackets z.level z.operand c y e) (leaf_read b [] empty_level (tree.name a.predicate) g.0))
    (one_then 40 refl (arguments_read item_step word_pieces (λ w. IsVariable w.bytes) a.predicate (λ l s. variable_awaited b a.predicate l s) (λ l s w. variable_standing b a.predicate l s w) (λ t. atom_read b t) (body_arguments b a.predicate) (λ t x. refl)
    a.before a.arguments a.behind g.1))
item_read b (comparison l r k s) g =
    then (left_read b l g.0) (subst (λ t. Reads item_step (left (after_sum b [] l)) t (right b l r (after_sum k [] s))) (append_assoc (pieces (relation_bytes r)) (blank_pieces k) (sum_pieces s))
    (then (relation_read b l r k) (right_read b l r k s g.1)))

item_back : (b : Blanks) (i : Item) → item_of (end_of b i) ≡ some (next b i)
item_back b (atom a) = refl
item_back b (comparison l r k s) = ap (λ t. some (next b (comparison l r k t))) (sum_back s)

-- ---- the body

dead_and : {A B : Type 0} (o : Option A) (k : A → Option B) {y : B} → o ≡ none → and_then o k ≡ some y → ⊥
dead_and o k q e = dead_alive (sym (ap (λ t. and_then t k) q) ∙ e)

pub comma_dead : (st : Blanks) (o : List Open) (v : Level) (x : Option Leaf) → part_step (part st o v x) comma ≡ none
comma_dead st o v none = refl
comma_dead st o v (some x) = refl

pub stop_dead : (st : Blanks) (o : List Open) (v : Level) (x : Option Leaf) → part_step (part st o v x) stop ≡ none
stop_dead st o v none = refl
stop_dead st o v (some x) = refl

pub in_body : (h : Atom Sum) (l : List (Next Item)) (i : ItemPart) (c : Class) (j : ItemPart) → item_step i c ≡ some j → rule_step (body h l i) c ≡ some (body h l j)
in_body h l (left z) comma j e = absurd (dead_and (part_step z comma) _ (comma_dead z.start z.brackets z.level z.operand) e)
in_body h l (left z) stop j e = absurd (dead_and (part_step z stop) _ (stop_dead z.start z.brackets z.level z.operand) e)
in_body h l (right b s r z) comma j e = absurd (dead_and (part_step z comma) _ (comma_dead z.start z.brackets z.level z.operand) e)
in_body h l (right b s r z) stop j e = absurd (dead_and (part_step z stop) _ (stop_dead z.start z.brackets z.level z.operand) e)
in_body h l (variable_standing b p k s w) comma j e = ap (λ o. and_then o (λ u. some (body h l u))) e
in_body h l (variable_standing b p k s w) stop j e = absurd (dead_alive e)
in_body h l i comma j e = absurd (dead_alive e)
in_body h l i stop j e = absurd (dead_alive e)
in_body h l i c j e = ap (λ o. and_then o (λ u. some (body h l u))) e

body_items : (h : Atom Sum) → Sequence rule_step item_pieces GoodItem (λ l s. body h l (left (part s [] empty_level none))) (λ l s i. body h l (end_of s i)) 46 (λ l n. ended (rule_with h l n)) (λ l n. ended (tree.rule h n.blanks (items n.item l) []))
unfolding class_of
body_items h = record {
  on_blank = λ l s x. refl;
  on_item = λ l s i g. lifted item_step rule_step (λ j. body h l j) (in_body h l) (item_read s i g);
  on_comma = λ l s i. ap (λ o. body_comma h l (end_of s i) o) (item_back s i);
  on_stop = λ l s i. ap (λ o. and_then o (λ n. some (ended (rule_with h l n)))) (item_back s i);
  alone = λ n. refl;
  several = λ m l n. refl;
}

-- from behind `:-` to the full stop
pub body_read : (h : Atom Sum) (b : Blanks) (t : Items Item) → GoodItems GoodItem t → Reads rule_step (body h [] (left (part [] [] empty_level none))) (blank_pieces b ++ (items_pieces item_pieces t ++ (byte 46 ∷ []))) (ended (tree.rule h b t []))
body_read h = sequence_read rule_step item_pieces GoodItem (λ l s. body h l (left (part s [] empty_level none))) (λ l s i. body h l (end_of s i)) 46 (λ l n. ended (rule_with h l n)) (λ l n. ended (tree.rule h n.blanks (items n.item l) [])) (body_items h)
