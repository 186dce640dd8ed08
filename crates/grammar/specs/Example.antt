-- 02's own example, and one that has each form, as trees.
use Rattle.std.specs.Prelude.{[], ◌∷◌, codes}
use Rattle.rules.specs.declared.Relation.TheVariants.{Lt}
use Rattle.grammar.specs.Bytes.{space, line_feed, Blanks}
use Rattle.grammar.specs.Grammar.{Word, word, next, items, Atom, atom_of, plain, negative, integer, name, range, plus, Sum, product, added, unary, leaf, Leaf, variable, Item, atom, comparison, fact, rule, Text, text}

abbrev pub one_space : Blanks
one_space = space ∷ []

-- ---- "`p(X+1) :- p(X), X < 10.`"

abbrev pub as_sum : Leaf → Sum
as_sum l = product (unary (leaf l))

abbrev pub example_head : Atom Sum
example_head = atom_of (word (codes "p") []) [] (items (added (as_sum (variable (word (codes "X") []))) plus [] (unary (leaf (integer (word (codes "1") []))))) []) one_space

abbrev pub example_body : Atom Word
example_body = atom_of (word (codes "p") []) [] (items (word (codes "X") []) []) []

abbrev pub below_ten : Item
below_ten = comparison (as_sum (variable (word (codes "X") one_space))) Lt one_space (as_sum (integer (word (codes "10") [])))

abbrev pub example : Text
example = text [] (rule example_head one_space (items (atom example_body) (next one_space below_ten ∷ [])) [] ∷ [])

-- ---- a fact with each kind of argument

abbrev pub facts : Text
facts =
    text (line_feed ∷ [])
    (fact
    (atom_of (word (codes "q2") []) one_space
    (items (integer (negative one_space (word (codes "007") [])))
    (next [] (name (word (codes "idle") [])) ∷ next one_space (range (negative [] (word (codes "5") one_space)) [] (plain (word (codes "3") []))) ∷ []))
    [])
    (line_feed ∷ []) ∷
    [])
