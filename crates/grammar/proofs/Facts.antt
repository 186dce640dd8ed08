-- The arguments of a fact, and its atom, are read as their trees.
use Rattle.std.specs.Prelude.{◌≡◌, refl, List, [], ◌∷◌, ◌++◌}
use mathlib.Core.Path.{ap}
use Rattle.std.proofs.Math.Option.{some}
use Rattle.grammar.specs.Bytes.{Blanks}
use Rattle.grammar.specs.Grammar.{Word, Next, next, Items, Atom, atom_of, Integer, plain, negative, Value, integer_pieces, value_pieces, blank_pieces, items_pieces, sign, GoodItems, GoodInteger, GoodValue}
use Rattle.grammar.specs.Grammar as tree
use Rattle.grammar.specs.Reader.{Class, blank, comma, closing, class_of, and_then, longer, ValuePart, awaited, signed, number, named, two_dots, second_signed, second, value_of, value_step, argument, closed, fact_step, atom_with}
use Rattle.grammar.proofs.Following.{and_some, Reads, then, one_then, blanks_read, name_read, digits_read}
use Rattle.grammar.proofs.Atoms.{dead_alive, lifted, Arguments, arguments_read}

-- ---- integers, at the beginning and behind the two dots

first_read : (z : Integer) → GoodInteger z → Reads value_step awaited (integer_pieces z) (number z)
unfolding class_of
first_read (plain w) g =
    digits_read (λ v. number (plain v)) (record { on_blank = λ v x. refl; on_digit = λ v b. and_some (longer v b) (λ u. plain u) (λ y. number y) }) _ awaited (λ b. refl) w.bytes w.blanks g
first_read (negative b w) g =
    one_then 45 refl (then (blanks_read (λ c. signed c) (λ c x. refl) [] b)
    (digits_read (λ v. number (negative b v)) (record { on_blank = λ v x. refl; on_digit = λ v d. and_some (longer v d) (λ u. negative b u) (λ y. number y) }) _ (signed b) (λ d. refl) w.bytes w.blanks g))

second_read : (y : Integer) (l : Blanks) (z : Integer) → GoodInteger z → Reads value_step (two_dots y l) (integer_pieces z) (second y l z)
unfolding class_of
second_read y l (plain w) g =
    digits_read (λ v. second y l (plain v)) (record { on_blank = λ v x. refl; on_digit = λ v b. and_some (longer v b) (λ u. plain u) (λ z. second y l z) }) _ (two_dots y l) (λ b. refl) w.bytes w.blanks g
second_read y l (negative b w) g =
    one_then 45 refl (then (blanks_read (λ c. second_signed y l c) (λ c x. refl) [] b)
    (digits_read (λ v. second y l (negative b v)) (record { on_blank = λ v x. refl; on_digit = λ v d. and_some (longer v d) (λ u. negative b u) (λ z. second y l z) }) _ (second_signed y l b) (λ d. refl) w.bytes w.blanks g))

-- ---- an argument

abbrev pub part_of : Value → ValuePart
part_of (tree.integer z) = number z
part_of (tree.name w) = named w
part_of (tree.range z b y) = second z b y

value_read : (v : Value) → GoodValue v → Reads value_step awaited (value_pieces v) (part_of v)
unfolding class_of
value_read (tree.integer z) g = first_read z g
value_read (tree.name w) g = name_read (λ v. named v) (record { on_blank = λ v x. refl; on_digit = λ v b. refl; on_capital = λ v b. refl; on_lower = λ v b. refl }) awaited (λ b. refl) w.bytes w.blanks g
value_read (tree.range z b y) g =
    then (first_read z g.0) (one_then 46 refl (one_then 46 refl (then (blanks_read (λ c. two_dots z c) (λ c x. refl) [] b) (second_read z b y g.1))))

value_back : (v : Value) → value_of (part_of v) ≡ some v
value_back (tree.integer z) = refl
value_back (tree.name w) = refl
value_back (tree.range z b y) = refl

-- ---- in its fact

pub in_fact : (p : Word) (l : List (Next Value)) (s : Blanks) (v : ValuePart) (c : Class) (w : ValuePart) → value_step v c ≡ some w → fact_step (argument p l s v) c ≡ some (argument p l s w)
in_fact p l s awaited (blank x) w e = absurd (dead_alive e)
in_fact p l s v comma w e = absurd (dead_alive e)
in_fact p l s v closing w e = absurd (dead_alive e)
in_fact p l s v c w e = ap (λ o. and_then o (λ u. some (argument p l s u))) e

after_comma : (p : Word) (l : List (Next Value)) (s : Blanks) (v : Value) → fact_step (argument p l s (part_of v)) comma ≡ some (argument p (l ++ (next s v ∷ [])) [] awaited)
after_comma p l s (tree.integer z) = refl
after_comma p l s (tree.name w) = refl
after_comma p l s (tree.range z b y) = refl

after_bracket : (p : Word) (l : List (Next Value)) (s : Blanks) (v : Value) → fact_step (argument p l s (part_of v)) closing ≡ some (closed (atom_with p l (next s v)))
after_bracket p l s (tree.integer z) = refl
after_bracket p l s (tree.name w) = refl
after_bracket p l s (tree.range z b y) = refl

fact_arguments : (p : Word) → Arguments fact_step value_pieces GoodValue p (λ l s. argument p l s awaited) (λ l s a. argument p l s (part_of a)) (λ a. closed a)
unfolding class_of
fact_arguments p = record {
  on_blank = λ l s x. refl;
  on_item = λ l s a g. lifted value_step fact_step (λ v. argument p l s v) (in_fact p l s) (value_read a g);
  on_comma = λ l s a. after_comma p l s a;
  on_stop = λ l s a. after_bracket p l s a;
  alone = λ n. refl;
  several = λ m l n. refl;
}

-- from the open bracket to the blanks behind the closed one
pub fact_read : (p : Word) (b : Blanks) (t : Items Value) (c : Blanks) → GoodItems GoodValue t → Reads fact_step (argument p [] [] awaited) (blank_pieces b ++ (items_pieces value_pieces t ++ sign 41 c)) (closed (atom_of p b t c))
fact_read p = arguments_read fact_step value_pieces GoodValue p (λ l s. argument p l s awaited) (λ l s a. argument p l s (part_of a)) (λ a. closed a) (fact_arguments p) (λ a x. refl)
