-- An expression is read as its tree, whatever stands before it.
use Rattle.std.specs.Prelude.{ℕ, ◌≡◌, refl, List, [], ◌∷◌}
use mathlib.Core.Path.{ap}
use Rattle.std.proofs.Math.Option.{Option, some, none}
use Rattle.grammar.specs.Bytes.{Blanks}
use Rattle.grammar.specs.Grammar.{Word, Sum, product, added, Product, unary, multiplied, Unary, leaf, minus, Leaf, brackets, Additive, plus, less, Multiplicative, times, additive_byte, multiplicative_byte, sum_pieces, product_pieces, unary_pieces, leaf_pieces, GoodSum, GoodProduct, GoodUnary, GoodLeaf}
use Rattle.grammar.specs.Grammar as tree
use Rattle.grammar.specs.Reader.{SumLeft, ProductLeft, Level, level, empty_level, Open, open_of, Part, part, negated, product_of, sum_of, part_step, class_of, and_then, longer, name_longer}
use Rattle.grammar.proofs.Following.{and_some, Reads, then, one_then, blanks_read, Names, name_read, variable_read, Numbers, digits_read}

-- ---- a tree taken apart, as the reader holds it

pub core : Unary → Leaf
core (leaf l) = l
core (minus b u) = core u

pub minuses : List Blanks → Unary → List Blanks
minuses m (leaf l) = m
minuses m (minus b u) = minuses (b ∷ m) u

abbrev pub multiplier : Product → Option ProductLeft
multiplier (unary u) = none
multiplier (multiplied p op b u) = some (record { left = p; operator = op; blanks = b })

abbrev pub factor : Product → Unary
factor (unary u) = u
factor (multiplied p op b u) = u

abbrev pub addend : Sum → Option SumLeft
addend (product p) = none
addend (added s op b p) = some (record { left = s; operator = op; blanks = b })

abbrev pub term : Sum → Product
term (product p) = p
term (added s op b p) = p

abbrev pub after_unary : Blanks → List Open → Option SumLeft → Option ProductLeft → List Blanks → Unary → Part
after_unary st o s p m u = part st o (level s p (minuses m u)) (some (core u))

abbrev pub after_product : Blanks → List Open → Option SumLeft → Product → Part
after_product st o s p = after_unary st o s (multiplier p) [] (factor p)

abbrev pub after_sum : Blanks → List Open → Sum → Part
after_sum st o s = after_product st o (addend s) (term s)

-- ---- and put together again

negated_back : (m : List Blanks) (u : Unary) → negated (minuses m u) (leaf (core u)) ≡ negated m u
unfolding core minuses
negated_back m (leaf l) = refl
negated_back m (minus b u) = negated_back (b ∷ m) u

product_back : (s : Option SumLeft) (p : Product) → product_of (level s (multiplier p) (minuses [] (factor p))) (core (factor p)) ≡ p
product_back s (unary u) = ap unary (negated_back [] u)
product_back s (multiplied p op b u) = ap (multiplied p op b) (negated_back [] u)

pub sum_back : (s : Sum) → sum_of (level (addend s) (multiplier (term s)) (minuses [] (factor (term s)))) (core (factor (term s))) ≡ s
sum_back (product p) = ap product (product_back none p)
sum_back (added s op b p) = ap (added s op b) (product_back none p)

-- ---- an operator, a bracket

abbrev sum_left : Sum → Additive → Blanks → Option SumLeft
sum_left s op b = some (record { left = s; operator = op; blanks = b })

abbrev product_left : Product → Multiplicative → Blanks → Option ProductLeft
product_left p op b = some (record { left = p; operator = op; blanks = b })

additive_step : (st : Blanks) (o : List Open) (s : Sum) (op : Additive) → part_step (after_sum st o s) (class_of (additive_byte op)) ≡ some (part st o (level (sum_left s op []) none []) none)
unfolding class_of
additive_step st o s plus = ap (λ l. some (part st o (level (sum_left l plus []) none []) none)) (sum_back s)
additive_step st o s less = ap (λ l. some (part st o (level (sum_left l less []) none []) none)) (sum_back s)

multiplicative_step : (st : Blanks) (o : List Open) (s : Option SumLeft) (p : Product) (op : Multiplicative) → part_step (after_product st o s p) (class_of (multiplicative_byte op)) ≡ some (part st o (level s (product_left p op []) []) none)
unfolding class_of
multiplicative_step st o s p times = ap (λ l. some (part st o (level s (product_left l times []) []) none)) (product_back s p)

closing_step : (st : Blanks) (l : Level) (b : Blanks) (o : List Open) (s : Sum) → part_step (after_sum st (open_of l b ∷ o) s) (class_of 41) ≡ some (part st o l (some (brackets b s [])))
unfolding class_of
closing_step st l b o s = ap (λ t. some (part st o l (some (brackets b t [])))) (sum_back s)

opening_step : (st : Blanks) (o : List Open) (l : Level) → part_step (part st o l none) (class_of 40) ≡ some (part st (open_of l [] ∷ o) empty_level none)
unfolding class_of
opening_step st o l = refl

minus_step : (st : Blanks) (o : List Open) (s : Option SumLeft) (p : Option ProductLeft) (m : List Blanks) → part_step (part st o (level s p m) none) (class_of 45) ≡ some (part st o (level s p ([] ∷ m)) none)
unfolding class_of
minus_step st o s p m = refl

-- ---- leaves

names : (st : Blanks) (o : List Open) (l : Level) → Names part_step (λ w. part st o l (some (tree.name w)))
names st o l = record {
  on_blank = λ w x. refl;
  on_digit = λ w b. named w b;
  on_capital = λ w b. named w b;
  on_lower = λ w b. named w b;
}
  where
    named : (w : Word) (b : ℕ) → and_then (and_then (name_longer w b) (λ v. some (tree.name v))) (λ x. some (part st o l (some x))) ≡ and_then (name_longer w b) (λ v. some (part st o l (some (tree.name v))))
    named w b = and_some (name_longer w b) (λ v. tree.name v) (λ x. part st o l (some x))

variables : (st : Blanks) (o : List Open) (l : Level) → Names part_step (λ w. part st o l (some (tree.variable w)))
variables st o l = record {
  on_blank = λ w x. refl;
  on_digit = λ w b. named w b;
  on_capital = λ w b. named w b;
  on_lower = λ w b. named w b;
}
  where
    named : (w : Word) (b : ℕ) → and_then (and_then (name_longer w b) (λ v. some (tree.variable v))) (λ x. some (part st o l (some x))) ≡ and_then (name_longer w b) (λ v. some (part st o l (some (tree.variable v))))
    named w b = and_some (name_longer w b) (λ v. tree.variable v) (λ x. part st o l (some x))

integers : (st : Blanks) (o : List Open) (l : Level) → Numbers part_step (λ w. part st o l (some (tree.integer w)))
integers st o l = record { on_blank = λ w x. refl; on_digit = λ w b. and_some (longer w b) (λ v. tree.integer v) (λ x. part st o l (some x)) }

-- ---- the four levels

mutual
  unfolding sum_pieces core minuses

  pub sum_read : (st : Blanks) (o : List Open) (s : Sum) → GoodSum s → Reads part_step (part st o empty_level none) (sum_pieces s) (after_sum st o s)
  sum_read st o (product p) g = product_read st o none p g
  sum_read st o (added s op b p) g =
      then (sum_read st o s g.0) (one_then (additive_byte op) (additive_step st o s op)
      (then (blanks_read (λ c. part st o (level (sum_left s op c) none []) none) (λ c x. refl) [] b) (product_read st o (sum_left s op b) p g.1)))

  pub product_read : (st : Blanks) (o : List Open) (s : Option SumLeft) (p : Product) → GoodProduct p → Reads part_step (part st o (level s none []) none) (product_pieces p) (after_product st o s p)
  product_read st o s (unary u) g = unary_read st o s none [] u g
  product_read st o s (multiplied p op b u) g =
      then (product_read st o s p g.0) (one_then (multiplicative_byte op) (multiplicative_step st o s p op)
      (then (blanks_read (λ c. part st o (level s (product_left p op c) []) none) (λ c x. refl) [] b) (unary_read st o s (product_left p op b) [] u g.1)))

  pub unary_read : (st : Blanks) (o : List Open) (s : Option SumLeft) (p : Option ProductLeft) (m : List Blanks) (u : Unary) → GoodUnary u → Reads part_step (part st o (level s p m) none) (unary_pieces u) (after_unary st o s p m u)
  unary_read st o s p m (leaf l) g = leaf_read st o (level s p m) l g
  unary_read st o s p m (minus b u) g =
      one_then 45 (minus_step st o s p m) (then (blanks_read (λ c. part st o (level s p (c ∷ m)) none) (λ c x. refl) [] b) (unary_read st o s p (b ∷ m) u g))

  pub leaf_read : (st : Blanks) (o : List Open) (l : Level) (x : Leaf) → GoodLeaf x → Reads part_step (part st o l none) (leaf_pieces x) (part st o l (some x))
  leaf_read st o l (tree.integer w) g = digits_read (λ v. part st o l (some (tree.integer v))) (integers st o l) _ (part st o l none) (λ b. refl) w.bytes w.blanks g
  leaf_read st o l (tree.name w) g = name_read (λ v. part st o l (some (tree.name v))) (names st o l) (part st o l none) (λ b. refl) w.bytes w.blanks g
  leaf_read st o l (tree.variable w) g = variable_read (λ v. part st o l (some (tree.variable v))) (variables st o l) (part st o l none) (λ b. refl) w.bytes w.blanks g
  leaf_read st o l (brackets b s c) g =
      one_then 40 (opening_step st o l) (then (blanks_read (λ d. part st (open_of l d ∷ o) empty_level none) (λ d x. refl) [] b)
      (then (sum_read st (open_of l b ∷ o) s g) (one_then 41 (closing_step st l b o s) (blanks_read (λ d. part st o l (some (brackets b s d))) (λ d x. refl) [] c))))
