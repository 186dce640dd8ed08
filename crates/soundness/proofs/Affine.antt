-- What comparisons and affine shapes say of numbers: the restrictions that `refine_comparison` and `refine_operand` find hold in every firing in
-- which the comparison holds.
use Prim.Native.Nat.{ℕ, ◌<◌}
use native.Mathlib.Omega.{arith}
use mathlib.Core.Path.{◌≡◌, refl, sym, ap, subst, ◌∙◌}
use mathlib.Core.Logic.{⊎_elim}
use mathlib.Core.List.{List}
use mathlib.Core.Option.{Option, some, none}
use Rattle.std.specs.Prelude as std
use Rattle.std.proofs.lemmas.Option.{none-some, same_Some}
use lib.IntN.{ℤ, pos, ◌+ℤ◌, ◌-ℤ◌}
use Rattle.integers.specs.Order.{up, dn, Number, Between, Le, Lt, least32, greatest32}
use Rattle.integers.proofs.OrderLaws.{by_lt, le_antisym}
use Rattle.integers.proofs.Sums.{add_split, sub_split_ℤ}
use Rattle.interval.specs.declared.Interval.{Interval}
use Rattle.interval.specs.declared.Interval.TheVariants.{Bottom, Bounded, Unbounded}
use Rattle.interval.specs.declared.Constant.{Constant as Class}
use Rattle.interval.specs.declared.Constant.TheVariants.{Number as NumberOf}
use Rattle.interval.specs.Cousot.{◌∋◌}
use Rattle.interval.specs.Interval.{cousot, endpoints_of}
use Rattle.interval.proofs.Members.{checked_has}
use Rattle.search.proofs.Integers.{ℤ_less, ℤ_greater, ℤ_equal, less_ℤ, total_ℤ}
use Rattle.lattice.specs.Constants.{constant_at}
use Rattle.rows.specs.Row.{id_of}
use Rattle.keys.specs.Key.{Key, number, name}
use Rattle.nodes.specs.declared.BinaryOp.{BinaryOp}
use Rattle.nodes.specs.declared.BinaryOp.TheVariants.{Add, Sub, Mul, Div, Mod, Pow, BitAnd, BitOr, BitXor}
use Rattle.nodes.specs.declared.Expression.{Expression}
use Rattle.nodes.specs.declared.Expression.TheVariants.{Constant, Slot, Unary, Absolute, Binary, Unknown}
use Rattle.nodes.specs.Node.{expression_at}
use Rattle.rules.specs.declared.Relation.{Relation}
use Rattle.rules.specs.declared.Relation.TheVariants.{Lt as lt, Le as le, Gt as gt, Ge as ge, Eq as eq, Neq as neq}
use Rattle.producers.specs.Producer.{Scope, scope}
use Rattle.producers.proofs.Scoped.{Scoped, in_constant, in_slot, in_unary, in_absolute, in_binary, in_unknown}
use Rattle.operators.specs.Literal.{number_of, literal_of, literal}
use Rattle.affine.specs.declared.Affine.{Affine}
use Rattle.affine.specs.declared.Shape.{Shape}
use Rattle.affine.specs.declared.Shape.TheVariants.{Sum, Difference, Reversed}
use Rattle.affine.specs.Affine.{flipped_of, restriction, restricted, formed, shaped, difference_shape, binary_shape, shape_of, affine, solved}
use Rattle.soundness.specs.Plain.{Tree, Choice, into, apply_two, worth, Related}
use Rattle.soundness.specs.Plain as plain
use Rattle.soundness.specs.Tied.{key_tree, tree_of}
use Rattle.soundness.proofs.Worth.{Scene, Worth, none_some, some_is, at_tree, results}

-- ---- comparisons of numbers

abbrev pub Compares : Relation → ℤ → ℤ → Type 0
Compares lt a b = Lt a b
Compares le a b = Le a b
Compares gt a b = Lt b a
Compares ge a b = Le b a
Compares eq a b = Le a b × Le b a
Compares neq a b = Unit {0}

pub related_numbers : (r : Relation) (a b : ℤ) → Related r (number a) (number b) → Compares r a b
related_numbers lt a b h = less_ℤ a b h
related_numbers le a b h = by_lt (λ _. Le a b) b a (λ l. absurd (h (ℤ_greater a b l))) (λ l. l)
related_numbers gt a b h =
    by_lt (λ _. Lt b a) b a (λ l. l)
    (λ l.
    by_lt (λ _. Lt b a) a b (λ m. let e = ℤ_less a b m in let z : ◌≡◌ {A = ℕ} 0 1 = cc in absurd (omega arith))
    (λ m. let e = ℤ_equal a b (le_antisym a b l m) in let z : ◌≡◌ {A = ℕ} 0 1 = cc in absurd (omega arith)))
related_numbers ge a b h = by_lt (λ _. Le b a) a b (λ l. absurd (h (ℤ_less a b l))) (λ l. l)
related_numbers eq a b h = let e = total_ℤ.equal a b h in (subst (λ (c : ℤ). Le a c) e (omega arith), subst (λ (c : ℤ). Le c a) e (omega arith))
related_numbers neq a b h = tt

pub compares_flipped : (r : Relation) (a b : ℤ) → Compares r a b → Compares (flipped_of r) b a
compares_flipped lt a b h = h
compares_flipped le a b h = h
compares_flipped gt a b h = h
compares_flipped ge a b h = h
compares_flipped eq a b h = (h.1, h.0)
compares_flipped neq a b h = tt

restriction_in : (r : Relation) (low high n m : ℤ) → Compares r n m → Between low high m → Number n → cousot (restriction r low high) ∋ n
restriction_in lt low high n m c b f = (checked_has least32 (high -ℤ pos 1) n f).1 (f.0, omega (arith, sub_split_ℤ high (pos 1)))
restriction_in le low high n m c b f = (checked_has least32 high n f).1 (f.0, omega arith)
restriction_in gt low high n m c b f = (checked_has (low +ℤ pos 1) greatest32 n f).1 (omega (arith, add_split low (pos 1)), f.1)
restriction_in ge low high n m c b f = (checked_has low greatest32 n f).1 (omega arith, f.1)
restriction_in eq low high n m c b f = (checked_has low high n f).1 (omega arith, omega arith)
restriction_in neq low high n m c b f = (tt, tt)

-- where the numbers of two intervals compare, the first lies in what the second leaves it
pub restricted_in : (r : Relation) (x y : Interval) (n m : ℤ) → Compares r n m → cousot x ∋ n → cousot y ∋ m → Number n → Number m → cousot (restricted r x y) ∋ n
restricted_in r Bottom y n m c p q f g = absurd p
restricted_in r (Bounded a b) Bottom n m c p q f g = absurd q
restricted_in r (Bounded a b) (Bounded d e) n m c p q f g = restriction_in r d e n m c q f
restricted_in r (Bounded a b) Unbounded n m c p q f g = restriction_in r least32 greatest32 n m c g f
restricted_in r Unbounded Bottom n m c p q f g = absurd q
restricted_in r Unbounded (Bounded d e) n m c p q f g = restriction_in r d e n m c q f
restricted_in r Unbounded Unbounded n m c p q f g = restriction_in r least32 greatest32 n m c g f

-- ---- affine shapes

numbers : {a b : ℤ} → number a ≡ number b → a ≡ b
numbers e = cc

up_same : {a b : ℤ} → a ≡ b → up a ≡ up b
up_same e = ap up e

dn_same : {a b : ℤ} → a ≡ b → dn a ≡ dn b
dn_same e = ap dn e

add_zero_ℤ : (z : ℤ) → z +ℤ pos 0 ≡ z
add_zero_ℤ z = le_antisym (z +ℤ pos 0) z (omega (arith, add_split z (pos 0))) (omega (arith, add_split z (pos 0)))

-- a slot below n has a number k of which the expression's number z is made
pub record Made (w : Scene) (n slot : ℕ) (z : ℤ) (f : ℤ → ℤ) : Type 0 where
  pub k : ℤ
  pub inside : slot < n
  pub has : w.slots slot ≡ number k
  pub is : z ≡ f k

-- the number of an expression in some shape, from that of the slot
abbrev pub by : Shape → ℤ → ℤ → ℤ
by Sum c k = k +ℤ c
by Difference c k = k -ℤ c
by Reversed c k = c -ℤ k

abbrev pub Means : Scene → ℕ → std.Option Affine → ℤ → Type 0
Means w n std.None z = Unit {0}
Means w n (std.Some a) z = Made w n a.slot z (by a.shape a.constant)

-- a slot in scope
pub slot_inside : (nodes : List ℕ) (expressions n id s : ℕ) → expression_at nodes id ≡ Slot s → Scoped (scope nodes expressions n) id → s < n
slot_inside nodes expressions n id s e (in_constant h f) = let g = sym e ∙ f in let z : ◌≡◌ {A = ℕ} 0 1 = cc in absurd (omega arith)
slot_inside nodes expressions n id s e (in_slot {k = t} h f m) = let g : Slot s ≡ Slot t = sym e ∙ f in let d : s ≡ t = cc in omega arith
slot_inside nodes expressions n id s e (in_unary h f p) = let g = sym e ∙ f in let z : ◌≡◌ {A = ℕ} 0 1 = cc in absurd (omega arith)
slot_inside nodes expressions n id s e (in_absolute h f p) = let g = sym e ∙ f in let z : ◌≡◌ {A = ℕ} 0 1 = cc in absurd (omega arith)
slot_inside nodes expressions n id s e (in_binary h f p q) = let g = sym e ∙ f in let z : ◌≡◌ {A = ℕ} 0 1 = cc in absurd (omega arith)
slot_inside nodes expressions n id s e (in_unknown h f) = let g = sym e ∙ f in let z : ◌≡◌ {A = ℕ} 0 1 = cc in absurd (omega arith)

module _ (w : Scene) where
  -- a literal is worth its number
  literal_worth : (id : ℕ) (c : ℤ) (ch : Choice) (k : Key) → literal w.nodes w.constants id ≡ std.Some c → Worth w ch id k → k ≡ number c
  unfolding worth literal
  literal_worth id c ch k e =
      at_tree w (λ (t : Tree). worth w.opaque w.slots ch t ≡ some k → k ≡ number c) id (λ q. absurd (none_some q)) (of (expression_at w.nodes id) e)
    where
      numbered : (i : ℕ) → number_of (constant_at w.constants i) ≡ std.Some c → (j : Key) → w.key i ≡ some j → j ≡ number c
      numbered i f (number z) g =
          let h : number_of (NumberOf z) ≡ std.Some c = subst (λ (d : Class). number_of d ≡ std.Some c) (w.keys.numbers i z g) f in ap number (same_Some _ _ h)
      numbered i f (name s) g =
          ⊎_elim (λ d. absurd (none-some c (subst (λ (b : Class). number_of b ≡ std.Some c) d f))) (λ d. absurd (none-some c (subst (λ (b : Class). number_of b ≡ std.Some c) d f)))
          (w.keys.names i s g)

      by_key : (i : ℕ) → number_of (constant_at w.constants (id_of i)) ≡ std.Some c → (o : Option Key) → w.key i ≡ o → worth w.opaque w.slots ch (key_tree o) ≡ some k → k ≡ number c
      by_key i f none g q = absurd (none_some q)
      by_key i f (some j) g q =
          let s : id_of i ≡ i = short i (w.keys.short i j g) in
          sym (some_is q) ∙ numbered i (subst (λ (h : ℕ). number_of (constant_at w.constants h) ≡ std.Some c) s f) j g
        where
          short : (i : ℕ) → i < 65536 → id_of i ≡ i
          short i h = omega arith

      of : (x : Expression) → literal_of w.constants x ≡ std.Some c → worth w.opaque w.slots ch (tree_of w.key w.tree x) ≡ some k → k ≡ number c
      of (Constant i) f q = by_key i f (w.key i) refl q
      of (Slot s) f q = absurd (none-some c f)
      of (Unary op a) f q = absurd (none-some c f)
      of (Absolute a) f q = absurd (none-some c f)
      of (Binary op l r) f q = absurd (none-some c f)
      of (Unknown i reason) f q = absurd (none-some c f)

  -- a slot is worth its value
  slot_worth : (id s : ℕ) (ch : Choice) (k : Key) → expression_at w.nodes id ≡ Slot s → Worth w ch id k → k ≡ w.slots s
  unfolding worth
  slot_worth id s ch k e =
      at_tree w (λ (t : Tree). worth w.opaque w.slots ch t ≡ some k → k ≡ w.slots s) id (λ q. absurd (none_some q)) (λ q. sym (some_is (rw e at q)))

  -- ---- each shape, by what its operands are worth

  module _ (expressions n : ℕ) where
    abbrev here : Scope
    here = scope w.nodes expressions n

    -- two operands with numbers
    module _ (l r : ℕ) (sl : Scoped here l) (sr : Scoped here r) (ch : Choice) (a b z : ℤ) (left : Worth w (into 0 ch) l (number a)) (right : Worth w (into 1 ch) r (number b)) where
      sum_means : z ≡ a +ℤ b → (e : Expression) → expression_at w.nodes l ≡ e → (o : std.Option ℤ) → literal w.nodes w.constants r ≡ o → Means w n (shaped Sum e o) z
      sum_means is (Constant k) f o g = tt
      sum_means is (Slot s) f std.None g = tt
      sum_means is (Slot s) f (std.Some c) g = record {
        k = a;
        inside = slot_inside w.nodes expressions n l s f sl;
        has = sym (slot_worth l s (into 0 ch) (number a) f left);
        is = is ∙ ap (λ (y : ℤ). a +ℤ y) (numbers (literal_worth r c (into 1 ch) (number b) g right));
      }
      sum_means is (Unary op e) f o g = tt
      sum_means is (Absolute e) f o g = tt
      sum_means is (Binary op e d) f o g = tt
      sum_means is (Unknown i reason) f o g = tt

      reversed_means : z ≡ a -ℤ b → (e : Expression) → expression_at w.nodes r ≡ e → (o : std.Option ℤ) → literal w.nodes w.constants l ≡ o → Means w n (shaped Reversed e o) z
      reversed_means is (Constant k) f o g = tt
      reversed_means is (Slot s) f std.None g = tt
      reversed_means is (Slot s) f (std.Some c) g = record {
        k = b;
        inside = slot_inside w.nodes expressions n r s f sr;
        has = sym (slot_worth r s (into 1 ch) (number b) f right);
        is = is ∙ ap (λ (y : ℤ). y -ℤ b) (numbers (literal_worth l c (into 0 ch) (number a) g left));
      }
      reversed_means is (Unary op e) f o g = tt
      reversed_means is (Absolute e) f o g = tt
      reversed_means is (Binary op e d) f o g = tt
      reversed_means is (Unknown i reason) f o g = tt

      slot_less : z ≡ a -ℤ b → (s : ℕ) → expression_at w.nodes l ≡ Slot s → (o : std.Option ℤ) → literal w.nodes w.constants r ≡ o → Means w n (formed Difference s o) z
      slot_less is s f std.None g = tt
      slot_less is s f (std.Some c) g = record {
        k = a;
        inside = slot_inside w.nodes expressions n l s f sl;
        has = sym (slot_worth l s (into 0 ch) (number a) f left);
        is = is ∙ ap (λ (y : ℤ). a -ℤ y) (numbers (literal_worth r c (into 1 ch) (number b) g right));
      }

      difference_means : z ≡ a -ℤ b → (e : Expression) → expression_at w.nodes l ≡ e →
          Means w n (difference_shape e (expression_at w.nodes r) (literal w.nodes w.constants l) (literal w.nodes w.constants r)) z
      difference_means is (Constant k) f = reversed_means is (expression_at w.nodes r) refl (literal w.nodes w.constants l) refl
      difference_means is (Slot s) f = slot_less is s f (literal w.nodes w.constants r) refl
      difference_means is (Unary op e) f = reversed_means is (expression_at w.nodes r) refl (literal w.nodes w.constants l) refl
      difference_means is (Absolute e) f = reversed_means is (expression_at w.nodes r) refl (literal w.nodes w.constants l) refl
      difference_means is (Binary op e d) f = reversed_means is (expression_at w.nodes r) refl (literal w.nodes w.constants l) refl
      difference_means is (Unknown i reason) f = reversed_means is (expression_at w.nodes r) refl (literal w.nodes w.constants l) refl

      binary_means : (op : BinaryOp) → apply_two w.opaque op a b ≡ some z → Means w n (binary_shape w.nodes w.constants op l r) z
      binary_means Add e = sum_means (sym (some_is e)) (expression_at w.nodes l) refl (literal w.nodes w.constants r) refl
      binary_means Sub e = difference_means (sym (some_is e)) (expression_at w.nodes l) refl
      binary_means Mul e = tt
      binary_means Div e = tt
      binary_means Mod e = tt
      binary_means Pow e = tt
      binary_means BitAnd e = tt
      binary_means BitOr e = tt
      binary_means BitXor e = tt

    -- the shape of an expression says what its number is made of
    pub affine_means : (id : ℕ) → Scoped here id → (ch : Choice) (z : ℤ) → Worth w ch id (number z) → Means w n (affine w.nodes w.constants id) z
    unfolding affine worth
    affine_means id sc ch z =
        at_tree w (λ (t : Tree). worth w.opaque w.slots ch t ≡ some (number z) → Means w n (shape_of w.nodes w.constants (expression_at w.nodes id)) z) id (λ e. absurd (none_some e)) (of sc)
      where
        of : Scoped here id → worth w.opaque w.slots ch (tree_of w.key w.tree (expression_at w.nodes id)) ≡ some (number z) →
            Means w n (shape_of w.nodes w.constants (expression_at w.nodes id)) z
        of (in_constant h f) e = rw f tt
        of (in_slot {k = s} h f m) e =
            let g : some (w.slots s) ≡ some (number z) = rw f at e in
            rw f record { k = z; inside = m; has = some_is g; is = sym (add_zero_ℤ z) }
        of (in_unary h f p) e = rw f tt
        of (in_absolute h f p) e = rw f tt
        of (in_binary {l = l} {r} {op} h f p q) e =
            let g : worth w.opaque w.slots ch (plain.binary op (w.tree l) (w.tree r)) ≡ some (number z) = rw f at e in
            let u = results (apply_two w.opaque op) (worth w.opaque w.slots (into 0 ch) (w.tree l)) (worth w.opaque w.slots (into 1 ch) (w.tree r)) (number z) g in
            rw f (binary_means l r p q ch u.m u.n z u.left u.right op (u.gives ∙ ap some (numbers (sym u.is))))
        of (in_unknown h f) e = rw f tt

-- ---- where the slot then lies

module _ (x : Interval) (k c z : ℤ) (f : Number k) (g : Number z) (h : cousot x ∋ z) where
  sum_solved : z ≡ k +ℤ c → cousot (solved Sum c (endpoints_of x)) ∋ k
  sum_solved e = go x h
    where
      go : (x : Interval) → cousot x ∋ z → cousot (solved Sum c (endpoints_of x)) ∋ k
      go Bottom h = absurd h
      go (Bounded low high) h = (checked_has (low -ℤ c) (high -ℤ c) k f).1 (omega (arith, sub_split_ℤ low c, add_split k c, up_same e, dn_same e), omega (arith, sub_split_ℤ high c, add_split k c, up_same e, dn_same e))
      go Unbounded h =
          (checked_has (least32 -ℤ c) (greatest32 -ℤ c) k f).1
          (omega (arith, sub_split_ℤ least32 c, add_split k c, up_same e, dn_same e, g.0), omega (arith, sub_split_ℤ greatest32 c, add_split k c, up_same e, dn_same e, g.1))

  difference_solved : z ≡ k -ℤ c → cousot (solved Difference c (endpoints_of x)) ∋ k
  difference_solved e = go x h
    where
      go : (x : Interval) → cousot x ∋ z → cousot (solved Difference c (endpoints_of x)) ∋ k
      go Bottom h = absurd h
      go (Bounded low high) h = (checked_has (low +ℤ c) (high +ℤ c) k f).1 (omega (arith, add_split low c, sub_split_ℤ k c, up_same e, dn_same e), omega (arith, add_split high c, sub_split_ℤ k c, up_same e, dn_same e))
      go Unbounded h =
          (checked_has (least32 +ℤ c) (greatest32 +ℤ c) k f).1
          (omega (arith, add_split least32 c, sub_split_ℤ k c, up_same e, dn_same e, g.0), omega (arith, add_split greatest32 c, sub_split_ℤ k c, up_same e, dn_same e, g.1))

  reversed_solved : z ≡ c -ℤ k → cousot (solved Reversed c (endpoints_of x)) ∋ k
  reversed_solved e = go x h
    where
      go : (x : Interval) → cousot x ∋ z → cousot (solved Reversed c (endpoints_of x)) ∋ k
      go Bottom h = absurd h
      go (Bounded low high) h = (checked_has (c -ℤ high) (c -ℤ low) k f).1 (omega (arith, sub_split_ℤ c high, sub_split_ℤ c k, up_same e, dn_same e), omega (arith, sub_split_ℤ c low, sub_split_ℤ c k, up_same e, dn_same e))
      go Unbounded h =
          (checked_has (c -ℤ greatest32) (c -ℤ least32) k f).1
          (omega (arith, sub_split_ℤ c greatest32, sub_split_ℤ c k, up_same e, dn_same e, g.1), omega (arith, sub_split_ℤ c least32, sub_split_ℤ c k, up_same e, dn_same e, g.0))

  pub solved_has : (shape : Shape) → z ≡ by shape c k → cousot (solved shape c (endpoints_of x)) ∋ k
  solved_has Sum = sum_solved
  solved_has Difference = difference_solved
  solved_has Reversed = reversed_solved
