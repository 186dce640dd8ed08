-- The value of an expression in any firing lies in what `expression` gives, whatever is chosen and whichever functions the opaque ones are;
-- `known_identity` says yes only where all choices give one value.
use Prim.Native.Nat.{ℕ, zero, suc, ◌<◌, ◌^◌}
use native.Mathlib.Omega.{arith}
use mathlib.Core.Path.{◌≡◌, refl, sym, ap, subst, ◌∙◌}
use mathlib.Core.Bool.{Bool, true, false, cond, ◌&&◌, ◌||◌}
use mathlib.Core.List.{List, [], ◌∷◌}
use mathlib.Core.Option.{Option, some, none}
use borrow.Author.Tests.{eqb-true}
use lib.Dec.{eqb}
use lib.IntN.{ℤ, pos, neg_ℤ, ◌-ℤ◌, +ℤ_invr}
use Rattle.integers.specs.Order.{Number}
use Rattle.integers.specs.Lists.{All}
use Rattle.integers.proofs.Tests.{by_cond, and_left, and_right}
use Rattle.limits.specs.declared.Stop.{Stop}
use Rattle.limits.specs.Metered.{Metered, ◌>>=◌}
use Rattle.limits.specs.declared.Meter.{Meter}
use Rattle.limits.specs.Meter.{work, holding, dropping}
use Rattle.limits.proofs.Monad.{Ensures, by_pure, by_test, bind, then, weaken, both, for_all, by_through}
use Rattle.std.specs.Prelude as std
use Rattle.range.specs.declared.Range.{Range}
use Rattle.range.specs.Range.{Encloses}
use Rattle.range.proofs.Enclosing.{new_encloses, sum_encloses, difference_encloses, product_encloses, negation_encloses}
use Rattle.interval.specs.declared.Integrality.{Integrality}
use Rattle.interval.specs.declared.Integrality.TheVariants.{Integer, Mixed}
use Rattle.interval.specs.declared.Interval.{Interval}
use Rattle.interval.specs.declared.Interval.TheVariants.{Bottom, Bounded, Unbounded}
use Rattle.interval.specs.Cousot.{◌∋◌}
use Rattle.interval.specs.Interval.{cousot}
use Rattle.interval.specs.Bound.{mixed}
use Rattle.lattice.specs.declared.Widening.{Widening}
use Rattle.lattice.specs.declared.Widening.TheVariants.{HeadForm}
use Rattle.std.specs.Prelude.{Some}
use Rattle.lattice.specs.Value.{Value}
use Rattle.lattice.specs.Constants.{constant_at}
use Rattle.lattice.specs.Lattice.{numeric, constant, copied, refine}
use Rattle.lattice.proofs.Members.{InBound}
use Rattle.lattice.proofs.Tidiness.{Tidy, numeric_tidy, constant_tidy, copied_tidy, refine_tidy}
use Rattle.rows.specs.Row.{id_of, entries_of, value_at}
use Rattle.rows.specs.WellFormed.{WellFormed, Proper as ProperEnds}
use Rattle.rows.proofs.Formed.{numeric_formed, top_formed, constant_formed, copied_formed, refine_formed}
use Rattle.keys.specs.Key.{Key, number, name}
use Rattle.nodes.specs.declared.UnaryOp.{UnaryOp}
use Rattle.nodes.specs.declared.UnaryOp.TheVariants.{Negate, BitwiseNot}
use Rattle.nodes.specs.declared.BinaryOp.{BinaryOp}
use Rattle.nodes.specs.declared.BinaryOp.TheVariants.{Add, Sub, Mul, Div, Mod, Pow, BitAnd, BitOr, BitXor}
use Rattle.nodes.specs.declared.Expression.{Expression}
use Rattle.nodes.specs.declared.Expression.TheVariants.{Constant, Slot, Unary, Absolute, Binary, Unknown}
use Rattle.nodes.specs.Node.{expression_at}
use Rattle.producers.specs.Producer.{Scope, scope}
use Rattle.producers.proofs.Scoped.{Scoped, in_constant, in_slot, in_unary, in_absolute, in_binary, in_unknown}
use Rattle.refinements.specs.Refinement.{Refinement, integer?, narrow, restrict}
use Rattle.operators.proofs.Formed.{unary_proper, absolute_proper, binary_proper}
use Rattle.operators.specs.Arithmetic.{empty?, range_of, interval_from, negated, unary_of, absolute_of, operated, binary_of, difference?}
use Rattle.operators.specs.Literal.{covered}
use Rattle.evaluation.specs.Evaluation.{Input, known_node, known_in, known_identity, identical, combined, after_one, after_two, unknown, evaluate_node, evaluate_in, expression}
use Rattle.soundness.specs.Plain.{Tree, Opaque, Choice, into, chosen, magnitude, apply_one, apply_two, worth, ProperKey}
use Rattle.soundness.specs.Plain as plain
use Rattle.soundness.specs.Tied.{key_tree, tree_of}
use Rattle.soundness.proofs.Lies.{Lies, top_lies, numeric_lies, copied_lies, refine_lies, constant_lies}
use Rattle.soundness.proofs.Worth.{Scene, ProperChoice, proper_into, Worth, Covers, none_some, some_is, at_tree, result, results, worth_proper, Fixed, fixed_worth}

-- ---- operators on intervals

within : (x : Interval) (n : ℤ) → cousot x ∋ n → Encloses (range_of x) n
within Bottom n h = absurd h
within (Bounded low high) n h = new_encloses low high n h
within Unbounded n h = tt

encloses_in : (r : std.Option Range) (z : ℤ) → Encloses r z → cousot (interval_from r) ∋ z
encloses_in (std.Some a) z h = h
encloses_in std.None z h = (tt, tt)

negated_encloses : (r : std.Option Range) (n : ℤ) → Encloses r n → Encloses (negated r) (neg_ℤ n)
negated_encloses (std.Some a) n h = negation_encloses a n h
negated_encloses std.None n h = tt

unary_in : (o : Opaque) (op : UnaryOp) (x : Interval) (n z : ℤ) → cousot x ∋ n → apply_one o op n ≡ some z → cousot (unary_of op x) ∋ z
unary_in o op Bottom n z h e = absurd h
unary_in o Negate (Bounded low high) n z h e =
    subst (λ (y : ℤ). cousot (unary_of Negate (Bounded low high)) ∋ y) (some_is e)
    (encloses_in (negated (range_of (Bounded low high))) (neg_ℤ n) (negated_encloses (range_of (Bounded low high)) n (within (Bounded low high) n h)))
unary_in o Negate Unbounded n z h e = (tt, tt)
unary_in o BitwiseNot (Bounded low high) n z h e = (tt, tt)
unary_in o BitwiseNot Unbounded n z h e = (tt, tt)

absolute_in : (x : Interval) (n z : ℤ) → cousot x ∋ n → cousot (absolute_of x) ∋ z
absolute_in Bottom n z h = absurd h
absolute_in (Bounded low high) n z h = (tt, tt)
absolute_in Unbounded n z h = (tt, tt)

operated_encloses : (o : Opaque) (op : BinaryOp) (r q : std.Option Range) (m n z : ℤ) → Encloses r m → Encloses q n → apply_two o op m n ≡ some z → Encloses (operated op r q) z
operated_encloses o Add (std.Some a) (std.Some b) m n z p q e = subst (Encloses (operated Add (std.Some a) (std.Some b))) (some_is e) (sum_encloses a b m n p q)
operated_encloses o Sub (std.Some a) (std.Some b) m n z p q e = subst (Encloses (operated Sub (std.Some a) (std.Some b))) (some_is e) (difference_encloses a b m n p q)
operated_encloses o Mul (std.Some a) (std.Some b) m n z p q e = subst (Encloses (operated Mul (std.Some a) (std.Some b))) (some_is e) (product_encloses a b m n p q)
operated_encloses o Div (std.Some a) (std.Some b) m n z p q e = tt
operated_encloses o Mod (std.Some a) (std.Some b) m n z p q e = tt
operated_encloses o Pow (std.Some a) (std.Some b) m n z p q e = tt
operated_encloses o BitAnd (std.Some a) (std.Some b) m n z p q e = tt
operated_encloses o BitOr (std.Some a) (std.Some b) m n z p q e = tt
operated_encloses o BitXor (std.Some a) (std.Some b) m n z p q e = tt
operated_encloses o op (std.Some a) std.None m n z p q e = tt
operated_encloses o op std.None b m n z p q e = tt

binary_in : (o : Opaque) (op : BinaryOp) (x y : Interval) (m n z : ℤ) → cousot x ∋ m → cousot y ∋ n → apply_two o op m n ≡ some z → cousot (binary_of op x y) ∋ z
binary_in o op x y m n z p q e = encloses_in (operated op (range_of x) (range_of y)) z (operated_encloses o op (range_of x) (range_of y) m n z (within x m p) (within y n q) e)

-- ---- `known_identity`

key_fixed : (q : Option Key) → Fixed (key_tree q)
key_fixed none = tt
key_fixed (some k) = tt

-- one node, from what is known of the ids below
known_node_lem : (w : Scene) (known : ℕ → Metered Stop Meter Bool) → ((i : ℕ) → Ensures (λ t. t ≡ true → Fixed (w.tree i)) (known i)) →
    (e : Expression) → Ensures (λ t. t ≡ true → Fixed (tree_of w.key w.tree e)) (known_node known e)
known_node_lem w known h (Constant c) = by_pure true (λ _. key_fixed (w.key c))
known_node_lem w known h (Slot s) = by_pure true (λ _. tt)
known_node_lem w known h (Unary op e) = h e
known_node_lem w known h (Absolute e) = h e
known_node_lem w known h (Binary op l r) =
    bind (h r)
    (λ t f. by_test t (λ a. weaken (λ u g b. (g b, f a)) (h l)) (λ _. by_pure false (λ e. let z : ◌≡◌ {A = ℕ} 0 1 = cc in absurd (omega arith))))
known_node_lem w known h (Unknown i reason) = by_pure false (λ e. let z : ◌≡◌ {A = ℕ} 0 1 = cc in absurd (omega arith))

pub known_sound : (w : Scene) (depth id : ℕ) → Ensures (λ t. t ≡ true → Fixed (w.tree id)) (known_in depth w.nodes id)
unfolding known_in
known_sound w zero id = by_pure false (λ e. let z : ◌≡◌ {A = ℕ} 0 1 = cc in absurd (omega arith))
known_sound w (suc depth) id =
    then (work 1) (weaken (λ t h e. at_tree w Fixed id tt (h e)) (known_node_lem w (known_in depth w.nodes) (known_sound w depth) (expression_at w.nodes id)))

pub identity_sound : (w : Scene) (id : ℕ) → Ensures (λ t. t ≡ true → Fixed (w.tree id)) (known_identity w.nodes id)
unfolding known_identity
identity_sound w id = known_sound w (suc id) id

pub record Same (w : Scene) (op : BinaryOp) (l r : ℕ) : Type 0 where
  pub difference : op ≡ Sub
  pub one : l ≡ r
  pub fixed : Fixed (w.tree l)

is_difference : (op : BinaryOp) → difference? op ≡ true → op ≡ Sub
is_difference Add e = let z : ◌≡◌ {A = ℕ} 0 1 = cc in absurd (omega arith)
is_difference Sub e = refl
is_difference Mul e = let z : ◌≡◌ {A = ℕ} 0 1 = cc in absurd (omega arith)
is_difference Div e = let z : ◌≡◌ {A = ℕ} 0 1 = cc in absurd (omega arith)
is_difference Mod e = let z : ◌≡◌ {A = ℕ} 0 1 = cc in absurd (omega arith)
is_difference Pow e = let z : ◌≡◌ {A = ℕ} 0 1 = cc in absurd (omega arith)
is_difference BitAnd e = let z : ◌≡◌ {A = ℕ} 0 1 = cc in absurd (omega arith)
is_difference BitOr e = let z : ◌≡◌ {A = ℕ} 0 1 = cc in absurd (omega arith)
is_difference BitXor e = let z : ◌≡◌ {A = ℕ} 0 1 = cc in absurd (omega arith)

identical_sound : (w : Scene) (op : BinaryOp) (l r : ℕ) → Ensures (λ t. t ≡ true → Same w op l r) (identical w.nodes op l r)
identical_sound w op l r =
    by_test (difference? op && eqb l r)
    (λ e.
    weaken
    (λ t h a. record {
      difference = is_difference op (and_left (difference? op) (eqb l r) e);
      one = eqb-true l r (and_right (difference? op) (eqb l r) e);
      fixed = h a;
    })
    (identity_sound w l))
    (λ _. by_pure false (λ e. let z : ◌≡◌ {A = ℕ} 0 1 = cc in absurd (omega arith)))

-- ---- a node of two children

-- what a tree of two children is worth lies in an interval
pub record Spans (w : Scene) (op : BinaryOp) (l r : ℕ) (j : Interval) : Type 0 where
  pub proper : ProperEnds j
  pub at : (ch : Choice) → ProperChoice ch → (k : Key) → worth w.opaque w.slots ch (plain.binary op (w.tree l) (w.tree r)) ≡ some k →
      (z : ℤ) × (k ≡ number z) × Number z × (cousot j ∋ z)

number_zero : Number (pos 0)
number_zero = (omega arith, omega arith)

number_in : (w : Scene) (v : Value) (n : ℤ) → Lies w.key w.constants v (number n) → cousot v.bound.interval ∋ n
number_in w v n h = h.bound

module _ (w : Scene) (op : BinaryOp) (l r : ℕ) (a b : Value) (ca : Covers w l a) (cb : Covers w r b) where
  -- both operands are numbers of the children's intervals
  pub record Operands (ch : Choice) (k : Key) : Type 0 where
    pub m : ℤ
    pub n : ℤ
    pub z : ℤ
    pub left : Worth w (into 0 ch) l (number m)
    pub right : Worth w (into 1 ch) r (number n)
    pub in_left : cousot a.bound.interval ∋ m
    pub in_right : cousot b.bound.interval ∋ n
    pub gives : apply_two w.opaque op m n ≡ some z
    pub is : k ≡ number z
    pub fits : Number z

  operands : (ch : Choice) → ProperChoice ch → (k : Key) → worth w.opaque w.slots ch (plain.binary op (w.tree l) (w.tree r)) ≡ some k → Operands ch k
  unfolding worth
  operands ch pch k e =
      let q = results (apply_two w.opaque op) (worth w.opaque w.slots (into 0 ch) (w.tree l)) (worth w.opaque w.slots (into 1 ch) (w.tree r)) k e in
      record {
        m = q.m;
        n = q.n;
        z = q.z;
        left = q.left;
        right = q.right;
        in_left = number_in w a q.m (ca.at (into 0 ch) (proper_into 0 pch) (number q.m) q.left);
        in_right = number_in w b q.n (cb.at (into 1 ch) (proper_into 1 pch) (number q.n) q.right);
        gives = q.gives;
        is = q.is;
        fits = q.fits;
      }

  empty_nothing : (x y : Interval) → empty? x || empty? y ≡ true → (m n : ℤ) → cousot x ∋ m → cousot y ∋ n → ⊥
  empty_nothing Bottom y e m n p q = p
  empty_nothing (Bounded c d) Bottom e m n p q = q
  empty_nothing (Bounded c d) (Bounded f g) e m n p q = let z : ◌≡◌ {A = ℕ} 0 1 = cc in omega arith
  empty_nothing (Bounded c d) Unbounded e m n p q = let z : ◌≡◌ {A = ℕ} 0 1 = cc in omega arith
  empty_nothing Unbounded Bottom e m n p q = q
  empty_nothing Unbounded (Bounded f g) e m n p q = let z : ◌≡◌ {A = ℕ} 0 1 = cc in omega arith
  empty_nothing Unbounded Unbounded e m n p q = let z : ◌≡◌ {A = ℕ} 0 1 = cc in omega arith

  -- e − e for an e with one value
  nought : Same w op l r → (ch : Choice) (k : Key) → (p : Operands ch k) → p.z ≡ pos 0
  nought s ch k p =
      let one : some (number p.m) ≡ some (number p.n) =
      sym p.left ∙ fixed_worth w.opaque w.slots (w.tree l) s.fixed (into 0 ch) (into 1 ch) ∙ ap (λ (i : ℕ). worth w.opaque w.slots (into 1 ch) (w.tree i)) s.one ∙ p.right in
      let d : p.m ≡ p.n = cc in
      let g : apply_two w.opaque Sub p.m p.n ≡ some p.z = subst (λ (q : BinaryOp). apply_two w.opaque q p.m p.n ≡ some p.z) s.difference p.gives in
      sym (some_is g) ∙ subst (λ (c : ℤ). p.m -ℤ c ≡ pos 0) d (+ℤ_invr p.m)

  interval_of_lem : (t : Bool) → (t ≡ true → Same w op l r) → Spans w op l r (cond t (Bounded (pos 0) (pos 0)) (cond (covered w.nodes w.constants op l r) (binary_of op a.bound.interval b.bound.interval) Unbounded))
  interval_of_lem t s = record {
    proper =
        by_cond ProperEnds t (λ _. (number_zero, (number_zero, omega arith)))
        (λ _.
        by_cond ProperEnds (covered w.nodes w.constants op l r)
        (λ _. binary_proper op a.bound.interval b.bound.interval) (λ _. tt));
    at = λ ch pch k e.
        let p = operands ch pch k e in (
          p.z,
          p.is,
          p.fits,
          by_cond (λ j. cousot j ∋ p.z) t
              (λ y. subst (λ (z : ℤ). cousot (Bounded (pos 0) (pos 0)) ∋ z) (sym (nought (s y) ch k p)) (omega arith, omega arith))
              (λ _.
              by_cond (λ j. cousot j ∋ p.z) (covered w.nodes w.constants op l r)
              (λ _. binary_in w.opaque op a.bound.interval b.bound.interval p.m p.n p.z p.in_left p.in_right p.gives) (λ _. (tt, tt))),
        );
  }

  combined_sound : Ensures (Spans w op l r) (combined w.nodes w.constants op l r a.bound.interval b.bound.interval)
  unfolding combined
  combined_sound =
      by_test (empty? a.bound.interval || empty? b.bound.interval)
      (λ e.
      by_pure Bottom
      record { proper = tt; at = λ ch pch k f. let p = operands ch pch k f in absurd (empty_nothing a.bound.interval b.bound.interval e p.m p.n p.in_left p.in_right) })
      (λ _. bind (identical_sound w op l r) (λ t s. by_pure _ (interval_of_lem t s)))

-- ---- under what guards have found

-- a refinement holds in the firing
pub record Holds (w : Scene) (r : Refinement) : Type 0 where
  pub proper : ProperEnds r.restriction
  pub at : (ch : Choice) → ProperChoice ch → (n : ℤ) → Worth w ch r.expression (number n) → cousot r.restriction ∋ n

-- a value of numbers alone has no name
pub integers : (w : Scene) (v : Value) (k : Key) → integer? v ≡ true → Lies w.key w.constants v k → (n : ℤ) × (k ≡ number n)
integers w v (number n) e h = (n, refl)
integers w v (name s) e h = go v.bound.integrality refl h.bound
  where
    go : (i : Integrality) → v.bound.integrality ≡ i → InBound none v.bound → (n : ℤ) × (name s ≡ number n)
    go Integer q b = absurd (rw q at b)
    go Mixed q b = let f : cond (mixed Mixed) false true ≡ true = rw q at e in let z : ◌≡◌ {A = ℕ} 0 1 = cc in absurd (omega arith)

-- a value that has what a tree is worth
pub record CoversTree (w : Scene) (t : Tree) (v : Value) : Type 0 where
  pub at : (ch : Choice) → ProperChoice ch → (k : Key) → worth w.opaque w.slots ch t ≡ some k → Lies w.key w.constants v k

pub record SoundTree (w : Scene) (t : Tree) (v : Value) : Type 0 where
  pub tidy : Tidy v
  pub formed : WellFormed v
  pub covers : CoversTree w t v

-- and that of an id
abbrev pub Sound : Scene → ℕ → Value → Type 0
Sound w id v = SoundTree w (w.tree id) v

pub covers_id : {w : Scene} {id : ℕ} {v : Value} → Sound w id v → Covers w id v
covers_id s = record { at = s.covers.at }

covers_all : (w : Scene) (t : Tree) {m : Metered Stop Meter Value} →
    ((ch : Choice) → ProperChoice ch → (k : Key) → worth w.opaque w.slots ch t ≡ some k → Ensures (λ v. Lies w.key w.constants v k) m) → Ensures (CoversTree w t) m
covers_all w t h = weaken (λ v f. record { at = f }) (for_all (λ ch. for_all (λ pch. for_all (λ k. for_all (λ e. h ch pch k e)))))

sound_all : (w : Scene) (t : Tree) {m : Metered Stop Meter Value} → Ensures Tidy m → Ensures WellFormed m → Ensures (CoversTree w t) m → Ensures (SoundTree w t) m
sound_all w t p f q = weaken (λ v h. record { tidy = h.0; formed = h.1.0; covers = h.1.1 }) (both p (both f q))

numeric_sound : (w : Scene) (t : Tree) (j : Interval) → ProperEnds j →
    ((ch : Choice) → ProperChoice ch → (k : Key) → worth w.opaque w.slots ch t ≡ some k → (z : ℤ) × (k ≡ number z) × Number z × (cousot j ∋ z)) → SoundTree w t (numeric j)
numeric_sound w t j p h = record {
  tidy = numeric_tidy j;
  formed = numeric_formed j p;
  covers = record {
    at = λ ch pch k e.
        let q = h ch pch k e in subst (Lies w.key w.constants (numeric j)) (sym q.1) (numeric_lies w.key w.constants j q.0 q.2 q.3);
  };
}

-- ---- what is known narrows a value

module _ (w : Scene) (small : All (λ k. k < 2 ^ 32) w.constants) (id : ℕ) where
  narrow_sound : (v : Value) → Sound w id v → (r : Refinement) → Holds w r → r.expression ≡ id → Ensures (Sound w id) (narrow w.constants r.restriction v)
  narrow_sound v s r h e =
      by_test (integer? v)
      (λ i.
      by_through (Sound w id) _ _ _ _
      (sound_all w (w.tree id) (refine_tidy w.constants v r.restriction s.tidy) (refine_formed w.constants small v r.restriction s.formed h.proper)
      (covers_all w (w.tree id)
      (λ ch pch k q.
      let c = s.covers.at ch pch k q in
      let n = integers w v k i c in
      let p = n.1 in
      let q' : Worth w ch id (number n.0) = q ∙ ap some p in
      let inside : cousot r.restriction ∋ n.0 = h.at ch pch n.0 (subst (λ (j : ℕ). Worth w ch j (number n.0)) (sym e) q') in
      subst (λ (j : Key). Ensures (λ u. Lies w.key w.constants u j) (refine w.constants v r.restriction)) (sym p)
      (refine_lies w.key w.constants w.keys v s.tidy r.restriction n.0 (worth_proper w ch pch id (number n.0) q') inside
      (subst (Lies w.key w.constants v) p c))))))
      (λ _. by_pure v s)

  pub restrict_sound : (rs : List Refinement) → All (Holds w) rs → (v : Value) → Sound w id v → Ensures (Sound w id) (restrict w.constants rs id v)
  unfolding restrict
  restrict_sound [] h v s = by_pure v s
  restrict_sound (r ∷ rs) h v s =
      then (holding (entries_of v) (work 1))
      (by_test (eqb r.expression id) (λ e. narrow_sound v s r h.0 (eqb-true r.expression id e)) (λ _. restrict_sound rs h.1 v s))

-- ---- a node, from what its children give

-- the values of the first n slots have those of the firing
pub record SlotsIn (w : Scene) (n : ℕ) (rows : List ℕ) : Type 0 where
  pub tidy : (s : ℕ) → s < n → Tidy (value_at rows s)
  pub formed : (s : ℕ) → s < n → WellFormed (value_at rows s)
  pub lies : (s : ℕ) → s < n → Lies w.key w.constants (value_at rows s) (w.slots s)

module _ (w : Scene) (small : All (λ k. k < 2 ^ 32) w.constants) (expressions n width : ℕ) (rows : List ℕ) (sl : SlotsIn w n rows) where
  abbrev here : Scope
  here = scope w.nodes expressions n

  abbrev over : Input
  over = record { nodes = w.nodes; constants = w.constants; width = width }

  id_short : (k : ℕ) → id_of k < 2 ^ 16
  id_short k = omega arith

  short_id : (k : ℕ) → k < 2 ^ 16 → id_of k ≡ k
  short_id k h = omega arith

  constant_sound : (c : ℕ) (q : Option Key) → w.key c ≡ q → Ensures (SoundTree w (key_tree q)) (constant (id_of c) (constant_at w.constants (id_of c)) width)
  unfolding worth
  constant_sound c none e =
      sound_all w (key_tree none) (constant_tidy (id_of c) (constant_at w.constants (id_of c)) width) (constant_formed w.constants small (id_of c) width (id_short c)) (covers_all w (key_tree none) (λ ch pch k q. absurd (none_some q)))
  constant_sound c (some j) e =
      let i : id_of c ≡ c = short_id c (w.keys.short c j e) in
      sound_all w (key_tree (some j)) (constant_tidy (id_of c) (constant_at w.constants (id_of c)) width) (constant_formed w.constants small (id_of c) width (id_short c))
      (covers_all w (key_tree (some j))
      (λ ch pch k q.
      subst (λ (b : Key). Ensures (λ v. Lies w.key w.constants v b) (constant (id_of c) (constant_at w.constants (id_of c)) width)) (some_is q)
      (rw i (constant_lies w.key w.constants w.keys c width j e))))

  unknown_sound : (b : Bool) (reason : Widening) → SoundTree w (plain.unknown b) (unknown b reason)
  unfolding worth
  unknown_sound true reason = record {
    tidy = record { sorted = tt; small = tt };
    formed = record { interval = tt; list = tt };
    covers = record { at = λ ch pch k e. go (ch []) k (pch.at []) e };
  }
    where
      go : (c k : Key) → ProperKey c → chosen true c ≡ some k → Lies w.key w.constants (unknown true reason) k
      go (number z) k p e = subst (Lies w.key w.constants (unknown true reason)) (some_is e) record { bound = (tt, tt); list = tt }
      go (name s) k p e = absurd (none_some e)
  unknown_sound false reason = record {
    tidy = record { sorted = tt; small = tt };
    formed = top_formed (Some reason);
    covers = record { at = λ ch pch k e. top_lies w.key w.constants (Some reason) k (subst ProperKey (some_is e) (pch.at [])) };
  }

  one_sound : (e : ℕ) (f : Interval → Interval) (t : Tree) → ((x : Interval) → ProperEnds (f x)) →
      ((a : Value) → Covers w e a → (ch : Choice) → ProperChoice ch → (k : Key) → worth w.opaque w.slots ch t ≡ some k → (z : ℤ) × (k ≡ number z) × Number z × (cousot (f a.bound.interval) ∋ z)) →
      (evaluate : ℕ → Metered Stop Meter Value) → Ensures (Sound w e) (evaluate e) → Ensures (SoundTree w t) (evaluate e >>= (λ a. after_one (f a.bound.interval) a))
  unfolding after_one
  one_sound e f t p h evaluate ih =
      bind ih (λ a s. by_through (SoundTree w t) _ _ _ _ (then (work 1) (by_pure _ (numeric_sound w t (f a.bound.interval) (p a.bound.interval) (h a (covers_id s))))))

  two_sound : (op : BinaryOp) (l r : ℕ) (evaluate : ℕ → Metered Stop Meter Value) → Ensures (Sound w l) (evaluate l) → Ensures (Sound w r) (evaluate r) →
      Ensures (SoundTree w (plain.binary op (w.tree l) (w.tree r))) (evaluate l >>= (λ a. dropping (entries_of a) (evaluate r >>= after_two w.nodes w.constants op l r a)))
  unfolding after_two
  two_sound op l r evaluate il ir =
      let t = plain.binary op (w.tree l) (w.tree r) in
      bind il
      (λ a sa.
      by_through (SoundTree w t) _ _ _ _
      (bind ir
      (λ b sb.
      by_through (SoundTree w t) _ _ _ _
      (then (work 1) (bind (combined_sound w op l r a b (covers_id sa) (covers_id sb)) (λ j s. by_pure _ (numeric_sound w t j s.proper s.at)))))))

  -- one node, by what is in scope
  node_sound : (evaluate : ℕ → Metered Stop Meter Value) → ((i : ℕ) → Scoped here i → Ensures (Sound w i) (evaluate i)) →
      {id : ℕ} → Scoped here id → Ensures (SoundTree w (tree_of w.key w.tree (expression_at w.nodes id))) (evaluate_node evaluate over rows (expression_at w.nodes id))
  unfolding worth
  node_sound evaluate ih (in_constant {k = c} h e) = rw e (constant_sound c (w.key c) refl)
  node_sound evaluate ih (in_slot {k = s} h e m) =
      rw e
      (sound_all w (plain.slot s) (copied_tidy (value_at rows s) (sl.tidy s m)) (copied_formed (value_at rows s) (sl.formed s m))
      (covers_all w (plain.slot s)
      (λ ch pch k q.
      subst (λ (b : Key). Ensures (λ v. Lies w.key w.constants v b) (copied (value_at rows s))) (some_is q)
      (copied_lies w.key w.constants (value_at rows s) (w.slots s) (sl.lies s m)))))
  node_sound evaluate ih (in_unary {e = a} {op} h e p) =
      rw e
      (one_sound a (unary_of op) (plain.unary op (w.tree a)) (unary_proper op)
      (λ v c ch pch k q.
      let r = result (apply_one w.opaque op) (worth w.opaque w.slots (into 0 ch) (w.tree a)) k q in (
        r.z,
        r.is,
        r.fits,
        unary_in w.opaque op v.bound.interval r.n r.z (number_in w v r.n (c.at (into 0 ch) (proper_into 0 pch) (number r.n) r.from)) r.gives,
      ))
      evaluate (ih a p))
  node_sound evaluate ih (in_absolute {e = a} h e p) =
      rw e
      (one_sound a absolute_of (plain.absolute (w.tree a)) absolute_proper
      (λ v c ch pch k q.
      let r = result (λ n. some (magnitude n)) (worth w.opaque w.slots (into 0 ch) (w.tree a)) k q in (
        r.z,
        r.is,
        r.fits,
        absolute_in v.bound.interval r.n r.z (number_in w v r.n (c.at (into 0 ch) (proper_into 0 pch) (number r.n) r.from)),
      ))
      evaluate (ih a p))
  node_sound evaluate ih (in_binary {l = l} {r} {op} h e p q) = rw e (two_sound op l r evaluate (ih l p) (ih r q))
  node_sound evaluate ih (in_unknown {i = b} {w = reason} h e) = rw e (by_pure _ (unknown_sound b reason))

  worthless : (ch : Choice) (k : Key) → worth w.opaque w.slots ch plain.nothing ≡ some k → ⊥
  unfolding worth
  worthless ch k e = none_some e

  module _ (known : List Refinement) (hold : All (Holds w) known) where
    pub evaluate_sound : (depth id : ℕ) → Scoped here id → Ensures (Sound w id) (evaluate_in depth over rows known id)
    unfolding evaluate_in
    evaluate_sound zero id s = by_pure _ record {
      tidy = record { sorted = tt; small = tt };
      formed = top_formed (Some HeadForm);
      covers = record { at = λ ch pch k e. top_lies w.key w.constants (Some HeadForm) k (worth_proper w ch pch id k e) };
    }
    evaluate_sound (suc depth) id s =
        then (work 1)
        (bind (node_sound (evaluate_in depth over rows known) (λ i. evaluate_sound depth i) s)
        (λ v h.
        restrict_sound w small id known hold v
        record {
          tidy = h.tidy;
          formed = h.formed;
          covers = record {
            at = λ ch pch k.
                at_tree w (λ (t : Tree). worth w.opaque w.slots ch t ≡ some k → Lies w.key w.constants v k) id (λ e. absurd (worthless ch k e)) (h.covers.at ch pch k);
          };
        }))

    -- the value of an expression in any firing lies in what `expression` gives
    pub expression_sound : (id : ℕ) → Scoped here id → Ensures (Sound w id) (expression over rows known id)
    unfolding expression
    expression_sound id s = evaluate_sound (suc id) id s
