-- What the code of evaluation answers is what the definitions say, over plain variables.
use Prim.Native.Nat.{ℕ, ◌<◌}
use native.Mathlib.Omega.{arith}
use mathlib.Core.Path.{◌≡◌, refl, sym, ap, subst, ◌∙◌}
use mathlib.Core.Bool.{Bool, true, false, ◌&&◌, ◌||◌}
use mathlib.Core.List.{List}
use borrow.Author.Tests.{eq-eqb, ne_eqb}
use lib.Dec.{eqb}
use lib.IntN.{pos}
use Rattle.std.proofs.Common.{Result}
use Rattle.limits.specs.declared.Stop.{Stop}
use Rattle.limits.specs.Metered.{Run, going, stopped, Metered, answered, pure, after, ◌>>=◌, ◌>>◌, mapped, through}
use Rattle.limits.specs.declared.Meter.{Meter}
use Rattle.limits.specs.Meter.{work, released, holding, held_through, dropping}
use Rattle.limits.proofs.Monad.{bind_bind, bind_stop, bind_on, then_stop, then_on, pure_is, yes_on, no_on, Holds, Ensures, any_value, by_pure, by_through, bind, then}
use Rattle.limits.proofs.Answering.{held_is}
use Rattle.limits.proofs.CodeLaws.{drop_on, drop_stop}
use Rattle.interval.specs.declared.Interval.{Interval}
use Rattle.interval.specs.declared.Interval.TheVariants.{Bottom, Bounded, Unbounded}
use Rattle.lattice.specs.declared.Widening.{Widening}
use Rattle.lattice.specs.Value.{Value}
use Rattle.lattice.specs.Lattice.{numeric}
use Rattle.rows.specs.Row.{entries_of}
use Rattle.nodes.specs.declared.BinaryOp.{BinaryOp}
use Rattle.nodes.specs.declared.Expression.{Expression}
use Rattle.nodes.specs.declared.Expression.TheVariants.{Constant as Fixed, Slot, Unary, Absolute, Binary, Unknown}
use Rattle.nodes.specs.Node.{expression_at}
use Rattle.nodes.proofs.NodeLaws.{Below}
use Rattle.nodes.proofs.Descent.{below, descends}
use Rattle.refinements.specs.Refinement.{Refinement, restrict}
use Rattle.refinements.proofs.CodeLaws.{Numeric, restrict_numeric}
use Rattle.operators.specs.Arithmetic.{empty?, binary_of, difference?}
use Rattle.operators.specs.Literal.{covered}
use Rattle.evaluation.specs.declared.Operand.{Operand}
use Rattle.evaluation.specs.Evaluation.{Input, known_node, known_in, known_identity, identical, combined, after_one, after_two, evaluate_node, evaluate_in, expression, values, both}
use Rattle.evaluation.specs.Operands.{operand, sees, sees_both, combining, one_left, two_left}
use Rattle.evaluation.proofs.Operands.{seen_value, seen_stop, after_stop, after_on}

-- ---- `known_identity`: one step down

abbrev Known : Type 0
Known = Metered Stop Meter Bool

abbrev known_step : List ℕ → (ℕ → Known) → ℕ → Known
known_step nodes f id = work 1 >> known_node f (expression_at nodes id)

known_near : (nodes : List ℕ) (f g : ℕ → Known) (id : ℕ) → ((j : ℕ) → j < id → f j ≡ g j) → known_step nodes f id ≡ known_step nodes g id
known_near nodes f g id h = ap (λ (c : Known). work 1 >> c) (go (expression_at nodes id) (below nodes id refl (expression_at nodes id) refl))
  where
    go : (e : Expression) → Below id e → known_node f e ≡ known_node g e
    go (Fixed k) b = refl
    go (Slot s) b = refl
    go (Unary op e) b = h e b
    go (Absolute e) b = h e b
    go (Binary op l r) b = rw (h r b.1, h l b.0)
    go (Unknown i w) b = refl

known_open : (nodes : List ℕ) (id : ℕ) → known_identity nodes id ≡ known_step nodes (known_identity nodes) id
unfolding known_identity known_in
known_open nodes id = descends (known_step nodes) (known_near nodes) (λ n j. known_in n nodes j) (λ n j. refl) id

module _ (nodes : List ℕ) (id : ℕ) (m : Meter) where
  pub known_unpaid : {s : Stop} {t : Meter} → stopped s t ≡ work 1 m → stopped s t ≡ known_identity nodes id m
  known_unpaid h = rw (known_open nodes id) (then_stop (work 1) m _ h)

  pub known_at : {t : Meter} → going tt t ≡ work 1 m → {e f : Expression} → e ≡ expression_at nodes id → e ≡ f → {y : Run Stop Meter Bool} →
      y ≡ known_node (known_identity nodes) f t → y ≡ known_identity nodes id m
  known_at h q p k = rw (known_open nodes id) (then_on (work 1) m _ h (rw (← q, p) k))

-- ---- e − e, and the interval of a node with two children

module _ (nodes : List ℕ) (op : BinaryOp) (l r : ℕ) (m : Meter) {t : Bool} (q : t ≡ difference? op) where
  pub other_operator : t ≡ false → going false m ≡ identical nodes op l r m
  other_operator p = no_on {t = difference? op && eqb l r} _ _ m (rw (← q, p)) (pure_is false m)

  pub operands_apart : t ≡ true → (l ≡ r → ⊥) → going false m ≡ identical nodes op l r m
  operands_apart p d = no_on {t = difference? op && eqb l r} _ _ m (rw (← q, p) (ne_eqb l r d)) (pure_is false m)

  pub operands_same : {y : Run Stop Meter Bool} → t ≡ true → l ≡ r → y ≡ known_identity nodes l m → y ≡ identical nodes op l r m
  operands_same p d k = yes_on {t = difference? op && eqb l r} _ _ m (rw (← q, p) (eq-eqb l r d)) k

module _ (nodes constants : List ℕ) (op : BinaryOp) (l r : ℕ) (x y : Interval) (m : Meter) where
  abbrev Combined : Run Stop Meter Interval → Type 0
  Combined z = z ≡ combining nodes constants op l r x y m

  pub combine_unpaid : {s : Stop} {t : Meter} → stopped s t ≡ work 1 m → Combined (stopped s t)
  combine_unpaid h = then_stop (work 1) m _ h

  module _ {t : Meter} (h : going tt t ≡ work 1 m) {a : Bool} (p : a ≡ empty? x) where
    pub left_empty : a ≡ true → Combined (going Bottom t)
    unfolding combined
    left_empty e = then_on (work 1) m _ h (yes_on {t = empty? x || empty? y} _ _ t (rw (← p, e)) (pure_is Bottom t))

    module _ (e : a ≡ false) {b : Bool} (q : b ≡ empty? y) where
      tests : {c : Bool} → b ≡ c → (empty? x || empty? y) ≡ c
      tests d = rw (← p, e) (sym q ∙ d)

      pub right_empty : b ≡ true → Combined (going Bottom t)
      unfolding combined
      right_empty d = then_on (work 1) m _ h (yes_on {t = empty? x || empty? y} _ _ t (tests d) (pure_is Bottom t))

      module _ (d : b ≡ false) where
        pub same_stopped : {s : Stop} {u : Meter} → stopped s u ≡ identical nodes op l r t → Combined (stopped s u)
        unfolding combined
        same_stopped k = then_on (work 1) m _ h (no_on {t = empty? x || empty? y} _ _ t (tests d) (bind_stop (identical nodes op l r) t _ k))

        pub same_zero : {u : Meter} → going true u ≡ identical nodes op l r t → Combined (going (Bounded (pos 0) (pos 0)) u)
        unfolding combined
        same_zero {u} k = then_on (work 1) m _ h (no_on {t = empty? x || empty? y} _ _ t (tests d) (bind_on (identical nodes op l r) t _ k (pure_is _ u)))

        module _ {u : Meter} (k : going false u ≡ identical nodes op l r t) {c : Bool} (g : c ≡ covered nodes constants op l r) where
          pub worked : {i : Interval} → c ≡ true → i ≡ binary_of op x y → Combined (going i u)
          unfolding combined
          worked o f = then_on (work 1) m _ h (no_on {t = empty? x || empty? y} _ _ t (tests d) (bind_on (identical nodes op l r) t _ k (rw (← g, o, f) (pure_is _ u))))

          pub open_ended : c ≡ false → Combined (going Unbounded u)
          unfolding combined
          open_ended o = then_on (work 1) m _ h (no_on {t = empty? x || empty? y} _ _ t (tests d) (bind_on (identical nodes op l r) t _ k (rw (← g, o) (pure_is _ u))))

-- ---- the second of two, while the first is live

module _ (n : ℕ) (d : Metered Stop Meter Value) (t : Meter) where
  held_shown : holding n (λ k. sees (d k)) t ≡ sees (holding n d t)
  unfolding through mapped
  held_shown = go (d t)
    where
      go : (x : Run Stop Meter Value) → mapped (λ k. k) (released n) (λ e. e) (sees x) ≡ sees (mapped (λ k. k) (released n) (λ e. e) x)
      go (going v k) = refl
      go (stopped s k) = refl

  pub held_sees : (x : Result Operand Stop) (t' : Meter) (r : Result Operand Stop) (u : Meter) → answered x t' ≡ sees (d t) → answered r u ≡ held_through n x t' → answered r u ≡ sees (holding n d t)
  held_sees x t' r u h k = k ∙ held_is n (λ m. sees (d m)) t x t' h ∙ held_shown

  module _ {B : Type 0} (g : Value → Metered Stop Meter B) where
    drop_held : {s : Stop} {u : Meter} → stopped s u ≡ holding n d t → stopped s u ≡ dropping n (d >>= g) t
    unfolding through mapped ◌>>=◌ after
    drop_held {s} {u} h = go (d t) h
      where
        go : (x : Run Stop Meter Value) → stopped s u ≡ mapped (λ k. k) (released n) (λ e. e) x → stopped s u ≡ mapped (released n) (released n) (λ e. e) (after x g)
        go (going v k) h = let z : ◌≡◌ {A = ℕ} 0 1 = cc in absurd (omega arith)
        go (stopped e k) h = cc

    drop_on_held : {v : Value} {u : Meter} → going v u ≡ holding n d t → dropping n (g v) u ≡ dropping n (d >>= g) t
    unfolding through mapped ◌>>=◌ after
    drop_on_held {v} {u} h = go (d t) h
      where
        go : (x : Run Stop Meter Value) → going v u ≡ mapped (λ k. k) (released n) (λ e. e) x → mapped (released n) (released n) (λ e. e) (g v u) ≡ mapped (released n) (released n) (λ e. e) (after x g)
        go (going w k) h =
            let p : v ≡ w = cc in
            let q : u ≡ k = cc in
            rw (p, q) refl
        go (stopped e k) h = let z : ◌≡◌ {A = ℕ} 0 1 = cc in absurd (omega arith)

-- ---- a node with children, and what follows it

module _ (f : Value → Metered Stop Meter Value) where
  module _ (i : Interval) (listed : ℕ) (m : Meter) where
    pub one_unpaid : {s : Stop} {t u : Meter} → stopped s t ≡ work 1 m → u ≡ released listed t → stopped s u ≡ sees (after (one_left i listed m) f)
    one_unpaid h e = rw e (ap sees (after_stop f (drop_stop listed (work 1 >> pure (numeric i)) m (then_stop (work 1) m _ h))))

    pub one_paid : {t u : Meter} {y : Run Stop Meter Operand} → going tt t ≡ work 1 m → u ≡ released listed t → y ≡ sees (f (numeric i) u) → y ≡ sees (after (one_left i listed m) f)
    one_paid {t} h e k = k ∙ rw e (ap sees (after_on f (drop_on listed (work 1 >> pure (numeric i)) m (then_on (work 1) m _ h (pure_is _ t)))))

  module _ (nodes constants : List ℕ) (op : BinaryOp) (l r : ℕ) (a b : Operand) (m : Meter) where
    abbrev inner : Metered Stop Meter Value
    inner = work 1 >> (combined nodes constants op l r a.bound.interval b.bound.interval >>= (λ i. pure (numeric i)))

    regrouped : (combining nodes constants op l r a.bound.interval b.bound.interval >>= (λ i. pure (numeric i))) m ≡ inner m
    unfolding ◌>>◌
    regrouped = bind_bind (work 1) (λ _. combined nodes constants op l r a.bound.interval b.bound.interval) (λ i. pure (numeric i)) m

    module _ {t u v : Meter} (p : u ≡ released b.entries t) (q : v ≡ released a.entries u) where
      pub two_stopped : {s : Stop} → stopped s t ≡ combining nodes constants op l r a.bound.interval b.bound.interval m → stopped s v ≡ sees (after (two_left nodes constants op l r a b m) f)
      two_stopped h = rw (q, p) (ap sees (after_stop f (drop_stop a.entries (dropping b.entries inner) m (drop_stop b.entries inner m (bind_stop _ m (λ i. pure (numeric i)) h ∙ regrouped)))))

      pub two_made : {i : Interval} {y : Run Stop Meter Operand} → going i t ≡ combining nodes constants op l r a.bound.interval b.bound.interval m → y ≡ sees (f (numeric i) v) →
          y ≡ sees (after (two_left nodes constants op l r a b m) f)
      two_made h k = k ∙ rw (q, p) (ap sees (after_on f (drop_on a.entries (dropping b.entries inner) m (drop_on b.entries inner m (bind_on _ m (λ i. pure (numeric i)) h (pure_is _ t) ∙ regrouped)))))

  -- of a child c: g is what the node makes of its interval
  module _ (c : Metered Stop Meter Value) (g : Interval → Interval) (m : Meter) where
    abbrev One : Run Stop Meter Operand → Type 0
    One y = y ≡ sees (after ((c >>= (λ v. after_one (g v.bound.interval) v)) m) f)

    pub one_stops : {s : Stop} {t : Meter} → stopped s t ≡ sees (c m) → One (stopped s t)
    one_stops h = ap sees (after_stop f (bind_stop c m _ (seen_stop (c m) h)))

    pub one_goes : {a : Operand} {t : Meter} {i : Interval} {y : Run Stop Meter Operand} → going a t ≡ sees (c m) → i ≡ g a.bound.interval → y ≡ sees (after (one_left i a.entries t) f) → One y
    unfolding after_one
    one_goes {t} h e k =
        let o = seen_value (c m) h in
        k ∙ rw (e, ← o.shows) (ap (λ (x : Run Stop Meter Value). sees (after x f)) (bind_on c m _ o.is refl))

  -- of two, c and then d
  module _ (c d : Metered Stop Meter Value) (nodes constants : List ℕ) (op : BinaryOp) (l r : ℕ) (m : Meter) where
    abbrev Two : Run Stop Meter Operand → Type 0
    Two y = y ≡ sees (after ((c >>= (λ a. dropping (entries_of a) (d >>= after_two nodes constants op l r a))) m) f)

    pub left_stops : {s : Stop} {t : Meter} → stopped s t ≡ sees (c m) → Two (stopped s t)
    left_stops h = ap sees (after_stop f (bind_stop c m _ (seen_stop (c m) h)))

    module _ {a : Operand} {t : Meter} (h : going a t ≡ sees (c m)) where
      pub right_stops : {s : Stop} {u : Meter} → stopped s u ≡ sees (holding a.entries d t) → Two (stopped s u)
      right_stops {s} {u} k =
          let o = seen_value (c m) h in
          ap sees
          (after_stop f
          (drop_held (entries_of o.value) d t (after_two nodes constants op l r o.value) (rw (← o.shows) at (seen_stop (holding a.entries d t) k))
          ∙ bind_on c m (λ v. dropping (entries_of v) (d >>= after_two nodes constants op l r v)) o.is refl))

      pub two_go : {b : Operand} {u : Meter} {y : Run Stop Meter Operand} → going b u ≡ sees (holding a.entries d t) → y ≡ sees (after (two_left nodes constants op l r a b u) f) → Two y
      unfolding after_two
      two_go {b} {u} {y} k e =
          let o = seen_value (c m) h in
          let w = seen_value (holding a.entries d t) k in
          let i = w.is ∙ ap (λ (z : Operand). holding z.entries d t) (sym o.shows) in
          e
          ∙ ap (λ (z : Operand). sees (after (two_left nodes constants op l r z b u) f)) (sym o.shows)
          ∙ ap (λ (z : Operand). sees (after (two_left nodes constants op l r (operand o.value) z u) f)) (sym w.shows)
          ∙ ap (λ (x : Run Stop Meter Value). sees (after x f))
          (drop_on_held (entries_of o.value) d t (after_two nodes constants op l r o.value) i
          ∙ bind_on c m (λ v. dropping (entries_of v) (d >>= after_two nodes constants op l r v)) o.is refl)

-- ---- `expression`: one step down

module _ (i : Input) (slots : List ℕ) (known : List Refinement) where
  abbrev step : (ℕ → Metered Stop Meter Value) → ℕ → Metered Stop Meter Value
  step f id = work 1 >> (evaluate_node f i slots (expression_at i.nodes id) >>= restrict i.constants known id)

  near : (f g : ℕ → Metered Stop Meter Value) (id : ℕ) → ((j : ℕ) → j < id → f j ≡ g j) → step f id ≡ step g id
  near f g id h =
      ap (λ (c : Metered Stop Meter Value). work 1 >> (c >>= restrict i.constants known id))
      (go (expression_at i.nodes id) (below i.nodes id refl (expression_at i.nodes id) refl))
    where
      go : (e : Expression) → Below id e → evaluate_node f i slots e ≡ evaluate_node g i slots e
      go (Fixed k) b = refl
      go (Slot s) b = refl
      go (Unary op e) b = rw (h e b)
      go (Absolute e) b = rw (h e b)
      go (Binary op l r) b = rw (h r b.1, h l b.0)
      go (Unknown n w) b = refl

  expression_open : (id : ℕ) → expression i slots known id ≡ step (expression i slots known) id
  unfolding expression evaluate_in
  expression_open id = descends step near (λ n j. evaluate_in n i slots known j) (λ n j. refl) id

  module _ (id : ℕ) (m : Meter) where
    pub unpaid : {s : Stop} {t : Meter} → stopped s t ≡ work 1 m → stopped s t ≡ expression i slots known id m
    unpaid h = rw (expression_open id) (then_stop (work 1) m _ h)

    -- by what the node gives
    pub at_node : {t : Meter} → going tt t ≡ work 1 m → {e f : Expression} → e ≡ expression_at i.nodes id → e ≡ f →
        after (evaluate_node (expression i slots known) i slots f t) (restrict i.constants known id) ≡ expression i slots known id m
    unfolding ◌>>=◌
    at_node h q p = rw (expression_open id) (then_on (work 1) m _ h (rw (← q, p)))

  -- ---- the value of a node with children is numeric

  one_numeric : (x : Interval) (a : Value) → Ensures Numeric (after_one x a)
  unfolding after_one
  one_numeric x a = by_through Numeric _ _ _ _ (then (work 1) (by_pure (numeric x) (x, refl)))

  two_numeric : (op : BinaryOp) (l r : ℕ) (a b : Value) → Ensures Numeric (after_two i.nodes i.constants op l r a b)
  unfolding after_two
  two_numeric op l r a b = by_through Numeric _ _ _ _ (then (work 1) (bind (any_value _) (λ x _. by_pure (numeric x) (x, refl))))

  abbrev Parent : Expression → Type 0
  Parent e = ((k : ℕ) → e ≡ Fixed k → ⊥) × (((s : ℕ) → e ≡ Slot s → ⊥) × ((t : Bool) (w : Widening) → e ≡ Unknown t w → ⊥))

  parent_numeric : (node : Expression) → Parent node → Ensures Numeric (evaluate_node (expression i slots known) i slots node)
  parent_numeric (Fixed k) p = absurd (p.0 k refl)
  parent_numeric (Slot s) p = absurd (p.1.0 s refl)
  parent_numeric (Unary op j) p = bind (any_value _) (λ v _. one_numeric _ v)
  parent_numeric (Absolute j) p = bind (any_value _) (λ v _. one_numeric _ v)
  parent_numeric (Binary op l r) p = bind (any_value _) (λ v _. by_through Numeric _ _ _ _ (bind (any_value _) (λ u _. two_numeric op l r v u)))
  parent_numeric (Unknown t w) p = absurd (p.1.1 t w refl)

  itself : (v : Value) → Numeric v → numeric v.bound.interval ≡ v
  itself v h = ap (λ (u : Value). numeric u.bound.interval) h.1 ∙ go h.0 ∙ sym h.1
    where
      go : (i : Interval) → numeric (numeric i).bound.interval ≡ numeric i
      go Bottom = refl
      go (Bounded low high) = refl
      go Unbounded = refl

  pub parent_seen : (id : ℕ) (m : Meter) {x : Expression} → x ≡ expression_at i.nodes id → Parent x → {a : Operand} {t : Meter} {v : Value} → going a t ≡ sees (expression i slots known id m) → v ≡ numeric a.bound.interval →
      going v t ≡ expression i slots known id m
  parent_seen id m {x} q p {t} h e =
      let o = seen_value (expression i slots known id m) h in
      let n : Numeric o.value = subst (Holds Numeric) (sym o.is) (all.at m) in
      rw (e, ← o.shows) (ap (λ (v : Value). going v t) (itself o.value n) ∙ o.is)
    where
      all : Ensures Numeric (expression i slots known id)
      all = rw (expression_open id) (then (work 1) (bind (rw (← q) (parent_numeric x p)) (λ v n. restrict_numeric i.constants known id v n)))

  -- ---- two expressions

  module _ (l r : ℕ) (m : Meter) where
    pub first_stops : {s : Stop} {t : Meter} → stopped s t ≡ sees (expression i slots known l m) → stopped s t ≡ sees_both (both i slots known l r m)
    unfolding both
    first_stops h = ap sees_both (bind_stop _ m _ (seen_stop (expression i slots known l m) h))

    module _ {a : Operand} {t : Meter} (h : going a t ≡ sees (expression i slots known l m)) where
      pub second_stops : {s : Stop} {u : Meter} → stopped s u ≡ sees (holding a.entries (expression i slots known r) t) → stopped s u ≡ sees_both (both i slots known l r m)
      unfolding both
      second_stops k =
          let o = seen_value (expression i slots known l m) h in
          ap sees_both (bind_on _ m _ o.is (bind_stop (holding (entries_of o.value) (expression i slots known r)) t _ (rw (← o.shows) at (seen_stop (holding a.entries (expression i slots known r) t) k))))

      pub both_go : {b : Operand} {u : Meter} → going b u ≡ sees (holding a.entries (expression i slots known r) t) → going (a, b) u ≡ sees_both (both i slots known l r m)
      unfolding both
      both_go {b} {u} k =
          let o = seen_value (expression i slots known l m) h in
          let w = seen_value (holding a.entries (expression i slots known r) t) k in
          let e = w.is ∙ ap (λ (z : Operand). holding z.entries (expression i slots known r) t) (sym o.shows) in
          ap (λ (z : Operand). going (z, b) u) (sym o.shows)
          ∙ ap (λ (z : Operand). going (operand o.value, z) u) (sym w.shows)
          ∙ ap sees_both (bind_on _ m _ o.is (bind_on (holding (entries_of o.value) (expression i slots known r)) t (λ b. pure (values o.value b)) e (pure_is _ u)))
