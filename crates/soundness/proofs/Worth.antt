-- Values of trees in a firing: what an operation's value tells of its operands, that numbers have 32 bits, and that a tree without Unknown has
-- one value whatever is chosen.
use Prim.Native.Nat.{ℕ}
use native.Mathlib.Omega.{arith}
use mathlib.Core.Path.{◌≡◌, refl, sym, ap, ap₂, subst}
use mathlib.Core.Bool.{Bool, true, false, cond}
use mathlib.Core.Logic.{⊎_elim}
use mathlib.Core.List.{List, [], ◌∷◌}
use mathlib.Core.Option.{Option, some, none}
use lib.IntN.{ℤ}
use Rattle.integers.specs.Order.{Number, number?}
use Rattle.integers.proofs.OrderLaws.{number_yes}
use Rattle.keys.specs.Key.{Key, number, name}
use Rattle.nodes.specs.declared.Expression.{Expression}
use Rattle.nodes.specs.declared.Expression.TheVariants.{Constant, Slot, Unary, Absolute, Binary, Unknown}
use Rattle.nodes.specs.Node.{expression_at}
use Rattle.lattice.specs.Value.{Value}
use Rattle.soundness.specs.Plain.{Tree, nothing, constant, slot, unary, absolute, binary, unknown, Opaque, Choice, into, chosen, fitting, on_number, on_numbers, magnitude, apply_one, apply_two, worth, ProperKey}
use Rattle.soundness.specs.Tied.{key_tree, tree_of, Constants, Trees}
use Rattle.soundness.proofs.Lies.{Lies}

-- ---- a firing over tables: what ids stand for, and a value for each slot

pub record Scene : Type 0 where
  pub opaque : Opaque
  pub key : ℕ → Option Key
  pub tree : ℕ → Tree
  pub nodes : List ℕ
  pub constants : List ℕ
  pub keys : Constants key constants
  pub trees : Trees key tree nodes
  pub slots : ℕ → Key
  pub proper : (s : ℕ) → ProperKey (slots s)

pub record ProperChoice (ch : Choice) : Type 0 where
  pub at : (path : List ℕ) → ProperKey (ch path)

pub proper_into : {ch : Choice} (k : ℕ) → ProperChoice ch → ProperChoice (into k ch)
proper_into k h = record { at = λ path. h.at (k ∷ path) }

-- the value of an id
abbrev pub Worth : Scene → Choice → ℕ → Key → Type 0
Worth w ch id k = worth w.opaque w.slots ch (w.tree id) ≡ some k

-- a value has what the id is worth, whatever is chosen
pub record Covers (w : Scene) (id : ℕ) (v : Value) : Type 0 where
  pub at : (ch : Choice) → ProperChoice ch → (k : Key) → Worth w ch id k → Lies w.key w.constants v k

pub none_some : {A : Type 0} {a : A} → none ≡ some a → ⊥
none_some {a} e = let z : ◌≡◌ {A = ℕ} 0 1 = cc in omega arith

pub some_is : {A : Type 0} {a b : A} → some a ≡ some b → a ≡ b
some_is e = cc

-- an id stands for nothing, or for what its row says
pub at_tree : (w : Scene) (P : Tree → Type 0) (i : ℕ) → P nothing → P (tree_of w.key w.tree (expression_at w.nodes i)) → P (w.tree i)
at_tree w P i a b = ⊎_elim (λ e. subst P (sym e) a) (λ e. subst P (sym e) b) (w.trees.at i)

-- ---- operations

pub fits : (z : ℤ) (k : Key) → fitting (some z) ≡ some k → (k ≡ number z) × Number z
fits z k = go (number? z) refl
  where
    go : (t : Bool) → number? z ≡ t → cond t (some (number z)) none ≡ some k → (k ≡ number z) × Number z
    go true q e = (sym (some_is e), number_yes z q)
    go false q e = absurd (none_some e)

-- of one number
pub record Result (f : ℤ → Option ℤ) (a : Option Key) (k : Key) : Type 0 where
  pub n : ℤ
  pub z : ℤ
  pub from : a ≡ some (number n)
  pub gives : f n ≡ some z
  pub is : k ≡ number z
  pub fits : Number z

pub result : (f : ℤ → Option ℤ) (a : Option Key) (k : Key) → on_number f a ≡ some k → Result f a k
result f none k e = absurd (none_some e)
result f (some (name s)) k e = absurd (none_some e)
result f (some (number n)) k e = go (f n) refl e
  where
    go : (r : Option ℤ) → f n ≡ r → fitting r ≡ some k → Result f (some (number n)) k
    go none q e = absurd (none_some e)
    go (some z) q e = let p = fits z k e in record { n = n; z = z; from = refl; gives = q; is = p.0; fits = p.1 }

-- and of two
pub record Results (f : ℤ → ℤ → Option ℤ) (a b : Option Key) (k : Key) : Type 0 where
  pub m : ℤ
  pub n : ℤ
  pub z : ℤ
  pub left : a ≡ some (number m)
  pub right : b ≡ some (number n)
  pub gives : f m n ≡ some z
  pub is : k ≡ number z
  pub fits : Number z

pub results : (f : ℤ → ℤ → Option ℤ) (a b : Option Key) (k : Key) → on_numbers f a b ≡ some k → Results f a b k
results f none b k e = absurd (none_some e)
results f (some (name s)) b k e = absurd (none_some e)
results f (some (number m)) b k e =
    let r = result (f m) b k e in record { m = m; n = r.n; z = r.z; left = refl; right = r.from; gives = r.gives; is = r.is; fits = r.fits }

-- ---- numbers have 32 bits

chosen_proper : (b : Bool) (c k : Key) → ProperKey c → chosen b c ≡ some k → ProperKey k
chosen_proper true (number z) k p e = subst ProperKey (some_is e) p
chosen_proper true (name s) k p e = absurd (none_some e)
chosen_proper false c k p e = subst ProperKey (some_is e) p

pub worth_proper : (w : Scene) (ch : Choice) → ProperChoice ch → (id : ℕ) (k : Key) → Worth w ch id k → ProperKey k
unfolding worth
worth_proper w ch pch id k =
    at_tree w (λ (t : Tree). worth w.opaque w.slots ch t ≡ some k → ProperKey k) id (λ e. absurd (none_some e)) (of (expression_at w.nodes id))
  where
    by_key : (c : ℕ) (q : Option Key) → w.key c ≡ q → worth w.opaque w.slots ch (key_tree q) ≡ some k → ProperKey k
    by_key c none f e = absurd (none_some e)
    by_key c (some j) f e = subst ProperKey (some_is e) (w.keys.proper c j f)

    of : (e : Expression) → worth w.opaque w.slots ch (tree_of w.key w.tree e) ≡ some k → ProperKey k
    of (Constant c) e = by_key c (w.key c) refl e
    of (Slot s) e = subst ProperKey (some_is e) (w.proper s)
    of (Unary op a) e = let r = result (apply_one w.opaque op) (worth w.opaque w.slots (into 0 ch) (w.tree a)) k e in subst ProperKey (sym r.is) r.fits
    of (Absolute a) e = let r = result (λ n. some (magnitude n)) (worth w.opaque w.slots (into 0 ch) (w.tree a)) k e in subst ProperKey (sym r.is) r.fits
    of (Binary op a b) e =
        let r = results (apply_two w.opaque op) (worth w.opaque w.slots (into 0 ch) (w.tree a)) (worth w.opaque w.slots (into 1 ch) (w.tree b)) k e in
        subst ProperKey (sym r.is) r.fits
    of (Unknown i reason) e = chosen_proper i (ch []) k (pch.at []) e

-- ---- a tree without Unknown

abbrev pub Fixed : Tree → Type 0
Fixed nothing = Unit {0}
Fixed (constant k) = Unit {0}
Fixed (slot s) = Unit {0}
Fixed (unary op e) = Fixed e
Fixed (absolute e) = Fixed e
Fixed (binary op l r) = Fixed l × Fixed r
Fixed (unknown i) = ⊥

pub fixed_worth : (o : Opaque) (x : ℕ → Key) (t : Tree) → Fixed t → (ch ch' : Choice) → worth o x ch t ≡ worth o x ch' t
unfolding worth
fixed_worth o x nothing f ch ch' = refl
fixed_worth o x (constant k) f ch ch' = refl
fixed_worth o x (slot s) f ch ch' = refl
fixed_worth o x (unary op e) f ch ch' = ap (on_number (apply_one o op)) (fixed_worth o x e f (into 0 ch) (into 0 ch'))
fixed_worth o x (absolute e) f ch ch' = ap (on_number (λ a. some (magnitude a))) (fixed_worth o x e f (into 0 ch) (into 0 ch'))
fixed_worth o x (binary op l r) f ch ch' =
    ap₂ (on_numbers (apply_two o op)) (fixed_worth o x l f.0 (into 0 ch) (into 0 ch')) (fixed_worth o x r f.1 (into 1 ch) (into 1 ch'))
fixed_worth o x (unknown i) f ch ch' = absurd f
