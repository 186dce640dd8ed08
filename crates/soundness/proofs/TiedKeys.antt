-- What the tables of a store hold of the accepted calls grounds a run, and the calls of `constant` and `expression` keep it so.
use Rattle.sizes.specs.Sizes as size
use Prim.Native.Nat.{ℕ, ◌+◌, ◌≤◌, ◌<◌, ◌^◌}
use native.Mathlib.Omega.{arith}
use native.Mathlib.Decide.{dec_lt, ℕ_discrete}
use mathlib.Core.Path.{◌≡◌, refl, sym, ap, subst, ◌∙◌}
use mathlib.Core.Logic.{◌⊎◌, inl, inr}
use mathlib.Core.Bool.{Bool, true, false, cond}
use mathlib.Core.List.{List, [], ◌∷◌, ◌++◌, map}
use mathlib.Core.Option.{Option, some, none}
use borrow.Author.Tests.{eq-eqb, ne_eqb, leb-true}
use lib.Dec.{leb, eqb}
use lib.IntN.{ℤ}
use lib.ListN.{length}
use Rattle.integers.specs.Order.{Number}
use Rattle.integers.specs.Lists.{All}
use Rattle.integers.proofs.Stores.{all_sets}
use Rattle.limits.specs.declared.Limits.{Limits}
use Rattle.limits.specs.declared.Stop.{Stop}
use Rattle.limits.specs.declared.Budget.{Budget}
use Rattle.limits.specs.declared.Refusal.TheVariants.{Limit, Missing}
use Rattle.limits.specs.Refusal.{Told, told}
use Rattle.limits.specs.Metered.{Run, Metered, ◌>>◌}
use Rattle.limits.proofs.Ends.{Ends, completes, stops, ends_pure, ends_test, ends_as, ends_both, ends_through, on_bind, on_then, in_some_way}
use Rattle.cells.specs.Cells.{of_cell}
use Rattle.cells.proofs.CellLaws.{cell_small}
use Rattle.search.specs.Seek.{Place, found, absent}
use Rattle.thresholds.specs.Thresholds.{entry, around}
use Rattle.thresholds.proofs.Numbers.{around_numbers}
use Rattle.interval.specs.declared.Constant.TheVariants.{Number as number, Name, Large}
use Rattle.lattice.specs.Constants.{Retained, constant_at}
use Rattle.lattice.specs.Value.{Value}
use Rattle.lattice.proofs.Members.{Listed}
use Rattle.keys.specs.Key.{Key, name, kind_at, payload_at, name_at, key_at}
use Rattle.keys.specs.Key as keys
use Rattle.nodes.specs.declared.Expression.{Expression}
use Rattle.nodes.specs.declared.Expression.TheVariants.{Constant, Slot, Unary, Absolute, Binary, Unknown}
use Rattle.sizes.specs.Sizes.{node_row}
use Rattle.nodes.specs.Node.{expression_at}
use Rattle.nodes.proofs.NodeLaws.{Below}
use Rattle.rules.specs.declared.Binding.{Binding}
use Rattle.rules.specs.declared.Binding.TheVariants.{Positive, Assign, Range, Aggregate}
use Rattle.rules.specs.declared.Guard.{Guard}
use Rattle.rules.specs.declared.Guard.TheVariants.{Compare, Membership}
use Rattle.rules.specs.declared.Head.{Head}
use Rattle.rules.specs.Read.{bindings_at, guards_at, heads_at}
use Rattle.store.specs.declared.Store.{Store}
use Rattle.store.specs.Calls.{unless, billing, Marks}
use Rattle.store.proofs.Opened.{open?}
use Rattle.constants.specs.Constant.{bytes_of, kind_cell, payload_cell, retains, classify, KeyTables, settle, keep_key, abandon, retain_key, add_key, add_large, in_marks, in_keys, sized, spacious, constant_call}
use Rattle.constants.specs.Constant as constants
use Rattle.constants.proofs.Kept.{Numbered, again, newly}
use Rattle.constants.proofs.Kept as kept
use Rattle.expressions.specs.Expression.{supported, nesting, valid, add_node, share, expression_call}
use Rattle.expressions.specs.Expression as expressions
use Rattle.expressions.proofs.Nested.{Named, standing_reads, expression_ends}
use Rattle.expressions.proofs.Nested as nested
use Rattle.seeds.proofs.Seeded.{retained_is}
use Rattle.producers.specs.Producer.{Scope}
use Rattle.producers.proofs.Scoped.{BindingIn, GuardIn, HeadIn, scoped_there}
use Rattle.input.specs.Input.{Tables, TypedKey, constant, expression, id, for_constant, from_constant, for_expression, from_expression, call}
use Rattle.input.proofs.Reached.{Reached, one_id}
use Rattle.input.proofs.Left.{on_ends_lem, Refused, given_new, given_more}
use Rattle.input.proofs.Calls.{constant_keeps, expression_keeps}
use Rattle.soundness.specs.Plain.{Tree, nothing, unary, absolute, binary, ProperKey, assign, range, compare, member}
use Rattle.soundness.specs.Tied.{key_tree, tree_of, plain_binding, plain_guard, plain_head, Constants, Trees}
use Rattle.soundness.specs.Run.{Accepted, PlainRule, stands_for, key_for, tree_at, or_nothing, said}
use Rattle.soundness.specs.Run as run
use Rattle.soundness.proofs.Lies.{Kept, Lies}
use Rattle.soundness.proofs.Stored.{bindings_inside, guards_inside, heads_inside}
use Rattle.soundness.proofs.Grounded.{Stored, Grounded}
use Rattle.soundness.proofs.Ties.{KeysTied, TreesTied, RulesTied, SeedsTied, Tied, Still, tied_still}

-- ---- the ties ground a run

module _ (names cells : List ℕ) (i : ℕ) where
  -- what is read of the cells, by kind
  key_number : kind_at cells i ≡ 1 → key_at names cells i ≡ keys.number (of_cell (payload_at cells i))
  unfolding key_at
  key_number e = rw (eq-eqb (kind_at cells i) 1 e)

  key_name : (kind_at cells i ≡ 1 → ⊥) → (s : List ℕ) × (key_at names cells i ≡ name s)
  unfolding key_at
  key_name n = (name_at names i (payload_at cells i), rw (ne_eqb (kind_at cells i) 1 n))

  at_number : kind_at cells i ≡ 1 → constant_at cells i ≡ number (of_cell (payload_at cells i))
  at_number e = rw (eq-eqb (kind_at cells i) 1 e)

  at_name : kind_at cells i ≡ 2 → constant_at cells i ≡ Name
  at_name e = rw (ne_eqb (kind_at cells i) 1 (λ d. omega arith), eq-eqb (kind_at cells i) 2 e)

  at_large : (kind_at cells i ≡ 1 → ⊥) → (kind_at cells i ≡ 2 → ⊥) → constant_at cells i ≡ Large
  at_large n m = rw (ne_eqb (kind_at cells i) 1 n, ne_eqb (kind_at cells i) 2 m)

  unretained : (kind_at cells i ≡ 1 → ⊥) → (kind_at cells i ≡ 2 → ⊥) → Retained cells i → ⊥
  unretained n m (inl e) = n e
  unretained n m (inr e) = m e

number_name : {z : ℤ} {s : List ℕ} → keys.number z ≡ name s → ⊥
number_name e = let y : ◌≡◌ {A = ℕ} 0 1 = cc in omega arith

same_number : {y z : ℤ} → keys.number y ≡ keys.number z → y ≡ z
same_number e = cc

module _ {p : Accepted} {t : Tables} (h : Tied p t) where
  numbers_tied : (i : ℕ) (z : ℤ) → key_for p i ≡ some (keys.number z) → constant_at t.constants i ≡ number z
  numbers_tied i z e = elim (ℕ_discrete (kind_at t.constants i) 1) [
    | yes a ↦ at_number t.names t.constants i a ∙ ap number (same_number (sym (key_number t.names t.constants i a) ∙ h.keys.kept i (keys.number z) e (inl a)))
    | no a ↦ elim (ℕ_discrete (kind_at t.constants i) 2) [
      | yes b ↦ let n = key_name t.names t.constants i a in absurd (number_name (sym (h.keys.kept i (keys.number z) e (inr b)) ∙ n.1))
      | no b ↦ absurd (number_name (h.keys.large i (keys.number z) e (unretained t.names t.constants i a b)).1)
    ]
  ]

  names_tied : (i : ℕ) (s : List ℕ) → key_for p i ≡ some (name s) → (constant_at t.constants i ≡ Name) ⊎ (constant_at t.constants i ≡ Large)
  names_tied i s e = elim (ℕ_discrete (kind_at t.constants i) 1) [
    | yes a ↦ absurd (number_name (sym (key_number t.names t.constants i a) ∙ h.keys.kept i (name s) e (inl a)))
    | no a ↦ elim (ℕ_discrete (kind_at t.constants i) 2) [
      | yes b ↦ inl (at_name t.names t.constants i b)
      | no b ↦ inr (at_large t.names t.constants i a b)
    ]
  ]

  constants_tied : Constants (key_for p) t.constants
  constants_tied = record {
    numbers = numbers_tied;
    names = names_tied;
    one = λ i j k e f n m.
        let a = (retained_is t.constants i).1 n in
        let b = (retained_is t.constants j).1 m in
        one_id h.reached k i j (h.keys.inside i k e) (h.keys.inside j k f) a b (h.keys.kept i k e a) (h.keys.kept j k f b);
    proper = h.keys.proper;
    short = λ i k e. omega (arith, h.keys.inside i k e, h.reached.counted.constants);
  }

  trees_tied : Trees (key_for p) (tree_at p) t.nodes
  trees_tied = record { at = λ i. go i (stands_for p.trees i) refl }
    where
      go : (i : ℕ) (o : Option Tree) → stands_for p.trees i ≡ o → (tree_at p i ≡ nothing) ⊎ (tree_at p i ≡ tree_of (key_for p) (tree_at p) (expression_at t.nodes i))
      go i none e = inl (ap or_nothing e)
      go i (some u) e = inr (ap or_nothing e ∙ h.trees.is i u e)

pub grounded : {p : Accepted} {t : Tables} → Tied p t → Grounded p t
grounded h = record { reached = h.reached; cells = h.keys.cells; keys = constants_tied h; trees = trees_tied h; rules = h.rules.at; seeds = h.seeds.at }

-- ---- what an id stands for, once more calls have answered

module _ {A : Type 0} where
  none_some : {a : A} → none ≡ some a → ⊥
  none_some e = let y : ◌≡◌ {A = ℕ} 0 1 = cc in omega arith

  some_same : {a b : A} → some a ≡ some b → a ≡ b
  some_same e = cc

  -- what an id stands for it still does
  pub first_stays : (l m : List (run.Named A)) (i : ℕ) (a : A) → stands_for l i ≡ some a → stands_for (l ++ m) i ≡ some a
  first_stays [] m i a h = absurd (none_some h)
  first_stays (e ∷ l) m i a h = go (first_stays l m i a) (eqb e.id i) h
    where
      go : (stands_for l i ≡ some a → stands_for (l ++ m) i ≡ some a) → (b : Bool) → cond b (some e.given) (stands_for l i) ≡ some a → cond b (some e.given) (stands_for (l ++ m) i) ≡ some a
      go f true h = h
      go f false h = f h

  -- one that stands for nothing has what follows
  pub first_follows : (l m : List (run.Named A)) (i : ℕ) → stands_for l i ≡ none → stands_for (l ++ m) i ≡ stands_for m i
  first_follows [] m i h = refl
  first_follows (e ∷ l) m i h = go (first_follows l m i) (eqb e.id i) h
    where
      go : (stands_for l i ≡ none → stands_for (l ++ m) i ≡ stands_for m i) → (b : Bool) → cond b (some e.given) (stands_for l i) ≡ none → cond b (some e.given) (stands_for (l ++ m) i) ≡ stands_for m i
      go f true h = absurd (none_some (sym h))
      go f false h = f h

  module _ (l : List (run.Named A)) (j : ℕ) (x : A) where
    -- the new entry
    pub first_last : stands_for l j ≡ none → stands_for (l ++ (run.named j x ∷ [])) j ≡ some x
    first_last h = first_follows l (run.named j x ∷ []) j h ∙ rw (eq-eqb j j refl)

    -- another id
    pub first_other : (i : ℕ) → (i ≡ j → ⊥) → stands_for (l ++ (run.named j x ∷ [])) i ≡ stands_for l i
    first_other i n = go (stands_for l i) refl
      where
        go : (o : Option A) → stands_for l i ≡ o → stands_for (l ++ (run.named j x ∷ [])) i ≡ stands_for l i
        go none e = first_follows l (run.named j x ∷ []) i e ∙ rw (ne_eqb j i (λ d. n (sym d))) (sym e)
        go (some a) e = first_stays l (run.named j x ∷ []) i a e ∙ sym e

    -- an id that had an entry keeps it, so nothing changes
    pub first_again : (a : A) → stands_for l j ≡ some a → (i : ℕ) → stands_for (l ++ (run.named j x ∷ [])) i ≡ stands_for l i
    first_again a h i = elim (ℕ_discrete i j) [
      | yes e ↦ rw e (first_stays l (run.named j x ∷ []) j a h ∙ sym h)
      | no n ↦ first_other i n
    ]

    -- what is new is the entry
    pub first_new : (i : ℕ) (a : A) → stands_for (l ++ (run.named j x ∷ [])) i ≡ some a → (stands_for l i ≡ some a) ⊎ ((i ≡ j) × (stands_for l j ≡ none) × (a ≡ x))
    first_new i a h = go (stands_for l i) refl
      where
        go : (o : Option A) → stands_for l i ≡ o → (stands_for l i ≡ some a) ⊎ ((i ≡ j) × (stands_for l j ≡ none) × (a ≡ x))
        go (some b) e = inl (e ∙ sym (first_stays l (run.named j x ∷ []) i b e) ∙ h)
        go none e = elim (ℕ_discrete i j) [
          | yes d ↦ let f : stands_for l j ≡ none = subst (λ (n : ℕ). stands_for l n ≡ none) d e in inr (d, f, some_same (sym h ∙ subst (λ (n : ℕ). stands_for (l ++ (run.named j x ∷ [])) n ≡ some x) (sym d) (first_last f)))
          | no n ↦ inl (sym (first_other i n) ∙ h)
        ]

-- ---- `constant`: the thresholds that it enters have 32 bits, and so have the cells that it writes

classify_numbers : (k : Key) → TypedKey k → (t : Marks) → All Number t.table → Ends (λ _ u. All Number u.table) (λ _ u. All Number u.table) (classify k t)
classify_numbers (keys.number v) p t h =
    ends_through (λ u. u) (λ _ u. u) (λ _ u. u) (λ e. told (Limit e)) _ t
    (ends_through _ _ _ _ (around v) t (around_numbers v p (entry t.header.budget t.header.counts.thresholds t.table) h) (λ _ u g. g) (λ _ u g. g))
    (λ _ u g. g) (λ _ u g. g)
classify_numbers (name s) p t h = ends_through _ _ _ _ _ t (in_some_way _) (λ _ u g. h) (λ _ u g. h)

abbrev Small : List ℕ → Type 0
Small l = All (λ c. c < 2 ^ 32) l

module _ (k : Key) (typed : TypedKey k) (short : length (bytes_of k) ≤ 64) where
  kind_small : (k : Key) → kind_cell k < 2 ^ 32
  kind_small (keys.number v) = omega arith
  kind_small (name s) = omega arith

  payload_small : (k : Key) → TypedKey k → length (bytes_of k) ≤ 64 → payload_cell k < 2 ^ 32
  payload_small (keys.number v) p l = cell_small v p
  payload_small (name s) p l = omega arith

  abbrev Cells : Run Told KeyTables ℕ → Type 0
  Cells x = Ends (λ _ u. Small u.constants) (λ _ u. Small u.constants) x

  settle_cells : (n : ℕ) (p : Place) (t : KeyTables) → Small t.constants → Cells (settle k n p t)
  unfolding settle
  settle_cells n (found i) t h = completes h
  settle_cells n (absent low) t h =
      on_then _ _ _ _ _ (add_key k low) t (in_some_way _) (λ _ s _. completes (all_sets (λ c. c < 2 ^ 32) t.constants _ (kind_cell k ∷ payload_cell k ∷ []) h (kind_small k, (payload_small k typed short, tt)))) (λ _ s _. h)

  keep_cells : (t : KeyTables) → Small t.constants → Cells (keep_key k t)
  unfolding keep_key
  keep_cells t h = on_bind _ _ _ _ _ (settle k t.header.counts.keys) t (in_some_way _) (λ p s _. settle_cells t.header.counts.keys p _ h) (λ _ s _. h)

  abandon_cells : (t : KeyTables) → Small t.constants → Cells (abandon t)
  unfolding abandon
  abandon_cells t h = on_then _ _ _ _ _ add_large t (in_some_way _) (λ _ s _. completes (all_sets (λ c. c < 2 ^ 32) t.constants _ (0 ∷ 0 ∷ []) h (omega arith, (omega arith, tt)))) (λ _ s _. h)

  retain_cells : (t : KeyTables) → Small t.constants → Cells (retain_key k t)
  unfolding retain_key
  retain_cells t h = ends_test (retains t.header.budget.limits k) (λ _. keep_cells t h) (λ _. abandon_cells t h)

-- of the whole call
abbrev Fine : constants.Tables → Type 0
Fine u = Small u.constants × All Number u.thresholds

constant_fine : (k : Key) → TypedKey k → (t : constants.Tables) → Fine t → Ends (λ _ u. Fine u) (λ _ u. Fine u) (constant_call k t)
unfolding constant_call
constant_fine k typed t h =
    ends_test (sized (length t.names) (length t.constants) (length t.order) (length t.thresholds))
    (λ _.
    ends_test (leb (length (bytes_of k)) 64)
    (λ l.
    ends_test (open? t.header)
    (λ _.
    ends_test (spacious t.header.counts)
    (λ _.
    on_then _ _ _ _ _ (in_marks (classify k) >> in_keys (retain_key k)) t (in_some_way _)
    (λ _ s _.
    on_then _ _ _ _ (classify k) (in_keys (retain_key k)) _ (classify_numbers k typed _ h.1)
    (λ _ u n. ends_through _ _ _ _ (retain_key k) _ (retain_cells k typed (leb-true _ _ l) _ h.0) (λ _ v g. (g, n)) (λ _ v g. (g, n)))
    (λ _ u n. (h.0, n)))
    (λ _ s _. h))
    (λ _. stops h))
    (λ _. stops h))
    (λ _. stops h))
    (λ _. stops h)

-- ---- a refused call

still_left : {t u : Tables} {e : Told} → Refused t e u → Still t u
still_left r =
    let l = r.leaves in record {
      names = l.names;
      constants = l.constants;
      nodes = l.nodes;
      rules = l.rules;
      seeds = l.seeds;
      constant_count = l.header.constants;
      expression_count = l.header.expressions;
      rule_count = l.header.rules;
      position_count = l.header.positions;
    }

pub refused_ties : {p : Accepted} {t u : Tables} {e : Told} → Tied p t → Refused t e u → All Number u.thresholds → Tied p u
refused_ties h r n = tied_still (still_left r) r.reached n h

-- ---- `constant`: an accepted call

unnumbered : (l : Limits) (k : Key) → retains l k ≡ false → (s : List ℕ) × (k ≡ name s)
unnumbered l (keys.number v) e = let z : ◌≡◌ {A = ℕ} 0 1 = cc in absurd (omega arith)
unnumbered l (name s) e = (s, refl)

typed_proper : (k : Key) → TypedKey k → ProperKey k
typed_proper (keys.number v) h = h
typed_proper (name s) h = tt

-- the tree of an expression asks for the key of one constant only
tree_keys : (n : ℕ) (key more : ℕ → Option Key) (tree : ℕ → Tree) → ((j : ℕ) → j < n → more j ≡ key j) → (e : Expression) → Named n e → tree_of more tree e ≡ tree_of key tree e
tree_keys n key more tree f (Constant c) h = ap key_tree (f c h)
tree_keys n key more tree f (Slot s) h = refl
tree_keys n key more tree f (Unary op e) h = refl
tree_keys n key more tree f (Absolute e) h = refl
tree_keys n key more tree f (Binary op l r) h = refl
tree_keys n key more tree f (Unknown i w) h = refl

module _ {p : Accepted} {t : Tables} (h : Tied p t) (k : Key) (typed : TypedKey k) {i : ℕ} {u : constants.Tables} (a : kept.Accepted k (for_constant t) i u) where
  abbrev q : Accepted
  q = said p (constant k) (id i)

  abbrev w : Tables
  w = from_constant u t

  abbrev n : ℕ
  n = t.header.counts.constants

  -- the constants that stood have the keys that they had
  key_old : (j : ℕ) → j < n → key_for q j ≡ key_for p j
  key_old j l = go a.constants.numbered
    where
      go : Numbered n i u.header.counts.constants → key_for q j ≡ key_for p j
      go (again b e) = let x = h.keys.has i b in first_again p.keys i k x.0 x.1 j
      go (newly b e) = first_other p.keys i k j (λ d. omega arith)

  key_here : (c : Key) × (key_for q i ≡ some c)
  key_here = go (stands_for p.keys i) refl
    where
      go : (o : Option Key) → stands_for p.keys i ≡ o → (c : Key) × (key_for q i ≡ some c)
      go none e = (k, first_last p.keys i k e)
      go (some c) e = (c, first_stays p.keys (run.named i k ∷ []) i c e)

  key_has : (j : ℕ) → j < w.header.counts.constants → (c : Key) × (key_for q j ≡ some c)
  key_has j l = go (given_new a.constants j l)
    where
      go : (j < n) ⊎ (j ≡ i) → (c : Key) × (key_for q j ≡ some c)
      go (inl b) = let x = h.keys.has j b in (x.0, key_old j b ∙ x.1)
      go (inr d) = (key_here.0, rw d key_here.1)

  -- an old constant, or the one of this call
  abbrev Either : ℕ → Key → Type 0
  Either j c = (key_for p j ≡ some c) ⊎ ((j ≡ i) × (stands_for p.keys i ≡ none) × (c ≡ k))

  key_inside : (j : ℕ) (c : Key) → Either j c → j < w.header.counts.constants
  key_inside j c (inl f) = omega (arith, h.keys.inside j c f, given_more a.constants)
  key_inside j c (inr f) = omega (arith, f.0, a.constants.within)

  key_kept : (j : ℕ) (c : Key) → Either j c → Retained w.constants j → key_at w.names w.constants j ≡ c
  key_kept j c (inl f) r = let b = h.keys.inside j c f in a.constants.keys j b ∙ h.keys.kept j c f (rw (a.constants.kinds j b) at r)
  key_kept j c (inr f) r = go (retains t.header.budget.limits k) refl
    where
      go : (b : Bool) → retains t.header.budget.limits k ≡ b → key_at w.names w.constants j ≡ c
      go true e = rw (f.0, f.2) (a.constants.kept e).1
      go false e =
          let z : kind_at w.constants j ≡ 0 = rw f.0 (a.constants.large e).1 in
          absurd (unretained w.names w.constants j (λ d. omega arith) (λ d. omega arith) r)

  key_large : (j : ℕ) (c : Key) → Either j c → (Retained w.constants j → ⊥) → (s : List ℕ) × (c ≡ name s)
  key_large j c (inl f) r = let b = h.keys.inside j c f in h.keys.large j c f (λ z. r (rw (a.constants.kinds j b) z))
  key_large j c (inr f) r = go (retains t.header.budget.limits k) refl
    where
      go : (b : Bool) → retains t.header.budget.limits k ≡ b → (s : List ℕ) × (c ≡ name s)
      go true e = absurd (r (rw f.0 (a.constants.kept e).0))
      go false e = let x = unnumbered t.header.budget.limits k e in (x.0, f.2 ∙ x.1)

  key_proper : (j : ℕ) (c : Key) → Either j c → ProperKey c
  key_proper j c (inl f) = h.keys.proper j c f
  key_proper j c (inr f) = rw f.2 (typed_proper k typed)

  keys_more : Small u.constants → KeysTied q w
  keys_more small = record {
    has = key_has;
    inside = λ j c e. key_inside j c (first_new p.keys i k j c e);
    kept = λ j c e. key_kept j c (first_new p.keys i k j c e);
    large = λ j c e. key_large j c (first_new p.keys i k j c e);
    proper = λ j c e. key_proper j c (first_new p.keys i k j c e);
    cells = small;
  }

  trees_keys : TreesTied q w
  trees_keys = record {
    has = λ j l. h.trees.has j (omega (arith, a.header.expressions));
    inside = λ j v e. omega (arith, a.header.expressions, h.trees.inside j v e);
    is = λ j v e.
        let s = h.reached.nested.at j (h.trees.inside j v e) in
        h.trees.is j v e ∙ sym (tree_keys n (key_for p) (key_for q) (tree_at p) key_old (expression_at t.nodes j) (subst (Named n) (sym (standing_reads s)) s.named));
  }

  rules_keys : RulesTied q w
  rules_keys = record {
    at = λ r m.
        let x = h.rules.at r m in
        record { id = x.id; below = omega (arith, x.below, a.header.rules); bindings = x.bindings; guards = x.guards; heads = x.heads };
  }

  -- older constants read as they did
  read_old : (j : ℕ) → j < n → constant_at u.constants j ≡ constant_at t.constants j
  read_old j l = rw (a.constants.kinds j l, a.constants.payloads j l)

  kept_more : (j : ℕ) (c : Key) → Kept (key_for p) t.constants j c → Kept (key_for q) u.constants j c
  kept_more j c x = let b = h.keys.inside j c x.0 in (key_old j b ∙ x.0, λ e. x.1 (sym (read_old j b) ∙ e))

  lies_more : (v : Value) (c : Key) → Lies (key_for p) t.constants v c → Lies (key_for q) u.constants v c
  lies_more v c x = record { bound = x.bound; list = go v.values x.list }
    where
      go : (o : Option (List ℕ)) → Listed (Kept (key_for p) t.constants) c o → Listed (Kept (key_for q) u.constants) c o
      go none l = tt
      go (some x) l = (l.0, l.1, kept_more l.0 c l.2)

  seeds_keys : SeedsTied q w
  seeds_keys = record {
    at = λ b c x.
        let y = h.seeds.at b c record { seed = x.seed; among = x.among; gives = x.gives } in
        record { below = omega (arith, y.below, a.header.positions); proper = y.proper; lies = lies_more _ c y.lies };
  }

  constant_tied : Fine u → Reached w → Tied q w
  constant_tied f r = record { reached = r; numbers = f.1; keys = keys_more f.0; trees = trees_keys; rules = rules_keys; seeds = seeds_keys }

kept_typed : (k : Key) → TypedKey k → kept.Typed k
kept_typed (keys.number v) h = h
kept_typed (name s) h = tt

constant_part : (k : Key) → TypedKey k → (p : Accepted) (t : Tables) → Tied p t → Ends (λ r u. Reached u → Tied (said p (constant k) r) u) (λ _ u. All Number u.thresholds) (call (constant k) t)
unfolding call
constant_part k typed p t h =
    on_ends_lem for_constant from_constant id (constant_call k) t
    (ends_both (kept.constant_keeps k (kept_typed k typed) (for_constant t) h.reached.keyed h.reached.rises) (constant_fine k typed (for_constant t) (h.keys.cells, h.numbers)))
    (λ i u x. constant_tied h k typed x.0 x.1)
    (λ e u x. x.1.1)

pub constant_ties : (k : Key) → TypedKey k → (p : Accepted) (t : Tables) → Tied p t → Ends (λ r u. Tied (said p (constant k) r) u) (λ _ u. Tied p u) (call (constant k) t)
constant_ties k typed p t h = ends_as (ends_both (constant_keeps k t typed h.reached) (constant_part k typed p t h)) (λ r u x. x.1 x.0.reached) (λ e u x. refused_ties h x.0 x.1)

-- ---- `expression`: the answered id is an old one, or the new one

abbrev Answered : ℕ → ℕ → expressions.Tables → Type 0
Answered n i u = (u.header.counts.expressions ≡ n) ⊎ (u.header.counts.expressions ≡ i + 1)

-- a charge leaves the counts
charged_counts : {A : Type 0} (m : Metered Stop Budget A) (s : Store) → Ends (λ _ u. u.counts.expressions ≡ s.counts.expressions) (λ _ _. Unit {0}) (billing m s)
charged_counts m s =
    ends_through (λ u. u) (λ _ u. u) (λ _ u. u) (λ e. told (Limit e)) {P = λ _ u. u.counts.expressions ≡ s.counts.expressions} {Q = λ _ _. Unit {0}} _ s
    (ends_through _ _ _ _ m s (in_some_way _) (λ _ b _. refl) (λ _ _ _. tt)) (λ _ u h. h) (λ _ _ _. tt)

settle_answers : (n : ℕ) (e : Expression) (p : Place) (t : expressions.Tables) → t.header.counts.expressions ≡ n → Ends (Answered n) (λ _ _. Unit {0}) (expressions.settle e p t)
unfolding expressions.settle
settle_answers n e (found i) t c = ends_pure i t (inl c)
settle_answers n e (absent i) t c = on_then _ _ _ _ _ (add_node e) t (in_some_way _) (λ _ s _. completes (inr refl)) (λ _ _ _. tt)

share_answers : (n : ℕ) (e : Expression) (t : expressions.Tables) → t.header.counts.expressions ≡ n → Ends (Answered n) (λ _ _. Unit {0}) (share e t)
unfolding share
share_answers n e t c = on_bind _ _ _ _ _ (expressions.settle e) t (charged_counts _ t.header) (λ p s d. settle_answers n e p _ (d ∙ c)) (λ _ _ _. tt)

expression_answers_lem : (e : Expression) (t : expressions.Tables) → Ends (Answered t.header.counts.expressions) (λ _ _. Unit {0}) (expression_call e t)
unfolding expression_call
expression_answers_lem e t =
    ends_test (eqb (length t.nodes) size.node_cells)
    (λ _.
    ends_test (supported e)
    (λ _.
    ends_test (open? t.header)
    (λ _.
    ends_test (leb (nesting t.nodes t.header.counts.expressions e) 64)
    (λ _.
    ends_test (expressions.spacious t.header.counts)
    (λ _.
    on_then _ _ _ _ _ (unless (λ (u : expressions.Tables). valid u.header.counts e) Missing (share e)) t (charged_counts _ t.header)
    (λ _ s c. ends_test (valid s.counts e) (λ _. share_answers t.header.counts.expressions e _ c) (λ _. stops tt)) (λ _ _ _. tt))
    (λ _. stops tt))
    (λ _. stops tt))
    (λ _. stops tt))
    (λ _. stops tt))
    (λ _. stops tt)

-- ---- what is made of trees, where those below n are as they were

map_same : {A B : Type 0} (P : A → Type 0) (f g : A → B) → ((a : A) → P a → f a ≡ g a) → (l : List A) → All P l → map f l ≡ map g l
map_same P f g h [] q = refl
map_same P f g h (a ∷ l) q = λ i. h a q.0 i ∷ map_same P f g h l q.1 i

module _ (n : ℕ) (tree more : ℕ → Tree) (same : (j : ℕ) → j < n → more j ≡ tree j) where
  tree_trees : (key : ℕ → Option Key) (e : Expression) → Below n e → tree_of key more e ≡ tree_of key tree e
  tree_trees key (Constant c) h = refl
  tree_trees key (Slot s) h = refl
  tree_trees key (Unary op e) h = ap (unary op) (same e h)
  tree_trees key (Absolute e) h = ap absolute (same e h)
  tree_trees key (Binary op l r) h = λ i. binary op (same l h.0 i) (same r h.1 i)
  tree_trees key (Unknown i w) h = refl

  module _ (arguments : ℕ) (s : Scope) (there : s.expressions ≡ n) where
    binding_trees : (b : Binding) → BindingIn arguments s b → plain_binding tree b ≡ plain_binding more b
    binding_trees (Positive x a) h = refl
    binding_trees (Assign x e) h = ap (assign x) (sym (same e (omega (arith, scoped_there h.1))))
    binding_trees (Range x low high) h = λ i. range x (sym (same low (omega (arith, scoped_there h.1.0))) i) (sym (same high (omega (arith, scoped_there h.1.1))) i)
    binding_trees (Aggregate x f) h = refl

    guard_trees : (g : Guard) → GuardIn s g → plain_guard tree g ≡ plain_guard more g
    guard_trees (Compare l op r) h = λ i. compare (sym (same l (omega (arith, scoped_there h.0))) i) op (sym (same r (omega (arith, scoped_there h.1))) i)
    guard_trees (Membership x low high) h = λ i. member x (sym (same low (omega (arith, scoped_there h.1.0))) i) (sym (same high (omega (arith, scoped_there h.1.1))) i)

    head_trees : (x : Head) → HeadIn arguments s x → plain_head tree x ≡ plain_head more x
    head_trees x h = ap (λ (u : Tree). record { argument = x.argument; value = u }) (sym (same x.value (omega (arith, scoped_there h.1))))

-- a rule's row names expressions that stood
module _ {p q : Accepted} {t w : Tables} (r : Reached t) (same : (j : ℕ) → j < t.header.counts.expressions → tree_at q j ≡ tree_at p j) (rules : w.rules ≡ t.rules) (count : w.header.counts.rules ≡ t.header.counts.rules) where
  pub stored_trees : (x : PlainRule) → Stored p t x → Stored q w x
  stored_trees x h =
      let node_row = r.rules.at h.id h.below in
      rw rules
      record {
        id = h.id;
        below = omega (arith, h.below, count);
        bindings = h.bindings ∙ map_same _ _ _ (binding_trees _ (tree_at p) (tree_at q) same _ _ refl) (bindings_at t.rules h.id) (bindings_inside node_row);
        guards = h.guards ∙ map_same _ _ _ (guard_trees _ (tree_at p) (tree_at q) same 0 _ refl) (guards_at t.rules h.id) (guards_inside node_row);
        heads = h.heads ∙ map_same _ _ _ (head_trees _ (tree_at p) (tree_at q) same _ _ refl) (heads_at t.rules h.id) (heads_inside node_row);
      }

-- ---- `expression`: an accepted call

module _ {p : Accepted} {t : Tables} (h : Tied p t) (e : Expression) {i : ℕ} {u : expressions.Tables} (a : nested.Accepted e (for_expression t) i u) (answered : Answered t.header.counts.expressions i u) where
  abbrev later : Accepted
  later = said p (expression e) (id i)

  abbrev after : Tables
  after = from_expression u t

  abbrev stood : ℕ
  stood = t.header.counts.expressions

  abbrev written : Tree
  written = tree_of (key_for p) (tree_at p) e

  numbered : Numbered stood i u.header.counts.expressions
  numbered = go answered
    where
      go : Answered stood i u → Numbered stood i u.header.counts.expressions
      go (inl c) = again (omega (arith, a.stands)) c
      go (inr c) = elim (dec_lt i stood) [
        | yes l ↦ again l (omega (arith, a.grows))
        | no l ↦ newly (omega (arith, a.slowly)) (omega (arith, a.slowly))
      ]

  most : i ≤ stood
  most = go numbered
    where
      go : Numbered stood i u.header.counts.expressions → i ≤ stood
      go (again l c) = omega arith
      go (newly l c) = omega arith

  -- the expressions that stood have the trees that they had
  entry_old : (j : ℕ) → j < stood → stands_for later.trees j ≡ stands_for p.trees j
  entry_old j l = go numbered
    where
      go : Numbered stood i u.header.counts.expressions → stands_for later.trees j ≡ stands_for p.trees j
      go (again b c) = let x = h.trees.has i b in first_again p.trees i written x.0 x.1 j
      go (newly b c) = first_other p.trees i written j (λ d. omega arith)

  tree_old : (j : ℕ) → j < stood → tree_at later j ≡ tree_at p j
  tree_old j l = ap or_nothing (entry_old j l)

  tree_here : (v : Tree) × (stands_for later.trees i ≡ some v)
  tree_here = go (stands_for p.trees i) refl
    where
      go : (o : Option Tree) → stands_for p.trees i ≡ o → (v : Tree) × (stands_for later.trees i ≡ some v)
      go none f = (written, first_last p.trees i written f)
      go (some v) f = (v, first_stays p.trees (run.named i written ∷ []) i v f)

  tree_has : (j : ℕ) → j < u.header.counts.expressions → Numbered stood i u.header.counts.expressions → (v : Tree) × (stands_for later.trees j ≡ some v)
  tree_has j l b = elim (dec_lt j stood) [
    | yes m ↦ let x = h.trees.has j m in (x.0, entry_old j m ∙ x.1)
    | no m ↦ (tree_here.0, rw (last b m) tree_here.1)
  ]
    where
      last : Numbered stood i u.header.counts.expressions → (j < stood → ⊥) → j ≡ i
      last (again b c) m = omega arith
      last (newly b c) m = omega arith

  -- an old expression, or the one of this call
  abbrev One : ℕ → Tree → Type 0
  One j v = (stands_for p.trees j ≡ some v) ⊎ ((j ≡ i) × (stands_for p.trees i ≡ none) × (v ≡ written))

  tree_inside : (j : ℕ) (v : Tree) → One j v → j < u.header.counts.expressions
  tree_inside j v (inl f) = omega (arith, h.trees.inside j v f, a.grows)
  tree_inside j v (inr f) = omega (arith, f.0, a.stands)

  below_new : Below i e
  below_new = let s = a.nested.at i a.stands in subst (Below i) (sym (standing_reads s) ∙ a.reads) s.below

  tree_is : (j : ℕ) (v : Tree) → One j v → v ≡ tree_of (key_for later) (tree_at later) (expression_at u.nodes j)
  tree_is j v (inl f) =
      let l = h.trees.inside j v f in
      let s = h.reached.nested.at j l in
      h.trees.is j v f
      ∙ sym
      (ap (tree_of (key_for p) (tree_at later)) (a.expressions j l)
      ∙ tree_trees j (tree_at p) (tree_at later) (λ c b. tree_old c (omega arith)) (key_for p) (expression_at t.nodes j) (subst (Below j) (sym (standing_reads s)) s.below))
  tree_is j v (inr f) =
      f.2
      ∙ sym
      (ap (tree_of (key_for p) (tree_at later)) (ap (expression_at u.nodes) f.0 ∙ a.reads)
      ∙ tree_trees i (tree_at p) (tree_at later) (λ c b. tree_old c (omega (arith, most))) (key_for p) e below_new)

  -- the rest of the header
  constants_same : u.header.counts.constants ≡ t.header.counts.constants
  constants_same = ap (λ (s : Store). s.counts.constants) a.is

  rules_same : u.header.counts.rules ≡ t.header.counts.rules
  rules_same = ap (λ (s : Store). s.counts.rules) a.is

  positions_same : u.header.counts.positions ≡ t.header.counts.positions
  positions_same = ap (λ (s : Store). s.counts.positions) a.is

  expression_tied : Reached after → Tied later after
  expression_tied r = record {
    reached = r;
    numbers = h.numbers;
    keys = record {
      has = λ j l. h.keys.has j (omega (arith, constants_same));
      inside = λ j c f. omega (arith, h.keys.inside j c f, constants_same);
      kept = h.keys.kept;
      large = h.keys.large;
      proper = h.keys.proper;
      cells = h.keys.cells;
    };
    trees = record {
      has = λ j l. tree_has j l numbered;
      inside = λ j v f. tree_inside j v (first_new p.trees i written j v f);
      is = λ j v f. tree_is j v (first_new p.trees i written j v f);
    };
    rules = record { at = λ x m. stored_trees h.reached tree_old refl rules_same x (h.rules.at x m) };
    seeds = record {
      at = λ b c x.
          let y = h.seeds.at b c record { seed = x.seed; among = x.among; gives = x.gives } in
          record { below = omega (arith, y.below, positions_same); proper = y.proper; lies = y.lies };
    };
  }

expression_part : (e : Expression) (p : Accepted) (t : Tables) → Tied p t → Ends (λ r u. Reached u → Tied (said p (expression e) r) u) (λ _ u. All Number u.thresholds) (call (expression e) t)
unfolding call
expression_part e p t h =
    on_ends_lem for_expression from_expression id (expression_call e) t (ends_both (expression_ends e (for_expression t) h.reached.nested) (expression_answers_lem e (for_expression t)))
    (λ i u x. expression_tied h e x.0 x.1)
    (λ r u x. h.numbers)

pub expression_ties : (e : Expression) (p : Accepted) (t : Tables) → Tied p t → Ends (λ r u. Tied (said p (expression e) r) u) (λ _ u. Tied p u) (call (expression e) t)
expression_ties e p t h = ends_as (ends_both (expression_keeps e t h.reached) (expression_part e p t h)) (λ r u x. x.1 x.0.reached) (λ r u x. refused_ties h x.0 x.1)
