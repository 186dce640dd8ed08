-- What calls keep true of the table of expressions: each row is the node of an expression, whose children have smaller ids, whose constant
-- stands, and beside which its nesting is written. And what one call leaves, whichever way it ends.
use Rattle.sizes.specs.Sizes as size
use Prim.Native.Nat.{ℕ, zero, suc, ◌+◌, ◌≤◌, ◌<◌, max}
use native.Mathlib.Omega.{arith}
use mathlib.Core.Path.{◌≡◌, refl, sym, ap, subst, ◌∙◌}
use mathlib.Core.Bool.{Bool, true, false, cond}
use mathlib.Core.List.{List}
use borrow.Author.Tests.{ltb-true, lt-ltb, leb-true, eqb-true}
use lib.Dec.{ltb, leb, eqb}
use lib.ListN.{length}
use lib.Seq.{length-sets}
use Rattle.integers.proofs.Tests.{and_left, and_right}
use Rattle.integers.proofs.ListLaws.{Compared, less, more, same, compared}
use Rattle.limits.specs.declared.Stop.{Stop}
use Rattle.limits.specs.declared.Budget.{Budget}
use Rattle.limits.specs.declared.Refusal.{Refusal}
use Rattle.limits.specs.declared.Refusal.TheVariants.{Closed, Shape, Full, Limit, Missing}
use Rattle.limits.specs.Refusal.{Told, told}
use Rattle.limits.specs.Metered.{Run, going, stopped, Metered, ◌>>=◌, mapped, through}
use Rattle.limits.specs.Meter.{meter_of, with_meter, metered}
use Rattle.limits.specs.Meter as inner
use Rattle.limits.specs.Budget.{work, links}
use Rattle.limits.proofs.ChargeLaws.{limit_late}
use Rattle.limits.proofs.Ends.{Ends, completes, stops, ends_pure, ends_test, ends_bind, ends_then}
use Rattle.limits.proofs.Monad.{Ensures, Holds, by_pure, by_test, then, any_value, by_through}
use Rattle.limits.proofs.Live.{Lives, live_pure, live_test, live_then, live_work}
use Rattle.search.specs.Seek.{Place, found, absent}
use Rattle.nodes.specs.declared.Expression.{Expression}
use Rattle.nodes.specs.declared.Expression.TheVariants.{Constant, Slot, Unary, Absolute, Binary, Unknown}
use Rattle.nodes.specs.declared.Node.{Node}
use Rattle.nodes.specs.Node.{node_of, same_node, expression_of, node_at, nesting_at, expression_at, put_node}
use Rattle.nodes.proofs.NodeLaws.{Below, Undivided, node_back, node_kept, nesting_back, nesting_kept, expression_back, same_node_lem}
use Rattle.store.specs.declared.Counts.{Counts}
use Rattle.store.specs.Store.{with_budget, with_expressions}
use Rattle.store.specs.Calls.{unless}
use Rattle.store.proofs.Opened.{open?}
use Rattle.store.proofs.Frame.{Spent, spent_none, spent_more, Spends, spends_work, spends_links, spends_metered}
use Rattle.expressions.specs.Expression.{ported, supported, child_nesting, nesting, valid, shared, seek_node, older, Tables, tables, paying, add_node, settle, spacious, share, expression_call}

-- ---- the table

-- the constant that an expression names is one of k
abbrev pub Named : ℕ → Expression → Type 0
Named k (Constant c) = c < k
Named k (Slot s) = Unit {0}
Named k (Unary op e) = Unit {0}
Named k (Absolute e) = Unit {0}
Named k (Binary op l r) = Unit {0}
Named k (Unknown i w) = Unit {0}

pub record Standing (k id : ℕ) (nodes : List ℕ) : Type 0 where
  -- the expression of the row
  pub value : Expression
  pub node : node_at nodes id ≡ node_of value
  -- what it names
  pub below : Below id value
  pub undivided : Undivided value
  pub named : Named k value
  -- how deep it is nested
  pub nests : nesting_at nodes id ≡ nesting nodes id value
  pub shallow : nesting_at nodes id ≤ 64

-- k constants and n expressions stand
pub record Nested (k n : ℕ) (nodes : List ℕ) : Type 0 where
  pub at : (id : ℕ) → id < n → Standing k id nodes

pub standing_reads : {k id : ℕ} {nodes : List ℕ} (s : Standing k id nodes) → expression_at nodes id ≡ s.value
unfolding expression_at
standing_reads {id} s = rw s.node (expression_back s.value id s.below s.undivided)

pub nested_none : (k : ℕ) (nodes : List ℕ) → Nested k 0 nodes
nested_none k nodes = record { at = λ id h. absurd (omega arith) }

named_more : {k k' : ℕ} → k ≤ k' → (e : Expression) → Named k e → Named k' e
named_more h (Constant c) p = omega arith
named_more h (Slot s) p = tt
named_more h (Unary op e) p = tt
named_more h (Absolute e) p = tt
named_more h (Binary op l r) p = tt
named_more h (Unknown i w) p = tt

pub nested_more_constants : {k k' n : ℕ} {nodes : List ℕ} → k ≤ k' → Nested k n nodes → Nested k' n nodes
nested_more_constants h t = record {
  at = λ id l.
      let s = t.at id l in
      record {
        value = s.value;
        node = s.node;
        below = s.below;
        undivided = s.undivided;
        named = named_more h s.value s.named;
        nests = s.nests;
        shallow = s.shallow;
      };
}

-- ---- equal nodes are equal expressions

below_more : {id n : ℕ} → id ≤ n → (e : Expression) → Below id e → Below n e
below_more h (Constant c) p = tt
below_more h (Slot s) p = tt
below_more h (Unary op e) p = omega arith
below_more h (Absolute e) p = omega arith
below_more h (Binary op l r) p = let a = p.0 in let b = p.1 in (omega arith, omega arith)
below_more h (Unknown i w) p = tt

one_expression : (n : ℕ) (d e : Expression) → Below n d → Undivided d → Below n e → Undivided e → node_of d ≡ node_of e → d ≡ e
one_expression n d e p q r s h =
    sym (expression_back d n p q)
    ∙ ap (λ (m : Node). expression_of m n) h
    ∙ expression_back e n r s

-- ---- the nesting is that of the children, which are below

module _ (nodes nodes' : List ℕ) (n : ℕ) (same : (i : ℕ) → i < n → nesting_at nodes' i ≡ nesting_at nodes i) where
  child_same : (e : ℕ) → child_nesting nodes' n e ≡ child_nesting nodes n e
  child_same e = go (ltb e n) refl
    where
      go : (t : Bool) → ltb e n ≡ t → cond t (nesting_at nodes' e) 0 ≡ cond t (nesting_at nodes e) 0
      go true h = same e (ltb-true e n h)
      go false h = refl

  nesting_same : (e : Expression) → nesting nodes' n e ≡ nesting nodes n e
  nesting_same (Constant c) = refl
  nesting_same (Slot s) = refl
  nesting_same (Unary op e) = ap (λ (d : ℕ). 1 + d) (child_same e)
  nesting_same (Absolute e) = ap (λ (d : ℕ). 1 + d) (child_same e)
  nesting_same (Binary op l r) = λ i. 1 + max (child_same l i) (child_same r i)
  nesting_same (Unknown i w) = refl

-- so it is the same whichever count above them is asked for
module _ (nodes : List ℕ) (id n : ℕ) (h : id ≤ n) where
  child_there : (e : ℕ) → e < id → child_nesting nodes n e ≡ child_nesting nodes id e
  child_there e b = let c : e < n = omega arith in rw (lt-ltb e n c, lt-ltb e id b)

  pub nesting_there : (e : Expression) → Below id e → nesting nodes n e ≡ nesting nodes id e
  nesting_there (Constant c) b = refl
  nesting_there (Slot s) b = refl
  nesting_there (Unary op e) b = ap (λ (d : ℕ). 1 + d) (child_there e b)
  nesting_there (Absolute e) b = ap (λ (d : ℕ). 1 + d) (child_there e b)
  nesting_there (Binary op l r) b = λ i. 1 + max (child_there l b.0 i) (child_there r b.1 i)
  nesting_there (Unknown i w) b = refl

-- a row stands where it and those below are as they were
standing_kept : {k id : ℕ} (nodes nodes' : List ℕ) → node_at nodes' id ≡ node_at nodes id → ((i : ℕ) → i ≤ id → nesting_at nodes' i ≡ nesting_at nodes i) → Standing k id nodes →
    Standing k id nodes'
standing_kept {id} nodes nodes' h g s =
    let l : id ≤ id = omega arith in
    record {
      value = s.value;
      node = h ∙ s.node;
      below = s.below;
      undivided = s.undivided;
      named = s.named;
      nests = g id l ∙ s.nests ∙ sym (nesting_same nodes nodes' id (λ i b. g i (omega arith)) s.value);
      shallow = rw (g id l) s.shallow;
    }

-- ---- what the tests of the call say

below_valid : (n : Counts) (e : Expression) → valid n e ≡ true → Below n.expressions e
below_valid n (Constant c) h = tt
below_valid n (Slot s) h = tt
below_valid n (Unary op e) h = ltb-true e n.expressions h
below_valid n (Absolute e) h = ltb-true e n.expressions h
below_valid n (Binary op l r) h =
    let a = ltb l n.expressions in
    let b = ltb r n.expressions in
    (ltb-true l n.expressions (and_left a b h), ltb-true r n.expressions (and_right a b h))
below_valid n (Unknown i w) h = tt

named_valid : (n : Counts) (e : Expression) → valid n e ≡ true → Named n.constants e
named_valid n (Constant c) h = ltb-true c n.constants h
named_valid n (Slot s) h = tt
named_valid n (Unary op e) h = tt
named_valid n (Absolute e) h = tt
named_valid n (Binary op l r) h = tt
named_valid n (Unknown i w) h = tt

undivided_supported : (e : Expression) → supported e ≡ true → Undivided e
undivided_supported (Constant c) h = tt
undivided_supported (Slot s) h = tt
undivided_supported (Unary op e) h = tt
undivided_supported (Absolute e) h = tt
undivided_supported (Binary op l r) h = (λ d. no (sym (ap ported d) ∙ h), λ d. no (sym (ap ported d) ∙ h))
  where
    no : false ≡ true → ⊥
    no z = let y : ◌≡◌ {A = ℕ} 0 1 = cc in absurd (omega arith)
undivided_supported (Unknown i w) h = tt

-- ---- what a call leaves

-- u is t with a budget that has charged
pub record Spending (t u : Tables) : Type 0 where
  pub budget : Budget
  pub spent : Spent t.header.budget budget
  pub is : u ≡ tables (with_budget budget t.header) t.nodes

pub spending_none : (t : Tables) → Spending t t
spending_none t = record { budget = t.header.budget; spent = spent_none t.header.budget; is = refl }

pub spending_more : {s t u : Tables} → Spending s t → Spending t u → Spending s u
spending_more h k = record {
  budget = k.budget;
  spent = spent_more h.spent (rw h.is at k.spent);
  is = k.is ∙ rw h.is;
}

pub record Accepted (e : Expression) (t : Tables) (id : ℕ) (u : Tables) : Type 0 where
  -- the table is as it should be, with the answered id in it
  pub nested : Nested u.header.counts.constants u.header.counts.expressions u.nodes
  pub stands : id < u.header.counts.expressions
  pub reads : expression_at u.nodes id ≡ e
  -- every older id reads as before, and the table is as long
  pub nodes : (j : ℕ) → j < t.header.counts.expressions → node_at u.nodes j ≡ node_at t.nodes j
  pub nestings : (j : ℕ) → j < t.header.counts.expressions → nesting_at u.nodes j ≡ nesting_at t.nodes j
  pub expressions : (j : ℕ) → j < t.header.counts.expressions → expression_at u.nodes j ≡ expression_at t.nodes j
  pub size : length u.nodes ≡ length t.nodes
  -- there is at most one expression more, and no more than the table has rows for
  pub grows : t.header.counts.expressions ≤ u.header.counts.expressions
  pub slowly : u.header.counts.expressions ≤ t.header.counts.expressions + 1
  pub fits : u.header.counts.expressions ≤ 1024
  -- all else of the header is as before, but for what the budget has charged
  pub budget : Budget
  pub spent : Spent t.header.budget budget
  pub is : u.header ≡ with_expressions u.header.counts.expressions (with_budget budget t.header)

pub record Refused (t : Tables) (r : Told) (u : Tables) : Type 0 where
  -- the table and the header are as before, but for what the budget has charged
  pub spending : Spending t u
  -- refusals 1 and 2 charge nothing
  pub early : r.number ≤ 2 → u ≡ t

-- ---- a charge, with whatever holds of its value

-- stopped by a charge: no refusal 1 or 2
record Halted (t : Tables) (r : Told) (u : Tables) : Type 0 where
  spending : Spending t u
  late : r.number ≤ 2 → ⊥

refused_late : {t u v : Tables} {r : Told} → Spending t u → Halted u r v → Refused t r v
refused_late h k = record { spending = spending_more h k.spending; early = λ l. absurd (k.late l) }

module _ {A : Type 0} (P : A → Type 0) {m : Metered Stop Budget A} where
  paying_ends : Spends m → Ensures P m → (t : Tables) → Ends (λ a u. Spending t u × P a) (λ r u. Halted t r u) (paying m t)
  unfolding through mapped
  paying_ends h v t = go (m t.header.budget) (h.at t.header.budget) (v.at t.header.budget)
    where
      left : (b : Budget) → Spent t.header.budget b → Spending t (tables (with_budget b t.header) t.nodes)
      left b p = record { budget = b; spent = p; is = refl }

      go : (x : Run Stop Budget A) → Ends (λ _ c. Spent t.header.budget c) (λ _ c. Spent t.header.budget c) x → Holds P x →
          Ends (λ a u. Spending t u × P a) (λ r u. Halted t r u)
          (mapped (λ s. tables s t.nodes) (λ s. tables s t.nodes) (λ r. r)
          (mapped (λ s. s) (λ s. s) (λ e. told (Limit e)) (mapped (λ b. with_budget b t.header) (λ b. with_budget b t.header) (λ e. e) x)))
      go (going a b) (completes p) v = completes (left b p, v)
      go (stopped e b) (stops p) v = stops record { spending = left b p; late = limit_late e.resource }

-- ---- the search

-- what is found is an older row of these cells
abbrev pub Sought : List ℕ → ℕ → Node → Place → Type 0
Sought nodes count e (found i) = (i < count) × (node_at nodes i ≡ e)
Sought nodes count e (absent i) = Unit {0}

seek_ensures : (nodes : List ℕ) (e : Node) (count at n : ℕ) → at + n ≤ count → Ensures (Sought nodes count e) (seek_node nodes e at n)
unfolding seek_node
seek_ensures nodes e count at zero h = by_pure (absent at) tt
seek_ensures nodes e count at (suc n) h =
    then (inner.work 1)
    (by_test (same_node (node_at nodes at) e) (λ t. by_pure (found at) (omega arith, same_node_lem (node_at nodes at) e t)) (λ t. seek_ensures nodes e count (at + 1) n (omega arith)))

older_ensures : (nodes : List ℕ) (count : ℕ) (e : Expression) → Ensures (Sought nodes count (node_of e)) (older nodes count e)
unfolding older
older_ensures nodes count e = by_test (shared e) (λ t. seek_ensures nodes (node_of e) count 0 count (omega arith)) (λ t. by_pure (absent count) tt)

seek_lives : (nodes : List ℕ) (e : Node) (at n : ℕ) → Lives 0 (λ _. 0) (seek_node nodes e at n)
unfolding seek_node
seek_lives nodes e at zero = live_pure 0 (absent at) refl
seek_lives nodes e at (suc n) = live_then (live_work 1) (live_test (same_node (node_at nodes at) e) (λ t. live_pure 0 (found at) refl) (λ t. seek_lives nodes e (at + 1) n))

older_lives : (nodes : List ℕ) (count : ℕ) (e : Expression) → Lives 0 (λ _. 0) (older nodes count e)
unfolding older
older_lives nodes count e = live_test (shared e) (λ t. seek_lives nodes (node_of e) 0 count) (λ t. live_pure 0 (absent count) refl)

-- ---- an expression that passes the tests

module _ (e : Expression) (t : Tables) (rows : length t.nodes ≡ size.node_cells) (ready : supported e ≡ true)
    (flat : nesting t.nodes t.header.counts.expressions e ≤ 64) (room : t.header.counts.expressions < 1024) (names : valid t.header.counts e ≡ true)
    (nest : Nested t.header.counts.constants t.header.counts.expressions t.nodes) where
  abbrev n : ℕ
  n = t.header.counts.expressions

  e_below : Below n e
  e_below = below_valid t.header.counts e names

  e_undivided : Undivided e
  e_undivided = undivided_supported e ready

  -- an older id: nothing is written
  share_older : (u : Tables) (i : ℕ) → Spending t u → i < n → node_at t.nodes i ≡ node_of e → Accepted e t i u
  share_older u i h l q =
      let s = nest.at i l in
      subst (λ (u : Tables). Accepted e t i u) (sym h.is)
      record {
        nested = nest;
        stands = l;
        reads =
            standing_reads s
            ∙ one_expression n s.value e (below_more (omega arith) s.value s.below) s.undivided e_below e_undivided (sym s.node ∙ q);
        nodes = λ j b. refl;
        nestings = λ j b. refl;
        expressions = λ j b. refl;
        size = refl;
        grows = omega arith;
        slowly = omega arith;
        fits = omega arith;
        budget = h.budget;
        spent = h.spent;
        is = refl;
      }

  -- a new row
  abbrev written : List ℕ
  written = put_node t.nodes n (node_of e) (nesting t.nodes n e)

  kept_node : (j : ℕ) → j < n → node_at written j ≡ node_at t.nodes j
  kept_node j b = node_kept t.nodes n (node_of e) (nesting t.nodes n e) j (λ q. absurd (omega arith))

  kept_nesting : (j : ℕ) → j < n → nesting_at written j ≡ nesting_at t.nodes j
  kept_nesting j b = nesting_kept t.nodes n (node_of e) (nesting t.nodes n e) j (λ q. absurd (omega arith))

  kept_expression : (j : ℕ) → j < n → expression_at written j ≡ expression_at t.nodes j
  unfolding expression_at
  kept_expression j b = ap (λ (m : Node). expression_of m j) (kept_node j b)

  kept_size : length written ≡ length t.nodes
  unfolding put_node
  kept_size = simp length-sets refl

  new_standing : Standing t.header.counts.constants n written
  new_standing =
      let back = nesting_back t.nodes n (node_of e) (nesting t.nodes n e) (omega arith) in
      record {
        value = e;
        node = node_back t.nodes n (node_of e) (nesting t.nodes n e) (omega arith);
        below = e_below;
        undivided = e_undivided;
        named = named_valid t.header.counts e names;
        nests = back ∙ sym (nesting_same t.nodes written n kept_nesting e);
        shallow = rw back flat;
      }

  new_nested : Nested t.header.counts.constants (n + 1) written
  new_nested = record { at = λ id h. go id h (compared id n) }
    where
      go : (id : ℕ) → id < n + 1 → Compared id n → Standing t.header.counts.constants id written
      go id h (less b) = standing_kept t.nodes written (kept_node id b) (λ i l. kept_nesting i (omega arith)) (nest.at id b)
      go id h (more b) = absurd (omega arith)
      go id h (same b) = subst (λ (i : ℕ). Standing t.header.counts.constants i written) (sym b) new_standing

  new_reads : expression_at written n ≡ e
  unfolding new_standing
  new_reads = standing_reads new_standing

  share_new : (u : Tables) → Spending t u → Ends (Accepted e t) (Refused t) (add_node e u)
  share_new u h =
      subst (λ (u : Tables). Ends (Accepted e t) (Refused t) (add_node e u)) (sym h.is)
      (completes
      record {
        nested = new_nested;
        stands = omega arith;
        reads = new_reads;
        nodes = kept_node;
        nestings = kept_nesting;
        expressions = kept_expression;
        size = kept_size;
        grows = omega arith;
        slowly = omega arith;
        fits = omega arith;
        budget = h.budget;
        spent = h.spent;
        is = refl;
      })

  settle_ends : (u : Tables) (p : Place) → Spending t u → Sought t.nodes n (node_of e) p → Ends (Accepted e t) (Refused t) (settle e p u)
  unfolding settle
  settle_ends u (found i) h q = ends_pure i u (share_older u i h q.0 q.1)
  settle_ends u (absent i) h q =
      ends_then (paying (links 1)) (add_node e) u (paying_ends (λ _. Unit {0}) (spends_links 1) (any_value (links 1)) u)
      (λ _ v k. share_new v (spending_more h k.0)) (λ r v k. refused_late h k)

  share_ends : (u : Tables) → Spending t u → Ends (Accepted e t) (Refused t) (share e u)
  unfolding share
  share_ends u h =
      subst (λ (w : Tables). Ends (Accepted e t) (Refused t) ((paying (metered (older w.nodes w.header.counts.expressions e)) >>= settle e) u)) (sym h.is)
      (ends_bind (paying (metered (older t.nodes n e))) (settle e) u
      (paying_ends (Sought t.nodes n (node_of e)) (spends_metered (older_lives t.nodes n e)) (by_through (Sought t.nodes n (node_of e)) meter_of (λ b m. with_meter m b) (λ b m. with_meter m b) (λ s. s) (older_ensures t.nodes n e)) u)
      (λ p v k. settle_ends v p (spending_more h k.0) k.1)
      (λ r v k. refused_late h k))

-- ---- the call

-- refused before anything is charged
refused_whole : (t : Tables) (r : Refusal) → Refused t (told r) t
refused_whole t r = record { spending = spending_none t; early = λ h. refl }

pub expression_ends : (e : Expression) (t : Tables) → Nested t.header.counts.constants t.header.counts.expressions t.nodes →
    Ends (Accepted e t) (Refused t) (expression_call e t)
unfolding expression_call
expression_ends e t nest =
    ends_test (eqb (length t.nodes) size.node_cells)
    (λ rows.
    ends_test (supported e)
    (λ ready.
    ends_test (open? t.header)
    (λ _.
    ends_test (leb (nesting t.nodes t.header.counts.expressions e) 64)
    (λ flat.
    ends_test (spacious t.header.counts)
    (λ room.
    ends_then (paying (work 1)) (unless (λ (t : Tables). valid t.header.counts e) Missing (share e)) t (paying_ends (λ _. Unit {0}) (spends_work 1) (any_value (work 1)) t)
    (λ _ u k.
    ends_test (valid u.header.counts e)
    (λ names.
    share_ends e t (eqb-true (length t.nodes) size.node_cells rows) ready (leb-true (nesting t.nodes t.header.counts.expressions e) 64 flat)
    (ltb-true t.header.counts.expressions 1024 (and_left (ltb t.header.counts.expressions 1024) _ room)) (rw k.0.is at names) nest u k.0)
    (λ _. stops record { spending = k.0; early = λ h. absurd (omega arith) }))
    (λ r u k. refused_late (spending_none t) k))
    (λ _. stops (refused_whole t Full)))
    (λ _. stops (refused_whole t Shape)))
    (λ _. stops (refused_whole t Closed)))
    (λ _. stops (refused_whole t Shape)))
    (λ _. stops (refused_whole t Shape))

-- a refused call leaves the table as it should be
pub refused_nested : {t u : Tables} {r : Told} → Refused t r u → Nested t.header.counts.constants t.header.counts.expressions t.nodes →
    Nested u.header.counts.constants u.header.counts.expressions u.nodes
refused_nested h nest = rw h.spending.is nest
