-- What the code's answers are, over plain variables: one law for each way out of a step.
use Rattle.expressions.specs.Places.{first_node}
use Rattle.sizes.specs.Sizes as size
use Prim.Native.Nat.{ℕ, zero, suc, ◌+◌, ◌*◌, ◌≤◌, ◌<◌}
use native.Mathlib.Omega.{arith}
use native.Mathlib.Decide.{dec_lt}
use native.Mathlib.Nat.{zero-add}
use native.Mathlib.Numerals.{add-one}
use mathlib.Core.Path.{◌≡◌, refl, sym, ap, ◌∙◌}
use mathlib.Core.Bool.{Bool, true, false, cond}
use mathlib.Core.List.{List}
use borrow.Author.Tests.{ltb-true, le-leb, eq-eqb, ne_eqb}
use lib.Dec.{eqb, ltb}
use lib.ListN.{length, get_or}
use Rattle.std.proofs.Common.{Result, Ok, Err}
use Rattle.integers.proofs.Tests.{and_left, and_false}
use Rattle.limits.specs.declared.Stop.{Stop}
use Rattle.limits.specs.declared.Budget.{Budget}
use Rattle.limits.specs.declared.Meter.{Meter}
use Rattle.limits.specs.declared.Refusal.TheVariants.{Limit, Missing}
use Rattle.limits.specs.Refusal.{Told, told}
use Rattle.limits.specs.Metered.{Run, going, stopped, answered, Metered, pure, after, ◌>>=◌, ◌>>◌, mapped, through}
use Rattle.limits.specs.Meter.{meter_of, with_meter, metered, units}
use Rattle.limits.specs.Meter as inner
use Rattle.limits.specs.Budget.{work, links}
use Rattle.limits.proofs.Monad.{bind_on, then_on, then_stop, through_on, through_stop, pure_is}
use Rattle.limits.proofs.Units.{units_more, units_nothing}
use Rattle.search.specs.Seek.{Place, found, absent}
use Rattle.nodes.specs.declared.Expression.{Expression}
use Rattle.nodes.specs.declared.Node.{Node}
use Rattle.sizes.specs.Sizes.{node_row}
use Rattle.nodes.specs.Node.{node_of, same_node, node_at, put_node}
use Rattle.store.specs.declared.Store.{Store}
use Rattle.store.specs.declared.Kind.TheVariants.{Building}
use Rattle.store.specs.Store.{admits, with_budget, with_expressions}
use Rattle.store.specs.Calls.{unless, billing as billed}
use Rattle.store.proofs.CodeLaws.{charged_counts}
use Rattle.expressions.specs.Expression.{supported, deepest, valid, shared, seek_node, older, Tables, tables, paying, settle, spacious, share, expression_call}

-- ---- the search: the place

-- most rows differ in this cell
pub other_left : (nodes : List ℕ) (i : ℕ) (n : Node) → (get_or nodes (node_row * i + 2) 0 ≡ n.left → ⊥) → eqb (get_or nodes (node_row * i + 2) 0) n.left ≡ same_node (node_at nodes i) n
unfolding node_at
other_left nodes i n h =
    let m = node_at nodes i in
    rw (ne_eqb (get_or nodes (node_row * i + 2) 0) n.left h, and_false (eqb m.operator n.operator)) (sym (and_false (eqb m.kind n.kind)))

module _ (nodes : List ℕ) (e : Node) where
  abbrev pub Same : ℕ → Type 0
  Same i = same_node (node_at nodes i) e ≡ true

  abbrev pub Other : ℕ → Type 0
  Other i = same_node (node_at nodes i) e ≡ false

  none_from : (n at : ℕ) → ((k : ℕ) → at ≤ k → k < at + n → Other k) → first_node nodes e at n ≡ n
  unfolding first_node
  none_from zero at h = refl
  none_from (suc n) at h = rw (h at (omega arith) (omega arith)) (ap suc (none_from n (at + 1) (λ k l m. h k (omega arith) (omega arith))))

  first_from : (n at i : ℕ) → at ≤ i → i < at + n → Same i → ((k : ℕ) → at ≤ k → k < i → Other k) → at + first_node nodes e at n ≡ i
  unfolding first_node
  first_from zero at i l m s h = absurd (omega arith)
  first_from (suc n) at i l m s h = elim (dec_lt at i) [
    | yes b ↦ let r = first_from n (at + 1) i (omega arith) (omega arith) s (λ k a c. h k (omega arith) c) in rw (h at (omega arith) b) (omega arith)
    | no b ↦ let z : at ≡ i = omega arith in let t : Same at = rw z s in rw t (omega arith)
  ]

  pub none_is : (count i : ℕ) → count ≤ i → ((k : ℕ) → k < i → Other k) → count ≤ first_node nodes e 0 count
  none_is count i l h = let z = none_from count 0 (λ k _ m. h k (omega arith)) in omega arith

  pub first_is : (count i : ℕ) → i < count → ((k : ℕ) → k < i → Other k) → Same i → (i < count) × (i ≡ first_node nodes e 0 count)
  first_is count i l h s = let z = first_from count 0 i (omega arith) (omega arith) s (λ k _ m. h k m) in (l, omega arith)

-- ---- what it pays: a unit for each row that it looked at

module _ (nodes : List ℕ) (e : Node) where
  abbrev FoundFrom : ℕ → ℕ → ℕ → Metered Stop Meter Place → Type 0
  FoundFrom k at n m = (s : Meter) → k < n → (units (suc k) >> pure (found (at + k))) s ≡ m s

  abbrev NoneFrom : ℕ → ℕ → ℕ → Metered Stop Meter Place → Type 0
  NoneFrom k at n m = (s : Meter) → n ≤ k → (units n >> pure (absent (at + n))) s ≡ m s

  found_at : (k at n : ℕ) (b : Bool) {m : Metered Stop Meter Place} → FoundFrom k (at + 1) n m → FoundFrom (cond b 0 (suc k)) at (suc n) (inner.work 1 >> cond b (pure (found at)) m)
  found_at k at n true h s l = let z : at + 0 ≡ at = omega arith in rw z (units_more 0 _ _ s (units_nothing _))
  found_at k at n false h s l = let z : at + suc k ≡ at + 1 + k = omega arith in rw z (units_more _ _ _ s (λ t. h t (omega arith)))

  node_found : (n at : ℕ) → FoundFrom (first_node nodes e at n) at n (seek_node nodes e at n)
  unfolding first_node seek_node
  node_found zero at s l = absurd (omega arith)
  node_found (suc n) at s l = found_at _ at n (same_node (node_at nodes at) e) (node_found n (at + 1)) s l

  none_at : (k at n : ℕ) (b : Bool) {m : Metered Stop Meter Place} → NoneFrom k (at + 1) n m → NoneFrom (cond b 0 (suc k)) at (suc n) (inner.work 1 >> cond b (pure (found at)) m)
  none_at k at n true h s l = absurd (omega arith)
  none_at k at n false h s l = let z : at + suc n ≡ at + 1 + n = omega arith in rw z (units_more _ _ _ s (λ t. h t (omega arith)))

  node_none : (n at : ℕ) → NoneFrom (first_node nodes e at n) at n (seek_node nodes e at n)
  unfolding first_node seek_node
  node_none zero at s l = let z : at + 0 ≡ at = omega arith in rw z (units_nothing _ s)
  node_none (suc n) at s l = none_at _ at n (same_node (node_at nodes at) e) (node_none n (at + 1)) s l

-- and the code's answers
module _ (nodes : List ℕ) (e : Node) (count : ℕ) (m : Meter) where
  module _ (p : ℕ) (k : p < count) (h : p ≡ first_node nodes e 0 count) where
    look : (units (p + 1) >> pure (found p)) m ≡ seek_node nodes e 0 count m
    look = rw (h, add-one) (rw zero-add at (node_found nodes e count 0 m (rw h at k)))

    pub found_unpaid : {x : Stop} {m' : Meter} → stopped x m' ≡ units (p + 1) m → stopped x m' ≡ seek_node nodes e 0 count m
    found_unpaid q = then_stop _ _ _ q ∙ look

    pub found_paid : {m' : Meter} → going tt m' ≡ units (p + 1) m → going (found p) m' ≡ seek_node nodes e 0 count m
    found_paid q = then_on _ _ _ q (pure_is _ _) ∙ look

  module _ (k : count ≤ first_node nodes e 0 count) where
    miss : (units count >> pure (absent count)) m ≡ seek_node nodes e 0 count m
    miss = rw zero-add at (node_none nodes e count 0 m k)

    pub none_unpaid : {x : Stop} {m' : Meter} → stopped x m' ≡ units count m → stopped x m' ≡ seek_node nodes e 0 count m
    none_unpaid q = then_stop _ _ _ q ∙ miss

    pub none_paid : {m' : Meter} → going tt m' ≡ units count m → going (absent count) m' ≡ seek_node nodes e 0 count m
    none_paid q = then_on _ _ _ q (pure_is _ _) ∙ miss

-- an Unknown is not sought
module _ (nodes : List ℕ) (count : ℕ) (v : Expression) {t : Bool} (h : t ≡ shared v) (m : Meter) where
  pub older_sought : {n : Node} {y : Run Stop Meter Place} → t ≡ true → n ≡ node_of v → y ≡ seek_node nodes n 0 count m → y ≡ older nodes count v m
  unfolding older
  older_sought y e s = rw (← h, y, ← e) s

  pub older_none : t ≡ false → going (absent count) m ≡ older nodes count v m
  unfolding older pure
  older_none y = rw (← h, y)

-- ---- the ways of `share`

module _ (e : Expression) (s : Store) (nodes : List ℕ) (m : Meter) {r : Result Place Stop} (h : answered r m ≡ older nodes s.counts.expressions e (meter_of s.budget)) {b : Budget} (k : b ≡ with_meter m s.budget) where
  pub share_stopped : {x : Stop} → r ≡ Err x → stopped (told (Limit x)) (tables (with_budget b s) nodes) ≡ share e (tables s nodes)
  unfolding share ◌>>=◌ after through mapped
  share_stopped p = rw (k, ← h, p)

  module _ {q : Place} (p : r ≡ Ok q) where
    pub share_found : {i : ℕ} → q ≡ found i → going i (tables (with_budget b s) nodes) ≡ share e (tables s nodes)
    unfolding share settle pure ◌>>=◌ after through mapped
    share_found f = rw (k, ← h, p, f)

    module _ {i : ℕ} (f : q ≡ absent i) where
      sought_on : going (absent i) (tables (with_budget b s) nodes) ≡ paying (metered (older nodes s.counts.expressions e)) (tables s nodes)
      unfolding through mapped
      sought_on = rw (k, ← h, p, f)

      pub share_unpaid : {x : Told} {v : Store} → stopped x v ≡ billed (links 1) (with_budget b s) → stopped x (tables v nodes) ≡ share e (tables s nodes)
      unfolding share settle
      share_unpaid d = bind_on _ _ (settle e) sought_on (then_stop _ _ _ (through_stop _ _ _ _ (billed (links 1)) (tables (with_budget b s) nodes) d))

      module _ {v : Store} (g : going tt v ≡ billed (links 1) (with_budget b s)) where
        same_rows : v.counts ≡ s.counts
        same_rows = charged_counts (links 1) (with_budget b s) g

        pub still_room : s.counts.expressions < 1024 → v.counts.expressions < 1024
        still_room h = rw same_rows h

        pub share_new : {d : ℕ} {n : Node} {nodes' : List ℕ} → d ≡ deepest nodes s.counts.expressions e → n ≡ node_of e →
            nodes' ≡ put_node nodes s.counts.expressions n (1 + d) → going s.counts.expressions (tables (with_expressions (v.counts.expressions + 1) v) nodes') ≡ share e (tables s nodes)
        unfolding share settle
        share_new ed en z =
            bind_on _ _ (settle e) sought_on (then_on _ _ _ (through_on _ _ _ _ (billed (links 1)) (tables (with_budget b s) nodes) g) (rw (z, en, ed, same_rows)))

-- ---- the call

module _ (e : Expression) (s : Store) (nodes : List ℕ) {t o : Bool} {d : ℕ} (n : length nodes ≡ size.node_cells) (a : t ≡ supported e) (y : t ≡ true) (h : o ≡ admits Building s.phase) (q : o ≡ true)
    (g : d ≡ deepest nodes s.counts.expressions e) (k : d < 64) {m : Bool} (f : m ≡ spacious s.counts) (l : m ≡ true) where
  -- what is left after the tests
  tested : expression_call e (tables s nodes) ≡ (paying (work 1) >> unless (λ (t : Tables). valid t.header.counts e) Missing (share e)) (tables s nodes)
  unfolding expression_call
  tested = rw (eq-eqb (length nodes) size.node_cells n, ← a, y, ← h, q, ← g, le-leb (1 + d) 64 (omega arith), ← f, l)

  pub expression_work : {r : Told} {u : Store} → stopped r u ≡ billed (work 1) s → stopped r (tables u nodes) ≡ expression_call e (tables s nodes)
  expression_work p = rw tested (then_stop _ _ _ (through_stop _ _ _ _ (billed (work 1)) (tables s nodes) p))

  module _ {u : Store} (p : going tt u ≡ billed (work 1) s) where
    same_counts : u.counts ≡ s.counts
    same_counts = charged_counts (work 1) s p

    pub share_ready : (u.counts.expressions < 1024) × (deepest nodes u.counts.expressions e < 64) × (size.node_cells ≤ length nodes)
    share_ready = rw same_counts (ltb-true s.counts.expressions 1024 (and_left (ltb s.counts.expressions 1024) _ (sym f ∙ l)), rw (← g) k, omega arith)

    module _ {v : Bool} (w : v ≡ valid u.counts e) where
      pub expression_missing : v ≡ false → stopped (told Missing) (tables u nodes) ≡ expression_call e (tables s nodes)
      expression_missing z = rw tested (then_on _ _ _ (through_on _ _ _ _ (billed (work 1)) (tables s nodes) p) (rw (← w, z)))

      pub expression_shared : v ≡ true → {x : Run Told Tables ℕ} → x ≡ share e (tables u nodes) → x ≡ expression_call e (tables s nodes)
      expression_shared z r = rw tested (then_on _ _ _ (through_on _ _ _ _ (billed (work 1)) (tables s nodes) p) (rw (← w, z) r))
