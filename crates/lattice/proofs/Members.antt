-- What lies in a value. 01: "A number lies in a bound whose interval has it (Unbounded has all), a name in a Mixed one; a value lies in a
-- list that has the id of a constant with that key." A join loses nothing, a meet has exactly what both have.
use Prim.Native.Nat.{ℕ}
use native.Mathlib.Omega.{arith}
use mathlib.Core.Path.{◌≡◌, refl, subst, ◌∙◌}
use mathlib.Core.Logic.{◌↔◌, ◌⊎◌, inl, inr, ⊎_elim}
use mathlib.Core.Bool.{true}
use mathlib.Core.List.{List, [], ◌∷◌, foldl, Memᴰ}
use mathlib.Core.Option.{Option, some, none}
use lib.Dec.{leb}
use lib.IntN.{ℤ}
use lib.ListN.{length}
use Rattle.integers.specs.Order.{Number}
use Rattle.integers.proofs.Tests.{by_cond}
use Rattle.limits.specs.Meter.{retain}
use Rattle.limits.proofs.Monad.{Ensures, by_pure, by_test, then, weaken}
use Rattle.interval.specs.declared.Interval.{Interval}
use Rattle.interval.specs.declared.Interval.TheVariants.{Bottom, Bounded, Unbounded}
use Rattle.interval.specs.declared.Bound.{Bound}
use Rattle.interval.specs.declared.Constant.{Constant}
use Rattle.interval.specs.declared.Constant.TheVariants.{Number as number, Name, Large}
use Rattle.interval.specs.Cousot.{◌∋◌}
use Rattle.interval.specs.Interval.{cousot}
use Rattle.interval.specs.Bound.{top_bound, bottom_bound, numeric_bound, constant_bound, hull_bound, meet_bound, same_bound, allows_of, HasNumber, HasNames}
use Rattle.interval.proofs.Members.{hull_number, hull_names, meet_number, meet_names, allows_number, allows_name, constant_number_lem, same_bound_is}
use Rattle.lattice.specs.Value.{Reason}
use Rattle.lattice.specs.Value.{Value}
use Rattle.lattice.specs.Constants.{constant_at}
use Rattle.lists.specs.Lists.{union}
use Rattle.lattice.specs.Lattice.{bottom, top, numeric, retained, constant, same, join, source, meet, refine}
use Rattle.lists.proofs.Unions.{union_in}
use Rattle.lists.proofs.ListLaws.{Searchable, room}
use Rattle.lattice.proofs.Joins.{joined_list, join_is}
use Rattle.lattice.proofs.Copies.{same_is}
use Rattle.lattice.proofs.Tidiness.{numeric_tidy}
use Rattle.lattice.proofs.Meets.{InList, held_by, met_from, meet_is, meet_from_list}

-- ---- in a bound: what has a number by that number, what has none as a name

abbrev pub InBound : Option ℤ → Bound → Type 0
InBound none b = HasNames b.integrality
InBound (some n) b = HasNumber b n

pub in_hull : (o : Option ℤ) (b c : Bound) → InBound o b ⊎ InBound o c → InBound o (hull_bound b c)
in_hull none b c h = (hull_names b c).1 h
in_hull (some n) b c h = hull_number b c n h

pub in_meet : (o : Option ℤ) (b c : Bound) → InBound o (meet_bound b c) ↔ (InBound o b × InBound o c)
in_meet none b c = meet_names b c
in_meet (some n) b c = meet_number b c n

pub in_bottom : (o : Option ℤ) → InBound o bottom_bound → ⊥
in_bottom none h = h
in_bottom (some n) h = h

-- the hull of the constants' bounds has what one of them has
in_held : (cs : List ℕ) (o : Option ℤ) (i : ℕ) (l : List ℕ) → Memᴰ i l → InBound o (constant_bound (constant_at cs i)) → InBound o (held_by cs l)
in_held cs o i l m h = hit l bottom_bound m
  where
    keep : (l : List ℕ) (b : Bound) → InBound o b → InBound o (foldl (λ g j. hull_bound g (constant_bound (constant_at cs j))) b l)
    keep [] b p = p
    keep (j ∷ l) b p = keep l _ (in_hull o b (constant_bound (constant_at cs j)) (inl p))

    hit : (l : List ℕ) (b : Bound) → Memᴰ i l → InBound o (foldl (λ g j. hull_bound g (constant_bound (constant_at cs j))) b l)
    hit [] b m = absurd (mathlib.Core.List.Memᴰ.not-nil m)
    hit (j ∷ l) b m =
        ⊎_elim
        (λ e. keep l _ (in_hull o b (constant_bound (constant_at cs j)) (inr (subst (λ (n : ℕ). InBound o (constant_bound (constant_at cs n))) e h))))
        (λ k. hit l _ k) (mathlib.Core.List.Memᴰ.cases_cons m)

-- ---- in a value

-- in a list, if there is one: it has the id of a constant with that key
abbrev pub Listed : {K : Type 0} → (ℕ → K → Type 0) → K → Option (List ℕ) → Type 0
Listed Key k none = Unit {0}
Listed Key k (some l) = (i : ℕ) × Memᴰ i l × Key i k

-- num k is the number of the key k, if it has one; Key i k says that the constant i has the key k and is retained
module _ {K : Type 0} (num : K → Option ℤ) (Key : ℕ → K → Type 0) where
  pub record In (v : Value) (k : K) : Type 0 where
    pub bound : InBound (num k) v.bound
    pub list : Listed Key k v.values

  -- the table has the constants of those keys. A retained key has one id: a meet goes by ids. A number has 32 bits: `allows` cuts to them.
  pub record Keyed (cs : List ℕ) : Type 0 where
    pub numbers : (i : ℕ) (k : K) (n : ℤ) → Key i k → num k ≡ some n → constant_at cs i ≡ number n
    pub names : (i : ℕ) (k : K) → Key i k → num k ≡ none → constant_at cs i ≡ Name
    pub one : (i j : ℕ) (k : K) → Key i k → Key j k → i ≡ j
    pub fits : (k : K) (n : ℤ) → num k ≡ some n → Number n

  -- ---- the values without a list that has ids

  -- Mixed and Unbounded has everything
  pub top_in : (reason : Reason) (k : K) → In (top reason) k
  top_in reason k = record { bound = go (num k); list = tt }
    where
      go : (o : Option ℤ) → InBound o top_bound
      go none = tt
      go (some n) = (tt, tt)

  pub bottom_nothing : (k : K) → In bottom k → ⊥
  bottom_nothing k h = in_bottom (num k) h.bound

  -- the value of an interval has its numbers
  pub numeric_in : (k : K) (i : Interval) (n : ℤ) → num k ≡ some n → cousot i ∋ n → In (numeric i) k
  numeric_in k Bottom n e h = absurd h
  numeric_in k (Bounded low high) n e h = record { bound = rw e h; list = tt }
  numeric_in k Unbounded n e h = record { bound = rw e h; list = tt }

  -- and nothing else
  pub numeric_only : (k : K) (i : Interval) → In (numeric i) k → (n : ℤ) × (num k ≡ some n) × (cousot i ∋ n)
  numeric_only k i h = go (num k) refl i (bounded i h)
    where
      bounded : (i : Interval) → In (numeric i) k → InBound (num k) (numeric_bound i)
      bounded Bottom h = h.bound
      bounded (Bounded low high) h = h.bound
      bounded Unbounded h = h.bound

      go : (o : Option ℤ) → num k ≡ o → (i : Interval) → InBound o (numeric_bound i) → (n : ℤ) × (num k ≡ some n) × (cousot i ∋ n)
      go none e i h = absurd h
      go (some n) e i h = (n, e, h)

  -- ---- join

  joined_lists : (width : ℕ) (k : K) (x y : Option (List ℕ)) → Listed Key k x ⊎ Listed Key k y → Listed Key k (joined_list width x y)
  joined_lists width k none y h = tt
  joined_lists width k (some x) none h = tt
  joined_lists width k (some x) (some y) h =
      by_cond (Listed Key k) (leb (length (union x y)) (room width))
      (λ _.
      ⊎_elim (λ (a : Listed Key k (some x)). (a.0, (union_in a.0 x y).1 (inl a.1), a.2))
      (λ (a : Listed Key k (some y)). (a.0, (union_in a.0 x y).1 (inr a.1), a.2)) h)
      (λ _. tt)

  -- a join has what either has
  pub join_in : (width : ℕ) (u v : Value) (k : K) → In u k ⊎ In v k → Ensures (λ w. In w k) (join width u v)
  join_in width u v k h =
      weaken
      (λ w e.
      rw e
      record {
        bound = in_hull (num k) u.bound v.bound (⊎_elim (λ a. inl a.bound) (λ a. inr a.bound) h);
        list = joined_lists width k u.values v.values (⊎_elim (λ a. inl a.list) (λ a. inr a.list) h);
      })
      (join_is width u v)

  -- ---- meet

  module _ (cs : List ℕ) (t : Keyed cs) where
    -- a bound that has a key allows its constant, and the constant's own bound has it
    allowed : (b : Bound) (i : ℕ) (k : K) → Key i k → InBound (num k) b → allows_of b (constant_at cs i) ≡ true
    allowed b i k m h = go (num k) refl h
      where
        go : (o : Option ℤ) → num k ≡ o → InBound o b → allows_of b (constant_at cs i) ≡ true
        go none e h = rw (t.names i k m e) ((allows_name b).1 h)
        go (some n) e h = rw (t.numbers i k n m e) ((allows_number b n (t.fits k n e)).1 h)

    own : (i : ℕ) (k : K) → Key i k → InBound (num k) (constant_bound (constant_at cs i))
    own i k m = go (num k) refl
      where
        go : (o : Option ℤ) → num k ≡ o → InBound o (constant_bound (constant_at cs i))
        go none e = rw (t.names i k m e) tt
        go (some n) e = rw (t.numbers i k n m e) ((constant_number_lem n n).1 refl)

    -- the id of a key that both lists have, where there is a list
    shared : (k : K) (x y : Option (List ℕ)) (l : List ℕ) → source x y ≡ some l → Listed Key k x → Listed Key k y → (i : ℕ) × InList x i × InList y i × Key i k
    shared k none none l e p q = let z : ◌≡◌ {A = ℕ} 0 1 = cc in absurd (omega arith)
    shared k none (some y) l e p q = (q.0, tt, q.1, q.2)
    shared k (some x) none l e p q = (p.0, p.1, tt, p.2)
    shared k (some x) (some y) l e p q = (p.0, p.1, subst (λ (j : ℕ). Memᴰ j y) (t.one q.0 p.0 k q.2 p.2) q.1, p.2)

    module _ (u v : Value) (su : Searchable u.values) (sv : Searchable v.values) (k : K) where
      in_met : In u k → In v k → InBound (num k) (meet_bound u.bound v.bound)
      in_met p q = (in_meet (num k) u.bound v.bound).1 (p.bound, q.bound)

      meet_to : In u k → In v k → (o : Option (List ℕ)) → source u.values v.values ≡ o → Ensures (λ w. In w k) (meet cs u v)
      meet_to p q none s =
          weaken
          (λ w e.
          let f : w ≡ met_from cs u v (meet_bound u.bound v.bound) none = e ∙ rw s in
          rw f
          record {
            bound = in_met p q;
            list =
                by_cond (Listed Key k) (same_bound (meet_bound u.bound v.bound) bottom_bound)
                (λ a. absurd (in_bottom (num k) (subst (InBound (num k)) ((same_bound_is (meet_bound u.bound v.bound) bottom_bound).0 a) (in_met p q)))) (λ _. tt);
          })
          (meet_is cs u v su sv)
      meet_to p q (some l) s =
          weaken
          (λ w f.
          let a = shared k u.values v.values l s p.list q.list in
          let m : Memᴰ a.0 f.kept = (f.members a.0).1 (a.1, a.2, allowed (meet_bound u.bound v.bound) a.0 k a.3 (in_met p q)) in
          record {
            bound = rw f.bound ((in_meet (num k) (meet_bound u.bound v.bound) (held_by cs f.kept)).1 (in_met p q, in_held cs (num k) a.0 f.kept m (own a.0 k a.3)));
            list = rw f.list (a.0, m, a.3);
          })
          (meet_from_list cs u v l su sv s)

      -- a meet has what both have
      pub meet_in : In u k → In v k → Ensures (λ w. In w k) (meet cs u v)
      meet_in p q = meet_to p q (source u.values v.values) refl

  -- and nothing else: this needs no fact of the table
  module _ (cs : List ℕ) (u v : Value) (su : Searchable u.values) (sv : Searchable v.values) (k : K) where
    no_lists : (x y : Option (List ℕ)) → source x y ≡ none → Listed Key k x × Listed Key k y
    no_lists none none e = (tt, tt)
    no_lists none (some y) e = let z : ◌≡◌ {A = ℕ} 0 1 = cc in absurd (omega arith)
    no_lists (some x) none e = let z : ◌≡◌ {A = ℕ} 0 1 = cc in absurd (omega arith)
    no_lists (some x) (some y) e = let z : ◌≡◌ {A = ℕ} 0 1 = cc in absurd (omega arith)

    in_list : (x : Option (List ℕ)) (i : ℕ) → InList x i → Key i k → Listed Key k x
    in_list none i m h = tt
    in_list (some x) i m h = (i, m, h)

    from : (o : Option (List ℕ)) → source u.values v.values ≡ o → Ensures (λ w. In w k → In u k × In v k) (meet cs u v)
    from none s =
        weaken
        (λ w e h.
        let f : w ≡ met_from cs u v (meet_bound u.bound v.bound) none = e ∙ rw s in
        let b = (in_meet (num k) u.bound v.bound).0 (rw f at h.bound) in
        let l = no_lists u.values v.values s in
        (record { bound = b.0; list = l.0 }, record { bound = b.1; list = l.1 }))
        (meet_is cs u v su sv)
    from (some l) s =
        weaken
        (λ w f h.
        let c = (in_meet (num k) (meet_bound u.bound v.bound) (held_by cs f.kept)).0 (rw f.bound at h.bound) in
        let b = (in_meet (num k) u.bound v.bound).0 c.0 in
        let a : Listed Key k (some f.kept) = rw f.list at h.list in
        let m = (f.members a.0).0 a.1 in
        (record { bound = b.0; list = in_list u.values a.0 m.0 a.2 }, record { bound = b.1; list = in_list v.values a.0 m.1 a.2 }))
        (meet_from_list cs u v l su sv s)

    -- a meet has only what both have
    pub meet_only : Ensures (λ w. In w k → In u k × In v k) (meet cs u v)
    meet_only = from (source u.values v.values) refl

  -- ---- refine

  -- a narrowed value keeps the numbers of the interval
  pub refine_in : (cs : List ℕ) → Keyed cs → (v : Value) → Searchable v.values → (i : Interval) (k : K) (n : ℤ) → num k ≡ some n → cousot i ∋ n → In v k → Ensures (λ w. In w k) (refine cs v i)
  unfolding refine
  refine_in cs t v s i k n e m h = meet_in cs t v (numeric i) s (numeric_tidy i) k h (numeric_in k i n e m)

  -- and has only numbers of the interval that were in the value
  pub refine_only : (cs : List ℕ) (v : Value) → Searchable v.values → (i : Interval) (k : K) → Ensures (λ w. In w k → In v k × ((n : ℤ) × (num k ≡ some n) × (cousot i ∋ n))) (refine cs v i)
  unfolding refine
  refine_only cs v s i k = weaken (λ w f h. let p = f h in (p.0, numeric_only k i p.1)) (meet_only cs v (numeric i) s (numeric_tidy i) k)

  -- ---- constant

  retained_in : (id : ℕ) (b : Bound) (width : ℕ) (k : K) → Key id k → InBound (num k) b → Ensures (λ w. In w k) (retained id b width)
  retained_in id b width k m h =
      by_test (leb 1 width) (λ _. then (retain 1) (by_pure _ record { bound = h; list = (id, mathlib.Core.List.Memᴰ.head refl, m) })) (λ _. by_pure _ record { bound = h; list = tt })

  -- the value of a retained constant has its key
  pub constant_in : (cs : List ℕ) → Keyed cs → (id width : ℕ) (k : K) → Key id k → Ensures (λ w. In w k) (constant id (constant_at cs id) width)
  constant_in cs t id width k m = go (constant_at cs id) (own cs t id k m)
    where
      go : (c : Constant) → InBound (num k) (constant_bound c) → Ensures (λ w. In w k) (constant id c width)
      go (number n) h = retained_in id _ width k m h
      go Name h = retained_in id _ width k m h
      go Large h = by_pure _ record { bound = h; list = tt }

  -- that of one which is not retained has every name
  pub large_in : (id width : ℕ) (k : K) → num k ≡ none → Ensures (λ w. In w k) (constant id Large width)
  large_in id width k e = by_pure _ record { bound = rw e tt; list = tt }

  -- ---- same

  -- equal values have the same members, whatever their reasons are
  pub same_in : (u v : Value) (k : K) → Ensures (λ t. t ≡ true → (In u k ↔ In v k)) (same u v)
  same_in u v k =
      weaken
      (λ t f e.
      let p = f.0 e in
      (λ h. record { bound = rw (← p.0) h.bound; list = rw (← p.1) h.list }, λ h. record { bound = rw p.0 h.bound; list = rw p.1 h.list }))
      (same_is u v)

-- ---- more keys: what lies in a value still does where more ids have keys

module _ {K : Type 0} (num : K → Option ℤ) (Key Later : ℕ → K → Type 0) where
  pub in_later : ((i : ℕ) (k : K) → Key i k → Later i k) → (v : Value) (k : K) → In num Key v k → In num Later v k
  in_later f v k h = record { bound = h.bound; list = go v.values h.list }
    where
      go : (o : Option (List ℕ)) → Listed Key k o → Listed Later k o
      go none l = tt
      go (some x) l = (l.0, l.1, f l.0 k l.2)
