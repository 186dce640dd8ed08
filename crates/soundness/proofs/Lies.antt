-- What lies in a value, for keys of the reader: the theorems of `lattice` on members, where ids stand for keys as the constants' table has them.
use Prim.Native.Nat.{ℕ}
use native.Mathlib.Omega.{arith}
use mathlib.Core.Path.{◌≡◌, refl, sym, subst, ◌∙◌}
use mathlib.Core.Logic.{◌⊎◌, inl, inr, ⊎_elim}
use mathlib.Core.List.{List}
use mathlib.Core.Option.{Option, some, none}
use lib.IntN.{ℤ}
use Rattle.integers.specs.Order.{Number}
use Rattle.limits.proofs.Monad.{Ensures, weaken}
use Rattle.interval.specs.declared.Interval.{Interval}
use Rattle.interval.specs.declared.Constant.{Constant}
use Rattle.interval.specs.declared.Constant.TheVariants.{Number as number, Name, Large}
use Rattle.interval.specs.Cousot.{◌∋◌}
use Rattle.interval.specs.Interval.{cousot}
use Rattle.lists.proofs.ListLaws.{Searchable}
use Rattle.lattice.specs.Value.{Reason}
use Rattle.lattice.specs.Value.{Value}
use Rattle.lattice.specs.Constants.{constant_at}
use Rattle.lattice.specs.Lattice.{top, numeric, constant, copied, join, meet, refine}
use Rattle.lattice.proofs.Copies.{copied_is}
use Rattle.lattice.proofs.Members.{InBound, Listed, In, Keyed}
use Rattle.lattice.proofs.Members as members
use Rattle.keys.specs.Key.{Key, name}
use Rattle.keys.specs.Key as keys
use Rattle.soundness.specs.Plain.{ProperKey}
use Rattle.soundness.specs.Tied.{Constants}

-- ---- keys whose numbers have 32 bits

pub record Value32 : Type 0 where
  pub key : Key
  pub proper : ProperKey key

abbrev pub number_of : Key → Option ℤ
number_of (keys.number z) = some z
number_of (name s) = none

abbrev pub num : Value32 → Option ℤ
num k = number_of k.key

abbrev pub with_proper : (k : Key) → ProperKey k → Value32
with_proper k p = record { key = k; proper = p }

-- the constant i stands for k, and is retained
abbrev pub Kept : (ℕ → Option Key) → List ℕ → ℕ → Key → Type 0
Kept key cells i k = (key i ≡ some k) × (constant_at cells i ≡ Large → ⊥)

-- 01: "A number lies in a bound whose interval has it (Unbounded has all), a name in a Mixed one; a value lies in a list that has the id of a
-- constant with that key."
pub record Lies (key : ℕ → Option Key) (cells : List ℕ) (v : Value) (k : Key) : Type 0 where
  pub bound : InBound (number_of k) v.bound
  pub list : Listed (Kept key cells) k v.values

module _ (key : ℕ → Option Key) (cells : List ℕ) where
  abbrev pub Stands : ℕ → Value32 → Type 0
  Stands i k = Kept key cells i k.key

  listed_in : (k : Key) (p : ProperKey k) (o : Option (List ℕ)) → Listed (Kept key cells) k o → Listed Stands (with_proper k p) o
  listed_in k p none h = tt
  listed_in k p (some l) h = h

  in_listed : (k : Key) (p : ProperKey k) (o : Option (List ℕ)) → Listed Stands (with_proper k p) o → Listed (Kept key cells) k o
  in_listed k p none h = tt
  in_listed k p (some l) h = h

  pub to_in : (k : Key) (p : ProperKey k) (v : Value) → Lies key cells v k → In num Stands v (with_proper k p)
  to_in k p v h = record { bound = h.bound; list = listed_in k p v.values h.list }

  pub from_in : (k : Key) (p : ProperKey k) (v : Value) → In num Stands v (with_proper k p) → Lies key cells v k
  from_in k p v h = record { bound = h.bound; list = in_listed k p v.values h.list }

  -- ---- what needs no tie

  pub top_lies : (reason : Reason) (k : Key) → ProperKey k → Lies key cells (top reason) k
  top_lies reason k p = from_in k p (top reason) (members.top_in num Stands reason (with_proper k p))

  pub numeric_lies : (i : Interval) (n : ℤ) → Number n → cousot i ∋ n → Lies key cells (numeric i) (keys.number n)
  numeric_lies i n p h = from_in (keys.number n) p (numeric i) (members.numeric_in num Stands (with_proper (keys.number n) p) i n refl h)

  pub copied_lies : (v : Value) (k : Key) → Lies key cells v k → Ensures (λ w. Lies key cells w k) (copied v)
  copied_lies v k h = weaken (λ w e. rw e h) (copied_is v)

  pub join_lies : (width : ℕ) (u v : Value) (k : Key) → ProperKey k → Lies key cells u k ⊎ Lies key cells v k → Ensures (λ w. Lies key cells w k) (join width u v)
  join_lies width u v k p h =
      weaken (λ w. from_in k p w) (members.join_in num Stands width u v (with_proper k p) (⊎_elim (λ a. inl (to_in k p u a)) (λ a. inr (to_in k p v a)) h))

  -- ---- what needs the table's keys

  module _ (t : Constants key cells) where
    kept_name : (i : ℕ) (s : List ℕ) → key i ≡ some (name s) → (constant_at cells i ≡ Large → ⊥) → constant_at cells i ≡ Name
    kept_name i s e n = ⊎_elim (λ a. a) (λ a. absurd (n a)) (t.names i s e)

    keyed : Keyed num Stands cells
    keyed = record {
      numbers = λ i k n h e. t.numbers i n (h.0 ∙ on k.key n e);
      names = λ i k h e. go i k.key e h.0 h.1;
      one = λ i j k h g. t.one i j k.key h.0 g.0 h.1 g.1;
      fits = λ k n e. fit k.key n e k.proper;
    }
      where
        on : (k : Key) (n : ℤ) → number_of k ≡ some n → some k ≡ some (keys.number n)
        on (keys.number z) n e = let f : z ≡ n = cc in cc
        on (name s) n e = let z : ◌≡◌ {A = ℕ} 0 1 = cc in absurd (omega arith)

        go : (i : ℕ) (k : Key) → number_of k ≡ none → key i ≡ some k → (constant_at cells i ≡ Large → ⊥) → constant_at cells i ≡ Name
        go i (keys.number z) e f n = let y : ◌≡◌ {A = ℕ} 0 1 = cc in absurd (omega arith)
        go i (name s) e f n = kept_name i s f n

        fit : (k : Key) (n : ℤ) → number_of k ≡ some n → ProperKey k → Number n
        fit (keys.number z) n e p = let f : z ≡ n = cc in subst Number f p
        fit (name s) n e p = let y : ◌≡◌ {A = ℕ} 0 1 = cc in absurd (omega arith)

    pub meet_lies : (u v : Value) → Searchable u.values → Searchable v.values → (k : Key) → ProperKey k → Lies key cells u k → Lies key cells v k →
        Ensures (λ w. Lies key cells w k) (meet cells u v)
    meet_lies u v su sv k p a b =
        weaken (λ w. from_in k p w) (members.meet_in num Stands cells keyed u v su sv (with_proper k p) (to_in k p u a) (to_in k p v b))

    pub refine_lies : (v : Value) → Searchable v.values → (i : Interval) (n : ℤ) → Number n → cousot i ∋ n → Lies key cells v (keys.number n) →
        Ensures (λ w. Lies key cells w (keys.number n)) (refine cells v i)
    refine_lies v s i n p m h =
        weaken (λ w. from_in (keys.number n) p w)
        (members.refine_in num Stands cells keyed v s i (with_proper (keys.number n) p) n refl m (to_in (keys.number n) p v h))

    -- the value of a constant has its key, retained or not
    pub constant_lies : (i width : ℕ) (k : Key) → key i ≡ some k → Ensures (λ w. Lies key cells w k) (constant i (constant_at cells i) width)
    constant_lies i width k e = go (constant_at cells i) refl
      where
        p : ProperKey k
        p = t.proper i k e

        kept : (constant_at cells i ≡ Large → ⊥) → Ensures (λ w. Lies key cells w k) (constant i (constant_at cells i) width)
        kept n = weaken (λ w. from_in k p w) (members.constant_in num Stands cells keyed i width (with_proper k p) (e, n))

        unnamed : (k : Key) → key i ≡ some k → constant_at cells i ≡ Large → number_of k ≡ none
        unnamed (keys.number z) f c = let g : number z ≡ Large = sym (t.numbers i z f) ∙ c in let y : ◌≡◌ {A = ℕ} 0 1 = cc in absurd (omega arith)
        unnamed (name s) f c = refl

        go : (c : Constant) → constant_at cells i ≡ c → Ensures (λ w. Lies key cells w k) (constant i (constant_at cells i) width)
        go (number z) c = kept (λ f. let g : number z ≡ Large = sym c ∙ f in let y : ◌≡◌ {A = ℕ} 0 1 = cc in omega arith)
        go Name c = kept (λ f. let g : Name ≡ Large = sym c ∙ f in let y : ◌≡◌ {A = ℕ} 0 1 = cc in omega arith)
        go Large c =
            subst (λ (d : Constant). Ensures (λ w. Lies key cells w k) (constant i d width)) (sym c)
            (weaken (λ w. from_in k p w) (members.large_in num Stands i width (with_proper k p) (unnamed k e c)))
