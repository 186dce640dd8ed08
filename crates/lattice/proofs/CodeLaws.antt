-- What the code's answers are, over plain variables: one law for each way out of a function.
use Prim.Native.Nat.{ℕ, zero, suc, ◌≤◌}
use native.Mathlib.Omega.{arith}
use mathlib.Core.Path.{◌≡◌, refl, sym, ◌∙◌}
use mathlib.Core.Bool.{Bool, true, false, ◌&&◌}
use mathlib.Core.List.{List, [], ◌∷◌}
use mathlib.Core.Option.{Option, some, none}
use borrow.Author.Tests.{ne_eqb, le-leb, lt-leb}
use lib.ListN.{length}
use Rattle.std.specs.Prelude.{Some, None}
use Rattle.std.specs.Option.{option_or}
use Rattle.limits.specs.declared.Stop.{Stop}
use Rattle.limits.specs.Metered.{Run, going, stopped}
use Rattle.limits.specs.declared.Meter.{Meter}
use Rattle.limits.specs.Meter.{work, retain, holding}
use Rattle.limits.proofs.Monad.{bind_stop, bind_on, then_stop, then_on, pure_is, yes_on, no_on}
use Rattle.interval.specs.declared.Bound.{Bound}
use Rattle.interval.specs.declared.Constant.{Constant}
use Rattle.interval.specs.declared.Constant.TheVariants.{Large}
use Rattle.interval.specs.Bound.{constant_bound, hull_bound, meet_bound, same_bound, allows_of}
use Rattle.lists.specs.Lists.{union, push, retain_all, collect, permits}
use Rattle.lattice.specs.declared.Widening.TheVariants.{SymbolSize, ValueWidth}
use Rattle.lattice.specs.Value.{Value, value, Reason}
use Rattle.lattice.specs.Constants.{constant_at}
use Rattle.lattice.specs.Lattice.{retained, constant, copied, same_lists, same, first_reason, join_lists, join, permitted, keep_one, sift, reduce, source, meet_lists, bare_meet, meet}

-- the first reason that there is, by std's word
pub first_is : (x y : Reason) {r : Reason} → r ≡ option_or x y → r ≡ first_reason x y
first_is None y e = e
first_is (Some w) y e = e

-- ---- a constant

positive : (n : ℕ) → (n ≡ 0 → ⊥) → 1 ≤ n
positive zero d = absurd (d refl)
positive (suc n) d = omega arith

module _ (id : ℕ) (b : Bound) (width : ℕ) (m : Meter) where
  pub retained_none : {v : Value} → width ≡ 0 → v ≡ value b none (Some ValueWidth) → going v m ≡ retained id b width m
  retained_none z p = rw p (no_on _ _ _ (lt-leb 1 width (omega arith)) (pure_is _ _))

  module _ (z : width ≡ 0 → ⊥) {m' : Meter} where
    pub retained_stopped : {s : Stop} → stopped s m' ≡ retain 1 m → stopped s m' ≡ retained id b width m
    retained_stopped h = yes_on _ _ _ (le-leb 1 width (positive width z)) (then_stop _ _ _ h)

    pub retained_one : {v : Value} {l : List ℕ} → going tt m' ≡ retain 1 m → l ≡ id ∷ [] → v ≡ value b (some l) None → going v m' ≡ retained id b width m
    retained_one h q p = rw (p, q) (yes_on _ _ _ (le-leb 1 width (positive width z)) (then_on _ _ _ h (pure_is _ _)))

pub constant_large : (id width : ℕ) (m : Meter) {c : Constant} {b : Bound} {v : Value} → c ≡ Large → b ≡ constant_bound c → v ≡ value b none (Some SymbolSize) → going v m ≡ constant id c width m
constant_large id width m p q k = rw (k, q, p) (pure_is _ _)

-- ---- a copy

module _ (v : Value) (m : Meter) {m' : Meter} where
  pub copied_stopped : {s : Stop} → stopped s m' ≡ work 1 m → stopped s m' ≡ copied v m
  unfolding copied
  copied_stopped h = then_stop _ _ _ h

  module _ (h : going tt m' ≡ work 1 m) where
    pub copied_none : none ≡ v.values → going v m' ≡ copied v m
    unfolding copied
    copied_none p = then_on _ _ _ h (rw (← p) (then_on _ _ _ (pure_is tt _) (pure_is _ _)))

    module _ {l : List ℕ} (p : some l ≡ v.values) {m₁ : Meter} where
      pub list_stopped : {s : Stop} → stopped s m₁ ≡ work (length l) m' → stopped s m₁ ≡ copied v m
      unfolding copied
      list_stopped k = then_on _ _ _ h (rw (← p) (then_stop _ _ _ (then_stop _ _ _ k)))

      module _ (k : going tt m₁ ≡ work (length l) m') {m₂ : Meter} where
        pub entries_stopped : {s : Stop} → stopped s m₂ ≡ retain_all 0 (length l) m₁ → stopped s m₂ ≡ copied v m
        unfolding copied
        entries_stopped q = then_on _ _ _ h (rw (← p) (then_stop _ _ _ (then_on _ _ _ k q)))

        pub list_copied : going tt m₂ ≡ retain_all 0 (length l) m₁ → going v m₂ ≡ copied v m
        unfolding copied
        list_copied q = then_on _ _ _ h (rw (← p) (then_on _ _ _ (then_on _ _ _ k q) (pure_is _ _)))

-- ---- what is permitted

pub permits_none : (o : Option (List ℕ)) (id : ℕ) (m : Meter) → none ≡ o → going true m ≡ permits o id m
permits_none o id m p = rw (← p) (pure_is _ _)

module _ (u v : Value) (i : ℕ) (m : Meter) {m' : Meter} where
  pub both_stopped : {s : Stop} → stopped s m' ≡ permits u.values i m → stopped s m' ≡ permitted u v i m
  unfolding permitted
  both_stopped h = bind_stop _ _ _ h

  pub both_no : going false m' ≡ permits u.values i m → going false m' ≡ permitted u v i m
  unfolding permitted
  both_no h = bind_on _ _ _ h (pure_is _ _)

  pub both_yes : {x : Run Stop Meter Bool} → going true m' ≡ permits u.values i m → x ≡ permits v.values i m' → x ≡ permitted u v i m
  unfolding permitted
  both_yes h k = bind_on _ _ _ h k

-- ---- whether two values are the same

module _ (u v : Value) (m : Meter) {m' : Meter} where
  pub same_stopped : {s : Stop} → stopped s m' ≡ work 1 m → stopped s m' ≡ same u v m
  unfolding same
  same_stopped h = then_stop _ _ _ h

  module _ (h : going tt m' ≡ work 1 m) {t : Bool} (q : t ≡ same_bound u.bound v.bound) where
    pub same_bounds : {x : Run Stop Meter Bool} → t ≡ true → x ≡ same_lists u.values v.values m' → x ≡ same u v m
    unfolding same
    same_bounds p k = then_on _ _ _ h (yes_on _ _ _ (sym q ∙ p) k)

    pub other_bounds : t ≡ false → going false m' ≡ same u v m
    unfolding same
    other_bounds p = then_on _ _ _ h (no_on _ _ _ (sym q ∙ p) (pure_is _ _))

module _ (x y : Option (List ℕ)) (m : Meter) where
  pub lengths_other : {l r : List ℕ} → some l ≡ x → some r ≡ y → (length l ≡ length r → ⊥) → going false m ≡ same_lists x y m
  lengths_other {l} {r} p q k = rw (← p, ← q, ne_eqb (length l) (length r) k) (pure_is _ _)

  pub left_only : {l : List ℕ} → some l ≡ x → none ≡ y → going false m ≡ same_lists x y m
  left_only p q = rw (← p, ← q) (pure_is _ _)

  pub right_only : {r : List ℕ} → none ≡ x → some r ≡ y → going false m ≡ same_lists x y m
  right_only p q = rw (← p, ← q) (pure_is _ _)

  pub no_lists : none ≡ x → none ≡ y → going true m ≡ same_lists x y m
  no_lists p q = rw (← p, ← q) (pure_is _ _)

-- ---- join

module _ (width : ℕ) (b : Bound) (r : Reason) (x y : List ℕ) (m : Meter) {m' : Meter} where
  pub lists_stopped : {s : Stop} → stopped s m' ≡ collect width [] (union x y) m → stopped s m' ≡ join_lists width b r (some x) (some y) m
  lists_stopped h = bind_stop _ _ _ h

  pub lists_lost : {v : Value} {r' : Reason} → going none m' ≡ collect width [] (union x y) m → v ≡ value b none r' → r' ≡ first_reason r (Some ValueWidth) → going v m' ≡ join_lists width b r (some x) (some y) m
  lists_lost h p q = rw (p, q) (bind_on _ _ _ h (pure_is _ _))

  pub lists_kept : {v : Value} {l : List ℕ} → going (some l) m' ≡ collect width [] (union x y) m → v ≡ value b (some l) r → going v m' ≡ join_lists width b r (some x) (some y) m
  lists_kept h p = rw p (bind_on _ _ _ h (pure_is _ _))

module _ (width : ℕ) (u v : Value) (m : Meter) {m' : Meter} where
  pub join_stopped : {s : Stop} → stopped s m' ≡ work 1 m → stopped s m' ≡ join width u v m
  unfolding join
  join_stopped h = then_stop _ _ _ h

  module _ (h : going tt m' ≡ work 1 m) {b : Bound} (eb : b ≡ hull_bound u.bound v.bound) {r : Reason} (er : r ≡ first_reason u.widening v.widening) where
    pub join_left : {w : Value} → none ≡ u.values → w ≡ value b none r → going w m' ≡ join width u v m
    unfolding join
    join_left p k = then_on _ _ _ h (rw (← p, k, eb, er) (pure_is _ _))

    pub join_right : {w : Value} {l : List ℕ} → some l ≡ u.values → none ≡ v.values → w ≡ value b none r → going w m' ≡ join width u v m
    unfolding join
    join_right p q k = then_on _ _ _ h (rw (← p, ← q, k, eb, er) (pure_is _ _))

    pub join_on : {x y : List ℕ} {z : Run Stop Meter Value} → some x ≡ u.values → some y ≡ v.values → z ≡ join_lists width b r (some x) (some y) m' → z ≡ join width u v m
    unfolding join
    join_on p q k = then_on _ _ _ h (k ∙ rw (← p, ← q, eb, er))

-- ---- meet

-- whether an id stays, by what the code asks
module _ (b : Bound) (k : Constant) {t : Bool} {c : Constant} (e : c ≡ k) where
  pub stays : t ≡ true → true ≡ allows_of b c → t && allows_of b k ≡ true
  stays p q = rw (p, ← e) (sym q)

  pub outside : t ≡ true → false ≡ allows_of b c → t && allows_of b k ≡ false
  outside p q = rw (p, ← e) (sym q)

pub unasked : (b : Bound) (k : Constant) {t : Bool} → t ≡ false → t && allows_of b k ≡ false
unasked b k p = rw p

module _ (u v : Value) (b : Bound) (cs : List ℕ) (held i : ℕ) (m : Meter) {m₁ : Meter} where
  pub keep_stopped : {s : Stop} → stopped s m₁ ≡ holding held (work 1) m → stopped s m₁ ≡ keep_one u v b cs held i m
  unfolding keep_one
  keep_stopped h = then_stop _ _ _ h

  module _ (h : going tt m₁ ≡ holding held (work 1) m) {m₂ : Meter} where
    pub asked_stopped : {s : Stop} → stopped s m₂ ≡ holding held (permitted u v i) m₁ → stopped s m₂ ≡ keep_one u v b cs held i m
    unfolding keep_one
    asked_stopped k = then_on _ _ _ h (bind_stop _ _ _ k)

    module _ {t : Bool} (k : going t m₂ ≡ holding held (permitted u v i) m₁) where
      pub keep_left : t && allows_of b (constant_at cs i) ≡ false → going false m₂ ≡ keep_one u v b cs held i m
      unfolding keep_one
      keep_left z = then_on _ _ _ h (bind_on _ _ _ k (no_on {t = t && allows_of b (constant_at cs i)} _ _ _ z (pure_is _ _)))

      module _ (z : t && allows_of b (constant_at cs i) ≡ true) {m₃ : Meter} where
        pub keep_full : {s : Stop} → stopped s m₃ ≡ push held m₂ → stopped s m₃ ≡ keep_one u v b cs held i m
        unfolding keep_one
        keep_full g = then_on _ _ _ h (bind_on _ _ _ k (yes_on {t = t && allows_of b (constant_at cs i)} _ _ _ z (then_stop _ _ _ g)))

        pub keep_taken : going tt m₃ ≡ push held m₂ → going true m₃ ≡ keep_one u v b cs held i m
        unfolding keep_one
        keep_taken g = then_on _ _ _ h (bind_on _ _ _ k (yes_on {t = t && allows_of b (constant_at cs i)} _ _ _ z (then_on _ _ _ g (pure_is _ _))))

module _ (u v : Value) (b : Bound) (cs l : List ℕ) (m : Meter) {m' : Meter} where
  pub sift_stopped : {s : Stop} → stopped s m' ≡ sift u v b cs [] l m → stopped s m' ≡ meet_lists u v b cs (some l) m
  sift_stopped h = bind_stop _ _ _ h

  module _ {kept : List ℕ} (h : going kept m' ≡ sift u v b cs [] l m) {m'' : Meter} where
    pub reduce_stopped : {s : Stop} → stopped s m'' ≡ reduce b cs kept m' → stopped s m'' ≡ meet_lists u v b cs (some l) m
    reduce_stopped k = bind_on _ _ _ h (bind_stop _ _ _ k)

    pub list_met : {b' : Bound} {w : Value} → going b' m'' ≡ reduce b cs kept m' → w ≡ value b' (some kept) None → going w m'' ≡ meet_lists u v b cs (some l) m
    list_met k p = rw p (bind_on _ _ _ h (bind_on _ _ _ k (pure_is _ _)))

module _ (cs : List ℕ) (u v : Value) (m : Meter) {m' : Meter} where
  pub meet_stopped : {s : Stop} → stopped s m' ≡ work 1 m → stopped s m' ≡ meet cs u v m
  unfolding meet
  meet_stopped h = then_stop _ _ _ h

  module _ {b : Bound} (h : going tt m' ≡ work 1 m) (eb : b ≡ meet_bound u.bound v.bound) where
    pub meet_through : {l : List ℕ} {z : Run Stop Meter Value} → some l ≡ source u.values v.values → z ≡ meet_lists u v b cs (some l) m' → z ≡ meet cs u v m
    unfolding meet
    meet_through p k = then_on _ _ _ h (k ∙ rw (eb, ← p))

    pub meet_without : {w : Value} → none ≡ source u.values v.values → w ≡ bare_meet u v b → going w m' ≡ meet cs u v m
    unfolding meet
    meet_without p k = then_on _ _ _ h (rw (← p, k, eb) (pure_is _ _))
