-- The values that the engine makes: a row holds them exactly, and their lists are in order.
use Prim.Native.Nat.{ℕ, ◌≤◌, ◌<◌, ◌^◌}
use native.Mathlib.Omega.{arith}
use native.Mathlib.Nat.{min-le_right}
use mathlib.Core.List.{List, [], ◌∷◌}
use mathlib.Core.Option.{Option, some, none}
use borrow.Author.Tests.{leb-true}
use lib.Dec.{leb, ltb}
use lib.ListN.{length}
use Rattle.integers.specs.Lists.{All}
use Rattle.integers.proofs.Tests.{by_cond}
use Rattle.limits.specs.Metered.{Metered}
use Rattle.limits.proofs.Monad.{Ensures, weaken, both}
use Rattle.interval.specs.declared.Interval.{Interval}
use Rattle.lists.specs.Lists.{mix, union}
use Rattle.lists.proofs.ListLaws.{room}
use Rattle.lattice.specs.Value.{Reason}
use Rattle.lattice.specs.Value.{Value}
use Rattle.lattice.specs.Constants.{constant_at}
use Rattle.lattice.specs.Lattice.{bottom, top, numeric, constant, copied, join, meet, refine}
use Rattle.lattice.proofs.Joins.{joined_list, join_is}
use Rattle.lattice.proofs.Tidiness.{Tidy, numeric_tidy, constant_tidy, copied_tidy, join_tidy, meet_tidy, refine_tidy}
use Rattle.rows.specs.WellFormed.{Proper, Short, WellFormed}
use Rattle.rows.proofs.Formed.{proper_hull, bottom_formed, top_formed, numeric_formed, constant_formed, copied_formed, meet_formed, refine_formed}

pub record Good (v : Value) : Type 0 where
  pub formed : WellFormed v
  pub tidy : Tidy v

module _ {E S : Type 0} where
  by_both : {m : Metered E S Value} → Ensures WellFormed m → Ensures Tidy m → Ensures Good m
  by_both f t = weaken (λ v h. record { formed = h.0; tidy = h.1 }) (both f t)

pub bottom_good : Good bottom
bottom_good = record { formed = bottom_formed; tidy = record { sorted = tt; small = omega arith } }

pub top_good : (r : Reason) → Good (top r)
top_good r = record { formed = top_formed r; tidy = record { sorted = tt; small = tt } }

pub numeric_good : (i : Interval) → Proper i → Good (numeric i)
numeric_good i p = record { formed = numeric_formed i p; tidy = numeric_tidy i }

pub copied_good : (v : Value) → Good v → Ensures Good (copied v)
copied_good v g = by_both (copied_formed v g.formed) (copied_tidy v g.tidy)

module _ (cs : List ℕ) (small : All (λ n. n < 2 ^ 32) cs) where
  pub constant_good : (id width : ℕ) → id < 2 ^ 16 → Ensures Good (constant id (constant_at cs id) width)
  constant_good id width h = by_both (constant_formed cs small id width h) (constant_tidy id (constant_at cs id) width)

  pub meet_good : (u v : Value) → Good u → Good v → Ensures Good (meet cs u v)
  meet_good u v g h = by_both (meet_formed cs small u v g.formed h.formed) (meet_tidy cs u v g.tidy h.tidy)

  pub refine_good : (v : Value) (i : Interval) → Good v → Proper i → Ensures Good (refine cs v i)
  refine_good v i g p = by_both (refine_formed cs small v i g.formed p) (refine_tidy cs v i g.tidy)

-- ---- joins

all_mix : (P : ℕ → Type 0) (x : ℕ) (rest : List ℕ → List ℕ) → P x → ((ys : List ℕ) → All P ys → All P (rest ys)) → (ys : List ℕ) → All P ys → All P (mix x rest ys)
all_mix P x rest p r [] q = (p, r [] tt)
all_mix P x rest p r (y ∷ ys) q =
    by_cond (All P) (ltb x y) (λ _. (p, r (y ∷ ys) q)) (λ _. by_cond (All P) (ltb y x) (λ _. (q.0, all_mix P x rest p r ys q.1)) (λ _. (p, r ys q.1)))

pub all_union : (P : ℕ → Type 0) (xs ys : List ℕ) → All P xs → All P ys → All P (union xs ys)
all_union P [] ys p q = q
all_union P (x ∷ xs) ys p q = all_mix P x (union xs) p.0 (λ zs r. all_union P xs zs p.1 r) ys q

joined_short : (width : ℕ) (x y : Option (List ℕ)) → Short x → Short y → Short (joined_list width x y)
joined_short width none y p q = tt
joined_short width (some x) none p q = tt
joined_short width (some x) (some y) p q =
    by_cond Short (leb (length (union x y)) (room width))
    (λ e.
    let f : length (union x y) ≤ room width = leb-true (length (union x y)) (room width) e in
    let g = min-le_right width 16 in
    (omega arith, all_union (λ n. n < 2 ^ 16) x y p.1 q.1))
    (λ _. tt)

join_formed : (width : ℕ) (u v : Value) → WellFormed u → WellFormed v → Ensures WellFormed (join width u v)
join_formed width u v f g =
    weaken (λ w e. rw e record { interval = proper_hull u.bound.interval v.bound.interval f.interval g.interval; list = joined_short width u.values v.values f.list g.list }) (join_is width u v)

pub join_good : (width : ℕ) (u v : Value) → Good u → Good v → Ensures Good (join width u v)
join_good width u v g h = by_both (join_formed width u v g.formed h.formed) (join_tidy width u v g.tidy h.tidy)
