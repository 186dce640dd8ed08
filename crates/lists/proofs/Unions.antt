-- The union of two strictly increasing lists is strictly increasing, and has what either has: for lists of any length, so for every width.
use Prim.Native.Nat.{ℕ, ◌<◌}
use native.Mathlib.Omega.{arith}
use mathlib.Core.Path.{◌≡◌}
use mathlib.Core.Logic.{◌↔◌, ◌⊎◌, inl, inr, ⊎_elim}
use mathlib.Core.List.Memᴰ
use mathlib.Core.List.{List, [], ◌∷◌, Memᴰ}
use borrow.Author.Tests.{lt-ltb, le-ltb}
use Rattle.integers.specs.Lists.{Above, Increasing}
use Rattle.integers.proofs.ListLaws.{Compared, less, more, same, compared}
use Rattle.lists.specs.Lists.{mix, union}

-- ---- membership

module _ (n : ℕ) where
  -- in x ∷ xs, by cases
  in_cons : {B : Type 0} {x : ℕ} {xs : List ℕ} → (n ≡ x → B) → (Memᴰ n xs → B) → Memᴰ n (x ∷ xs) → B
  in_cons f g m = ⊎_elim f g (Memᴰ.cases_cons m)

  module _ (x : ℕ) (xs : List ℕ) where
    mix_to : ((ys : List ℕ) → Memᴰ n (union xs ys) → Memᴰ n xs ⊎ Memᴰ n ys) →
        (ys : List ℕ) → Memᴰ n (mix x (union xs) ys) → Memᴰ n (x ∷ xs) ⊎ Memᴰ n ys
    mix_to ih [] m = in_cons (λ e. inl (Memᴰ.head e)) (λ k. ⊎_elim (λ h. inl (Memᴰ.tail h)) (λ h. inr h) (ih [] k)) m
    mix_to ih (y ∷ ys) m = go (compared x y) (mix_to ih ys) m
      where
        from_x : (zs : List ℕ) → (Memᴰ n zs → Memᴰ n (y ∷ ys)) → Memᴰ n (x ∷ union xs zs) → Memᴰ n (x ∷ xs) ⊎ Memᴰ n (y ∷ ys)
        from_x zs f k = in_cons (λ e. inl (Memᴰ.head e)) (λ k. ⊎_elim (λ h. inl (Memᴰ.tail h)) (λ h. inr (f h)) (ih zs k)) k

        go : Compared x y → (Memᴰ n (mix x (union xs) ys) → Memᴰ n (x ∷ xs) ⊎ Memᴰ n ys) →
            Memᴰ n (mix x (union xs) (y ∷ ys)) → Memᴰ n (x ∷ xs) ⊎ Memᴰ n (y ∷ ys)
        go (less h) rec k = from_x (y ∷ ys) (λ h. h) (rw (lt-ltb x y h) at k)
        go (more h) rec k =
            in_cons (λ e. inr (Memᴰ.head e)) (λ k. ⊎_elim (λ h. inl h) (λ h. inr (Memᴰ.tail h)) (rec k))
            (rw (le-ltb x y (omega arith), lt-ltb y x h) at k)
        go (same h) rec k = from_x ys (λ h. Memᴰ.tail h) (rw (le-ltb x y (omega arith), le-ltb y x (omega arith)) at k)

    mix_from : ((ys : List ℕ) → Memᴰ n xs ⊎ Memᴰ n ys → Memᴰ n (union xs ys)) →
        (ys : List ℕ) → Memᴰ n (x ∷ xs) ⊎ Memᴰ n ys → Memᴰ n (mix x (union xs) ys)
    mix_from ih [] m = ⊎_elim (in_cons (λ e. Memᴰ.head e) (λ h. Memᴰ.tail (ih [] (inl h)))) (λ k. Memᴰ.tail (ih [] (inr k))) m
    mix_from ih (y ∷ ys) m = go (compared x y) (mix_from ih ys)
      where
        go : Compared x y → (Memᴰ n (x ∷ xs) ⊎ Memᴰ n ys → Memᴰ n (mix x (union xs) ys)) → Memᴰ n (mix x (union xs) (y ∷ ys))
        go (less h) rec =
            rw (lt-ltb x y h)
            (⊎_elim (in_cons (λ e. Memᴰ.head e) (λ q. Memᴰ.tail (ih (y ∷ ys) (inl q)))) (λ k. Memᴰ.tail (ih (y ∷ ys) (inr k))) m)
        go (more h) rec =
            rw (le-ltb x y (omega arith), lt-ltb y x h)
            (⊎_elim (λ k. Memᴰ.tail (rec (inl k))) (in_cons (λ e. Memᴰ.head e) (λ q. Memᴰ.tail (rec (inr q)))) m)
        go (same h) rec =
            rw (le-ltb x y (omega arith), le-ltb y x (omega arith))
            (⊎_elim (in_cons (λ e. Memᴰ.head e) (λ q. Memᴰ.tail (ih ys (inl q))))
            (in_cons (λ (e : n ≡ y). Memᴰ.head (omega arith)) (λ q. Memᴰ.tail (ih ys (inr q)))) m)

  union_to : (xs ys : List ℕ) → Memᴰ n (union xs ys) → Memᴰ n xs ⊎ Memᴰ n ys
  union_to [] ys m = inr m
  union_to (x ∷ xs) ys m = mix_to x xs (union_to xs) ys m

  union_from : (xs ys : List ℕ) → Memᴰ n xs ⊎ Memᴰ n ys → Memᴰ n (union xs ys)
  union_from [] ys m = ⊎_elim (λ k. absurd (mathlib.Core.List.Memᴰ.not-nil k)) (λ k. k) m
  union_from (x ∷ xs) ys m = mix_from x xs (union_from xs) ys m

pub union_in : (n : ℕ) (xs ys : List ℕ) → Memᴰ n (union xs ys) ↔ (Memᴰ n xs ⊎ Memᴰ n ys)
union_in n xs ys = (union_to n xs ys, union_from n xs ys)

-- ---- order

module _ (x : ℕ) (xs : List ℕ) where
  mix_above : ((z : ℕ) (ys : List ℕ) → Above z xs → Above z ys → Above z (union xs ys)) → Above x xs →
      (z : ℕ) (ys : List ℕ) → z < x → Above z ys → Above z (mix x (union xs) ys)
  mix_above ih ax z [] h k = (h, ih x [] ax tt)
  mix_above ih ax z (y ∷ ys) h k = go (compared x y) (λ w. mix_above ih ax y ys w k.1)
    where
      go : Compared x y → (y < x → Above y (mix x (union xs) ys)) → Above z (mix x (union xs) (y ∷ ys))
      go (less p) rec = rw (lt-ltb x y p) (h, ih x (y ∷ ys) ax (p, k.1))
      go (more p) rec = rw (le-ltb x y (omega arith), lt-ltb y x p) (k.0, rec p)
      go (same p) rec = rw (le-ltb x y (omega arith), le-ltb y x (omega arith)) (h, ih x ys ax (rw p k.1))

union_above : (xs : List ℕ) (z : ℕ) (ys : List ℕ) → Above z xs → Above z ys → Above z (union xs ys)
union_above [] z ys p q = q
union_above (x ∷ xs) z ys p q = mix_above x xs (union_above xs) p.1 z ys p.0 q

pub union_increasing : (xs ys : List ℕ) → Increasing xs → Increasing ys → Increasing (union xs ys)
union_increasing [] ys p q = q
union_increasing (x ∷ xs) [] p q = union_above xs x [] p tt
union_increasing (x ∷ xs) (y ∷ ys) p q = go (compared x y)
  where
    go : Compared x y → Increasing (mix x (union xs) (y ∷ ys))
    go (less h) = rw (lt-ltb x y h) (union_above xs x (y ∷ ys) p (h, q))
    go (more h) = rw (le-ltb x y (omega arith), lt-ltb y x h) (mix_above x xs (union_above xs) p y ys h q)
    go (same h) = rw (le-ltb x y (omega arith), le-ltb y x (omega arith)) (union_above xs x ys p (rw h q))
