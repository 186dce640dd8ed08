-- A word is read as n exactly if it is zeros and the decimal of n, behind a minus or none.
use Prim.Native.Nat.{ℕ, zero, suc, ◌+◌, ◌-◌, ◌*◌, ◌/◌, ◌%◌, ◌^◌, ◌<◌, ◌≤◌}
use native.Mathlib.Omega.{arith}
use mathlib.Core.Path.{◌≡◌, refl, sym, ap, ◌∙◌}
use mathlib.Core.Bool.{Bool, true, false, cond}
use mathlib.Core.List.{List, [], ◌∷◌, ◌++◌, append-nil, append_assoc}
use borrow.Author.Tests.{ltb-true, ltb-false, lt-ltb, le-leb, leb-true, eqb-true}
use lib.Dec.{leb, ltb, eqb}
use lib.ListN.{replicate}
use Rattle.std.proofs.Common.{◌⊎◌, inl, inr}
use Rattle.std.proofs.lemmas.List.Sums.{fold-append}
use Rattle.std.specs.Prelude.{Option, Some, None, fold}
use Rattle.text.specs.Text.{decimal}
use Rattle.text.proofs.Decimals.{decimal_one, decimal_more}
use Rattle.words.specs.declared.Word.{Word}
use Rattle.words.specs.Words.{started, minus, so_far, told_so_far, with_digit, first, pushed, onward, read}
use Rattle.words.specs.Written.{Written}
use Rattle.words.proofs.Parts.{read_none, read_more, read_broken, stays_none}

-- a word in two parts is the word, and no word goes on behind a part that none begins with
pub read_then : (w v : Word) (k l : List ℕ) → read w k ≡ Some v → read w (k ++ l) ≡ read v l
unfolding read
read_then w v k l e = fold-append onward (Some w) k l ∙ ap (λ (o : Option Word). fold onward o l) e

pub none_then : (w : Word) (k l : List ℕ) → read w k ≡ None → read w (k ++ l) ≡ None
unfolding read
none_then w k l e = fold-append onward (Some w) k l ∙ (ap (λ (o : Option Word). fold onward o l) e ∙ stays_none l)

-- ---- one digit

module _ (g : Bool) (v : Option ℕ) where
  push_digit : (d n : ℕ) → d < 10 → 10 * told_so_far v + d ≡ n → n < 2 ^ 64 → pushed (record { negative = g; value = v }) (48 + d) ≡ Some (so_far g n)
  push_digit d n h e k =
      let s : (48 + d) - 48 ≡ d = omega arith in
      rw (le-leb 48 (48 + d) (omega arith), le-leb (48 + d) 57 (omega arith), s, e, lt-ltb n (2 ^ 64) k)

  -- and backwards: what was pushed
  record Digit (b : ℕ) (x : Word) : Type 0 where
    d : ℕ
    byte : b ≡ 48 + d
    small : d < 10
    now : x ≡ so_far g (10 * told_so_far v + d)

  record Minus (b : ℕ) (x : Word) : Type 0 where
    byte : b ≡ 45
    plain : g ≡ false
    none : v ≡ None
    now : x ≡ minus

  digit_only : (b : ℕ) (x : Word) → 48 ≤ b → b ≤ 57 → with_digit (record { negative = g; value = v }) (b - 48) ≡ Some x → Digit b x
  digit_only b x h k e = go (ltb (10 * told_so_far v + (b - 48)) (2 ^ 64)) refl
    where
      go : (t : Bool) → ltb (10 * told_so_far v + (b - 48)) (2 ^ 64) ≡ t → Digit b x
      go true q = let p = rw q at e in record { d = b - 48; byte = omega arith; small = omega arith; now = cc }
      go false q = let p = rw q at e in cc

  minus_only : (b : ℕ) (x : Word) → b ≡ 45 → cond (first (record { negative = g; value = v })) (Some minus) None ≡ Some x → Minus b x
  minus_only b x h e = go g v refl refl e
    where
      go : (t : Bool) (o : Option ℕ) → g ≡ t → v ≡ o → cond (first (record { negative = t; value = o })) (Some minus) None ≡ Some x → Minus b x
      go false None p q r = record { byte = h; plain = p; none = q; now = cc }
      go true None p q r = cc
      go false (Some n) p q r = cc
      go true (Some n) p q r = cc

  push_only : (b : ℕ) (x : Word) → pushed (record { negative = g; value = v }) b ≡ Some x → Digit b x ⊎ Minus b x
  push_only b x e = go (leb 48 b) (leb b 57) (eqb b 45) refl refl refl
    where
      go : (t u s : Bool) → leb 48 b ≡ t → leb b 57 ≡ u → eqb b 45 ≡ s → Digit b x ⊎ Minus b x
      go true true s p q r = let k = rw (p, q) at e in inl (digit_only b x (leb-true 48 b p) (leb-true b 57 q) k)
      go true false true p q r = let k = rw (p, q, r) at e in inr (minus_only b x (eqb-true b 45 r) k)
      go true false false p q r = let k = rw (p, q, r) at e in cc
      go false u true p q r = let k = rw (p, r) at e in inr (minus_only b x (eqb-true b 45 r) k)
      go false u false p q r = let k = rw (p, r) at e in cc

-- ---- the words of n are read as n

-- its decimal, behind nothing or zeros
decimal_in : (m n : ℕ) (g : Bool) (v : Option ℕ) → n < m → told_so_far v ≡ 0 → n < 2 ^ 64 → read (record { negative = g; value = v }) (decimal n) ≡ Some (so_far g n)
decimal_in zero n g v h z k = absurd (omega arith)
decimal_in (suc m) n g v h z k = go (ltb n 10) refl (λ p. decimal_in m (n / 10) g v p z (omega arith))
  where
    go : (t : Bool) → ltb n 10 ≡ t → (n / 10 < m → read (record { negative = g; value = v }) (decimal (n / 10)) ≡ Some (so_far g (n / 10))) →
        read (record { negative = g; value = v }) (decimal n) ≡ Some (so_far g n)
    go true e r =
        let d = ltb-true n 10 e in
        rw (decimal_one n d) (read_more (record { negative = g; value = v }) (48 + n) [] (push_digit g v n n d (omega arith) k) ∙ read_none (so_far g n))
    go false e r =
        let d = ltb-false n 10 e in
        rw (decimal_more n d)
        (read_then (record { negative = g; value = v }) (so_far g (n / 10)) (decimal (n / 10)) ((48 + n % 10) ∷ []) (r (omega arith)) ∙
        (read_more (so_far g (n / 10)) (48 + n % 10) [] (push_digit g (Some (n / 10)) (n % 10) n (omega arith) (omega arith) k) ∙ read_none (so_far g n)))

zeros_in : (g : Bool) (z : ℕ) → read (so_far g 0) (replicate z 48) ≡ Some (so_far g 0)
zeros_in g zero = read_none (so_far g 0)
zeros_in g (suc z) = read_more (so_far g 0) 48 (replicate z 48) (push_digit g (Some 0) 0 0 (omega arith) refl (omega arith)) ∙ zeros_in g z

digits_in : (g : Bool) (z n : ℕ) → n < 2 ^ 64 → read (record { negative = g; value = None }) (replicate z 48 ++ decimal n) ≡ Some (so_far g n)
digits_in g zero n h = decimal_in (suc n) n g None (omega arith) refl h
digits_in g (suc z) n h =
    read_more (record { negative = g; value = None }) 48 (replicate z 48 ++ decimal n) (push_digit g None 0 0 (omega arith) refl (omega arith)) ∙
    (read_then (so_far g 0) (so_far g 0) (replicate z 48) (decimal n) (zeros_in g z) ∙ decimal_in (suc n) n g (Some 0) (omega arith) refl h)

pub written_in : (g : Bool) (n : ℕ) (l : List ℕ) → Written g n l → n < 2 ^ 64 → read started l ≡ Some (so_far g n)
written_in false n l w h = rw w.1 (digits_in false w.0 n h)
written_in true n l w h = rw w.1 (read_more started 45 (replicate w.0 48 ++ decimal n) refl ∙ digits_in true w.0 n h)

-- ---- and nothing else is

-- one word in two ways
same_word : (w v : Word) → Some w ≡ Some v → (v.negative ≡ w.negative) × (v.value ≡ w.value)
same_word w v e = let p : w ≡ v = cc in (sym (ap (λ (u : Word). u.negative) p), sym (ap (λ (u : Word). u.value) p))

last_read : (g f : Bool) (m n : ℕ) → read (so_far g m) [] ≡ Some (so_far f n) → (f ≡ g) × (n ≡ m)
last_read g f m n e =
    let p = same_word (so_far g m) (so_far f n) (sym (read_none (so_far g m)) ∙ e) in
    let q : Some n ≡ Some m = p.1 in
    (p.0, cc)

decimal_next : (m d : ℕ) → 1 ≤ m → d < 10 → decimal (10 * m + d) ≡ decimal m ++ ((48 + d) ∷ [])
decimal_next m d h k =
    let q : (10 * m + d) / 10 ≡ m = omega arith in
    let r : (10 * m + d) % 10 ≡ d = omega arith in
    rw (q, r) at (decimal_more (10 * m + d) (omega arith))

-- behind a number that is not 0
behind_some : (l : List ℕ) (g f : Bool) (m n : ℕ) → 1 ≤ m → read (so_far g m) l ≡ Some (so_far f n) → (f ≡ g) × (decimal n ≡ decimal m ++ l)
behind_some [] g f m n h e = let p = last_read g f m n e in (p.0, rw (append-nil, p.1))
behind_some (b ∷ l) g f m n h e = go (pushed (so_far g m) b) refl (λ x k q. behind_some l g f x n k q)
  where
    digit : (x : Word) → Digit g (Some m) b x → read x l ≡ Some (so_far f n) →
        ((y : ℕ) → 1 ≤ y → read (so_far g y) l ≡ Some (so_far f n) → (f ≡ g) × (decimal n ≡ decimal y ++ l)) → (f ≡ g) × (decimal n ≡ decimal m ++ (b ∷ l))
    digit x t q r =
        let k = r (10 * m + t.d) (omega arith) (rw t.now at q) in
        (k.0, k.1 ∙ (ap (λ (a : List ℕ). a ++ l) (decimal_next m t.d h t.small) ∙ (append_assoc (decimal m) ((48 + t.d) ∷ []) l ∙ ap (λ (c : ℕ). decimal m ++ (c ∷ l)) (sym t.byte))))

    go : (o : Option Word) → pushed (so_far g m) b ≡ o → ((x : ℕ) → 1 ≤ x → read (so_far g x) l ≡ Some (so_far f n) → (f ≡ g) × (decimal n ≡ decimal x ++ l)) →
        (f ≡ g) × (decimal n ≡ decimal m ++ (b ∷ l))
    go None p r = let q = sym (read_broken (so_far g m) b l p) ∙ e in cc
    go (Some x) p r =
        let q = sym (read_more (so_far g m) b l p) ∙ e in
        elim (push_only g (Some m) b x p) [ inl t ↦ digit x t q r | inr t ↦ cc (t.none) ]

-- zeros, and the decimal of n
abbrev Digits : ℕ → List ℕ → Type 0
Digits n l = (zeros : ℕ) × (l ≡ replicate zeros 48 ++ decimal n)

-- behind a first digit
behind_digit : (g f : Bool) (d n : ℕ) (l : List ℕ) → d < 10 → read (so_far g d) l ≡ Some (so_far f n) →
    (read (so_far g 0) l ≡ Some (so_far f n) → (f ≡ g) × Digits n (48 ∷ l)) → (f ≡ g) × Digits n ((48 + d) ∷ l)
behind_digit g f zero n l h e r = r e
behind_digit g f (suc d) n l h e r =
    let k = behind_some l g f (suc d) n (omega arith) e in
    (k.0, (0, sym (k.1 ∙ ap (λ (a : List ℕ). a ++ l) (decimal_one (suc d) h))))

-- behind zeros
behind_zero : (l : List ℕ) (g f : Bool) (n : ℕ) → read (so_far g 0) l ≡ Some (so_far f n) → (f ≡ g) × Digits n (48 ∷ l)
behind_zero [] g f n e = let p = last_read g f 0 n e in (p.0, (0, rw p.1 (sym (decimal_one 0 (omega arith)))))
behind_zero (b ∷ l) g f n e = go (pushed (so_far g 0) b) refl (λ q. behind_zero l g f n q)
  where
    one_more : (k : (f ≡ g) × Digits n (b ∷ l)) → (f ≡ g) × Digits n (48 ∷ b ∷ l)
    one_more k = (k.0, (suc k.1.0, ap (λ (a : List ℕ). 48 ∷ a) k.1.1))

    digit : (x : Word) → Digit g (Some 0) b x → read x l ≡ Some (so_far f n) → (read (so_far g 0) l ≡ Some (so_far f n) → (f ≡ g) × Digits n (48 ∷ l)) → (f ≡ g) × Digits n (b ∷ l)
    digit x t q r =
        let z : 10 * 0 + t.d ≡ t.d = omega arith in
        rw (sym t.byte) at (behind_digit g f t.d n l t.small (rw (t.now, z) at q) r)

    go : (o : Option Word) → pushed (so_far g 0) b ≡ o → (read (so_far g 0) l ≡ Some (so_far f n) → (f ≡ g) × Digits n (48 ∷ l)) → (f ≡ g) × Digits n (48 ∷ b ∷ l)
    go None p r = let q = sym (read_broken (so_far g 0) b l p) ∙ e in cc
    go (Some x) p r =
        let q = sym (read_more (so_far g 0) b l p) ∙ e in
        elim (push_only g (Some 0) b x p) [ inl t ↦ one_more (digit x t q r) | inr t ↦ cc (t.none) ]

-- behind a minus, or nothing
behind_none : (l : List ℕ) (g f : Bool) (n : ℕ) → read (record { negative = g; value = None }) l ≡ Some (so_far f n) →
    ((f ≡ g) × Digits n l) ⊎ ((g ≡ false) × ((f ≡ true) × Written true n l))
behind_none [] g f n e =
    let p = same_word (record { negative = g; value = None }) (so_far f n) (sym (read_none (record { negative = g; value = None })) ∙ e) in
    let q : Some n ≡ None = p.1 in
    absurd (cc)
behind_none (b ∷ l) g f n e = go (pushed (record { negative = g; value = None }) b) refl (λ q. behind_none l true f n q)
  where
    digit : (x : Word) → Digit g None b x → read x l ≡ Some (so_far f n) → (f ≡ g) × Digits n (b ∷ l)
    digit x t q =
        let z : 10 * 0 + t.d ≡ t.d = omega arith in
        rw (sym t.byte) at (behind_digit g f t.d n l t.small (rw (t.now, z) at q) (λ r. behind_zero l g f n r))

    sign : b ≡ 45 → ((f ≡ true) × Digits n l) ⊎ ((true ≡ false) × ((f ≡ true) × Written true n l)) → (f ≡ true) × Written true n (b ∷ l)
    sign k (inl r) = (r.0, (r.1.0, rw k (ap (λ (a : List ℕ). 45 ∷ a) r.1.1)))
    sign k (inr r) = let p = r.0 in cc

    go : (o : Option Word) → pushed (record { negative = g; value = None }) b ≡ o →
        (read minus l ≡ Some (so_far f n) → ((f ≡ true) × Digits n l) ⊎ ((true ≡ false) × ((f ≡ true) × Written true n l))) →
        ((f ≡ g) × Digits n (b ∷ l)) ⊎ ((g ≡ false) × ((f ≡ true) × Written true n (b ∷ l)))
    go None p r = let q = sym (read_broken (record { negative = g; value = None }) b l p) ∙ e in cc
    go (Some x) p r =
        let q = sym (read_more (record { negative = g; value = None }) b l p) ∙ e in
        elim (push_only g None b x p) [ inl t ↦ inl (digit x t q) | inr t ↦ inr (t.plain, sign t.byte (r (rw t.now at q))) ]

pub written_only : (g : Bool) (n : ℕ) (l : List ℕ) → read started l ≡ Some (so_far g n) → Written g n l
written_only g n l e = elim (behind_none l false g n e) [ inl t ↦ rw t.0 t.1 | inr t ↦ rw (t.1.0) t.1.1 ]
