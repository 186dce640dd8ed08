-- What the code of numeric answers is what the definitions say, over plain variables: one law for each way out.
use Rattle.sizes.specs.Sizes as size
use Prim.Native.Nat.{ℕ, zero, suc, ◌+◌, ◌-◌, ◌*◌, ◌≤◌, ◌<◌}
use native.Mathlib.Omega.{arith}
use mathlib.Core.Path.{◌≡◌, refl, sym, ap, ◌∙◌, subst}
use mathlib.Core.Bool.{Bool, true, false, cond, ◌&&◌}
use mathlib.Core.List.{List, [], ◌∷◌, ◌++◌, append-nil}
use borrow.Author.Tests.{lt-ltb, le-ltb, ltb-true, ltb-false, eqb-true, ne_eqb}
use lib.Dec.{eqb, ltb}
use lib.ListN.{length, get_or, length-append, get_or-append, get_or-eq_default}
use lib.Seq.{get_or_at}
use Rattle.integers.proofs.Tests.{and_left, and_right}
use Rattle.limits.specs.declared.Refusal.{Refusal}
use Rattle.limits.specs.declared.Refusal.TheVariants.{Shape, Missing}
use Rattle.limits.specs.Refusal.{told}
use Rattle.keys.specs.Key.{kind_at}
use Rattle.results.specs.Result.{bound_place}
use Rattle.store.specs.declared.Phase.{Phase}
use Rattle.store.specs.declared.Phase.TheVariants.{Absent, Open, Completed, Stopped}
use Rattle.store.specs.declared.Store.{Store}
use Rattle.sizes.specs.Sizes.{rule_row}
use Rattle.rules.specs.Read.{slots_at}
use Rattle.numeric.specs.Reading.{Reading, given, refused, in_phase, reading, there, contexts_of, nth, name_of}
use Rattle.numeric.specs.Answers.{readable, reads}
use Rattle.std.proofs.Common.{Result, Ok, Err}
use Rattle.std.specs.Prelude.{IsErrAnd}
use Rattle.std.proofs.lemmas.Result.{err_from_is_err_and}

-- ---- sizes and phase

-- what a reading gives once they are looked at
abbrev following : {A : Type 0} → Result (Unit {0}) Refusal → Reading A → Reading A
following (Ok u) x = x
following (Err e) x = refused (told e)

follows : {A : Type 0} (sized : Bool) (p : Phase) (x : Reading A) → following (readable sized p) x ≡ cond sized (in_phase p x) (refused (told Shape))
follows false p x = refl
follows true Absent x = refl
follows true Open x = refl
follows true Completed x = refl
follows true (Stopped e c) x = refl

module _ {A : Type 0} (s : Store) (sized : Bool) (x : Reading A) {r : Result (Unit {0}) Refusal} (h : r ≡ readable sized s.phase) where
  pub turned_down : {e : Refusal} → r ≡ Err e → refused (told e) ≡ reading sized s x
  turned_down k = ap (λ (r : Result (Unit {0}) Refusal). following r x) (sym k ∙ h) ∙ follows sized s.phase x

  pub permitted : {u : Unit {0}} {y : Reading A} → r ≡ Ok u → y ≡ x → y ≡ reading sized s x
  permitted k e = e ∙ (ap (λ (r : Result (Unit {0}) Refusal). following r x) (sym k ∙ h) ∙ follows sized s.phase x)

-- the exit of a `?`
module _ {A B : Type 0} {y : Reading B} where
  pub not_read : (f : A → B) (x : Result A Refusal) (e : Refusal) → IsErrAnd x (λ d. d ≡ e) → refused (told e) ≡ y → reads f x ≡ y
  not_read f x e h k = let p = err_from_is_err_and x h in rw (p.1, p.2) k

-- ---- what exists

module _ {A : Type 0} (n count : ℕ) where
  pub missing : (a : A) → count ≤ n → refused (told Missing) ≡ there (ltb n count) a
  missing a h = rw (le-ltb n count h) refl

  pub stands : {y : Reading A} {a : A} → n < count → y ≡ given a → y ≡ there (ltb n count) a
  stands h e = rw (lt-ltb n count h) e

-- ---- contexts: a record more

pub one_less : {f k g : ℕ} → f ≤ k → (f ≡ k → ⊥) → g ≡ f + 1 → g ≤ k
one_less {f} {k} {g} h o e = go (ltb f k) refl
  where
    go : (t : Bool) → ltb f k ≡ t → g ≤ k
    go true q = omega (arith, ltb-true f k q)
    go false q = absurd (o (omega (arith, ltb-false f k q)))

module _ (records : List ℕ) (a : ℕ) where
  abbrev of : ℕ → List ℕ
  of n = contexts_of records n a

  abbrev context : ℕ → ℕ
  context n = get_or records (2 * n + 1) 0

  hit : (n : ℕ) → eqb (get_or records (2 * n) 0) a ≡ true → of (suc n) ≡ of n ++ (context n ∷ [])
  unfolding contexts_of
  hit n e = rw e refl

  miss : (n : ℕ) → eqb (get_or records (2 * n) 0) a ≡ false → of (suc n) ≡ of n
  unfolding contexts_of
  miss n e = rw e (append-nil (of n))

  pub hit_length : (n : ℕ) → eqb (get_or records (2 * n) 0) a ≡ true → length (of (suc n)) ≡ length (of n) + 1
  hit_length n e = ap length (hit n e) ∙ length-append (of n) (context n ∷ [])

  pub miss_length : (n : ℕ) → eqb (get_or records (2 * n) 0) a ≡ false → length (of (suc n)) ≡ length (of n)
  miss_length n e = ap length (miss n e)

  pub none_yet : length (of 0) ≡ 0
  unfolding contexts_of
  none_yet = refl

  pub few : (n : ℕ) → length (of n) ≤ n
  few zero = omega (arith, none_yet)
  few (suc n) = go (eqb (get_or records (2 * n) 0) a) refl (few n)
    where
      go : (t : Bool) → eqb (get_or records (2 * n) 0) a ≡ t → length (of n) ≤ n → length (of (suc n)) ≤ suc n
      go true e h = omega (arith, hit_length n e)
      go false e h = omega (arith, miss_length n e)

  pub hit_next : (n : ℕ) {r : Bool} {f g : ℕ} → r ≡ eqb (get_or records (2 * n) 0) a → r ≡ true → f ≡ length (of n) → g ≡ f + 1 → g ≡ length (of (n + 1))
  hit_next n q t e h = let z : n + 1 ≡ suc n = omega arith in rw z (h ∙ (ap (λ (m : ℕ). m + 1) e ∙ sym (hit_length n (sym q ∙ t))))

  pub miss_next : (n : ℕ) {r : Bool} {f g : ℕ} → r ≡ eqb (get_or records (2 * n) 0) a → r ≡ false → f ≡ length (of n) → g ≡ f → g ≡ length (of (n + 1))
  miss_next n q t e h = let z : n + 1 ≡ suc n = omega arith in rw z (h ∙ (e ∙ sym (miss_length n (sym q ∙ t))))

  -- later records come behind
  behind : (k n : ℕ) → k < length (of n) → (k < length (of (suc n))) × (get_or (of (suc n)) k 0 ≡ get_or (of n) k 0)
  behind k n h = go (eqb (get_or records (2 * n) 0) a) refl
    where
      go : (t : Bool) → eqb (get_or records (2 * n) 0) a ≡ t → (k < length (of (suc n))) × (get_or (of (suc n)) k 0 ≡ get_or (of n) k 0)
      go true e = (omega (arith, hit_length n e), ap (λ (l : List ℕ). get_or l k 0) (hit n e) ∙ get_or-append (of n) (context n ∷ []) 0 k h)
      go false e = (omega (arith, miss_length n e), ap (λ (l : List ℕ). get_or l k 0) (miss n e))

  later : (k n m : ℕ) → k < length (of n) → (k < length (of (m + n))) × (get_or (of (m + n)) k 0 ≡ get_or (of n) k 0)
  later k n zero h = let e : 0 + n ≡ n = omega arith in rw e (h, refl)
  later k n (suc m) h = let r = later k n m h in let q = behind k (m + n) r.0 in let e : suc m + n ≡ suc (m + n) = omega arith in rw e (q.0, q.1 ∙ r.1)

  -- the k-th is found at a record of the argument's that k others precede
  found : (n count : ℕ) → n < count → eqb (get_or records (2 * n) 0) a ≡ true → given (context n) ≡ nth (of count) (length (of n))
  found n count h e =
      let q : length (of n) < length (of (suc n)) = omega (arith, hit_length n e) in
      let l = later (length (of n)) (suc n) (count - suc n) q in
      let c : (count - suc n) + suc n ≡ count = omega arith in
      let here : get_or (of (suc n)) (length (of n)) 0 ≡ context n = ap (λ (l : List ℕ). get_or l (length (of n)) 0) (hit n e) ∙ get_or_at (of n) (context n) [] 0 (length (of n)) refl in
      let r = subst (λ (m : ℕ). (length (of n) < length (of m)) × (get_or (of m) (length (of n)) 0 ≡ get_or (of (suc n)) (length (of n)) 0)) c l in
      rw (lt-ltb (length (of n)) (length (of count)) r.0) (ap given (sym (r.1 ∙ here)))

  pub found_at : (n count k : ℕ) {r : Bool} {f c : ℕ} → f ≡ length (of n) → f ≡ k → n < count → r ≡ eqb (get_or records (2 * n) 0) a → r ≡ true → c ≡ context n → given c ≡ nth (of count) k
  found_at n count k p q h e t z = rw (z, sym q ∙ p) (found n count h (sym e ∙ t))

-- ---- slots: those of rules that the table has rows for

sized_true : (sized : Bool) (p : Phase) {u : Unit {0}} → readable sized p ≡ Ok u → sized ≡ true
sized_true true p h = refl
sized_true false p h = let z : ◌≡◌ {A = ℕ} 0 1 = ap mark h in absurd (omega arith)
  where
    mark : Result (Unit {0}) Refusal → ℕ
    mark (Ok u) = 1
    mark (Err e) = 0

pub in_table : (rules : List ℕ) (r k : ℕ) (slots : ℕ) (p : Phase) {u : Unit {0}} → readable (eqb (length rules) size.rule_cells && eqb slots size.bounds_cells) p ≡ Ok u → k < slots_at rules r → (r < 256) × (k < 16)
unfolding slots_at
in_table rules r k slots p z h = (go (ltb r 256) refl, omega arith)
  where
    whole : length rules ≡ size.rule_cells
    whole = eqb-true (length rules) size.rule_cells (and_left _ (eqb slots size.bounds_cells) (sized_true _ p z))

    go : (t : Bool) → ltb r 256 ≡ t → r < 256
    go true e = ltb-true r 256 e
    go false e =
        let b : 256 ≤ r = ltb-false r 256 e in
        let n : get_or rules (rule_row * r) 0 ≡ 0 = get_or-eq_default rules 0 (omega (arith, whole)) in
        absurd (omega (arith, n))

pub slots_long : (rules slots : ℕ) (p : Phase) {u : Unit {0}} → readable (eqb rules size.rule_cells && eqb slots size.bounds_cells) p ≡ Ok u → slots ≡ size.bounds_cells
slots_long rules slots p z = eqb-true slots size.bounds_cells (and_right (eqb rules size.rule_cells) _ (sized_true _ p z))

-- ---- names, a bound at its place

pub no_name : (names constants : List ℕ) (k : ℕ) {n : ℕ} → n ≡ kind_at constants k → (n ≡ 2 → ⊥) → [] ≡ name_of names constants k
no_name names constants k h o = rw (ne_eqb (kind_at constants k) 2 (λ z. o (h ∙ z))) refl

pub place_fits : (r k : ℕ) (after : Bool) {n : ℕ} → n ≡ bound_place r k after → r < size.rules → k < size.slots → n < size.bounds_cells
place_fits r k true h p q = omega arith
place_fits r k false h p q = omega arith
