-- The order of two integers is total.
use Prim.Native.Nat.{ℕ}
use native.Mathlib.Omega.{arith}
use mathlib.Core.Path.{◌≡◌, refl, sym, ap, ◌∙◌}
use mathlib.Core.Bool.{Bool, true, false}
use lib.IntN.{ℤ}
use lib.Signed.{lt_z}
use Rattle.integers.specs.Order.{Lt}
use Rattle.integers.proofs.OrderLaws.{lt_yes, lt_no, yes_lt, no_lt, le_antisym}
use Rattle.std.specs.declared.cmp.Ordering.TheVariants.{Less, Equal, Greater}
use Rattle.search.specs.Seek.{compareℤ}
use Rattle.search.proofs.Total.{turn, Total}

data Way (a b : ℤ) : Type 0 where
  lower : Lt a b → Way a b
  higher : Lt b a → Way a b
  level : a ≡ b → Way a b

way : (a b : ℤ) → Way a b
way a b = go (lt_z a b) (lt_z b a) refl refl
  where
    go : (t u : Bool) → lt_z a b ≡ t → lt_z b a ≡ u → Way a b
    go true u p q = lower (lt_yes a b p)
    go false true p q = higher (lt_yes b a q)
    go false false p q = level (le_antisym a b (lt_no b a q) (lt_no a b p))

pub ℤ_less : (a b : ℤ) → Lt a b → compareℤ a b ≡ Less
ℤ_less a b h = rw (yes_lt a b h)

pub ℤ_greater : (a b : ℤ) → Lt b a → compareℤ a b ≡ Greater
ℤ_greater a b h = rw (no_lt a b (omega arith), yes_lt b a h)

pub ℤ_equal : (a b : ℤ) → a ≡ b → compareℤ a b ≡ Equal
ℤ_equal a b e = rw e (let h = no_lt b b (omega arith) in rw h)

turned_ℤ : (a b : ℤ) → compareℤ b a ≡ turn (compareℤ a b)
turned_ℤ a b = go (way a b)
  where
    go : Way a b → compareℤ b a ≡ turn (compareℤ a b)
    go (lower h) = ℤ_greater b a h ∙ sym (ap turn (ℤ_less a b h))
    go (higher h) = ℤ_less b a h ∙ sym (ap turn (ℤ_greater a b h))
    go (level h) = ℤ_equal b a (sym h) ∙ sym (ap turn (ℤ_equal a b h))

pub less_ℤ : (a b : ℤ) → compareℤ a b ≡ Less → Lt a b
less_ℤ a b e = go (way a b)
  where
    go : Way a b → Lt a b
    go (lower h) = h
    go (higher h) = let f = sym (ℤ_greater a b h) ∙ e in let z : ◌≡◌ {A = ℕ} 0 1 = cc in absurd (omega arith)
    go (level h) = let f = sym (ℤ_equal a b h) ∙ e in let z : ◌≡◌ {A = ℕ} 0 1 = cc in absurd (omega arith)

equal_ℤ : (a b : ℤ) → compareℤ a b ≡ Equal → a ≡ b
equal_ℤ a b e = go (way a b)
  where
    go : Way a b → a ≡ b
    go (lower h) = let f = sym (ℤ_less a b h) ∙ e in let z : ◌≡◌ {A = ℕ} 0 1 = cc in absurd (omega arith)
    go (higher h) = let f = sym (ℤ_greater a b h) ∙ e in let z : ◌≡◌ {A = ℕ} 0 1 = cc in absurd (omega arith)
    go (level h) = h

-- neither below nor equal
pub above_ℤ : (a b : ℤ) → lt_z a b ≡ false → (a ≡ b → ⊥) → compareℤ a b ≡ Greater
above_ℤ a b e d = go (way a b)
  where
    go : Way a b → compareℤ a b ≡ Greater
    go (lower h) = let k = lt_no a b e in absurd (omega arith)
    go (higher h) = ℤ_greater a b h
    go (level h) = absurd (d h)

pub total_ℤ : Total compareℤ
total_ℤ = record {
  turned = turned_ℤ;
  trans = λ a b c p q. let h = less_ℤ a b p in let k = less_ℤ b c q in ℤ_less a c (omega arith);
  equal = equal_ℤ;
}
