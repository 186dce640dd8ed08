-- Texts put one behind the other, and what is left to put of one.
use Prim.Native.Nat.{ℕ, suc, ◌+◌}
use native.Mathlib.Omega.{arith}
use mathlib.Core.Path.{◌≡◌, refl, sym, ap, ◌∙◌}
use mathlib.Core.List.{List, [], ◌∷◌, ◌++◌}
use lib.ListN.{length, set, length-append}
use lib.Seq.{sets, length-sets}
use Rattle.text.specs.Answers.{Puts}

-- two runs of stores, one behind the other
sets_append : (u v l : List ℕ) (i : ℕ) → sets l i (u ++ v) ≡ sets (sets l i u) (i + length u) v
sets_append [] v l i = let e : i ≡ i + 0 = omega arith in ap (λ (n : ℕ). sets l n v) e
sets_append (a ∷ u) v l i =
    let e : suc i + length u ≡ i + suc (length u) = omega arith in
    sets_append u v (set l i a) (suc i) ∙ ap (λ (n : ℕ). sets (sets (set l i a) (suc i) u) n v) e

-- the rest of a text, put at the place reached, makes the whole
pub record Leads (text : List ℕ) (at : ℕ) (before : List ℕ) (rest : List ℕ) (next : ℕ) (after : List ℕ) : Type 0 where
  pub place : next + length rest ≡ at + length text
  pub line : sets after next rest ≡ sets before at text

pub leads_whole : (t : List ℕ) (a : ℕ) (l : List ℕ) → Leads t a l t a l
leads_whole t a l = record { place = refl; line = refl }

module _ {t : List ℕ} {a : ℕ} {l : List ℕ} where
  pub leads_more : (u v : List ℕ) {b c : ℕ} {m n : List ℕ} → Leads t a l (u ++ v) b m → Puts u b m c n → Leads t a l v c n
  leads_more u v {b} {c} {m} {n} p q = record {
    place = omega (arith, p.place, q.place, length-append u v);
    line = rw (q.line, q.place) (sym (sets_append u v m b) ∙ p.line);
  }

  pub leads_all : {u : List ℕ} {b c : ℕ} {m n : List ℕ} → Leads t a l u b m → Puts u b m c n → Puts t a l c n
  leads_all p q = record { place = q.place ∙ p.place; line = q.line ∙ p.line }

pub puts_then : {t u : List ℕ} {a b c : ℕ} {l m n : List ℕ} → Puts t a l b m → Puts u b m c n → Puts (t ++ u) a l c n
puts_then {t} {u} {a} {l} p q = leads_all (leads_more t u (leads_whole (t ++ u) a l) p) q

pub puts_same : {t u : List ℕ} {a b : ℕ} {l m : List ℕ} → t ≡ u → Puts t a l b m → Puts u a l b m
puts_same e p = rw e at p

-- a line keeps its length
pub puts_length : {t : List ℕ} {a b : ℕ} {l m : List ℕ} → Puts t a l b m → length m ≡ length l
puts_length {t} {a} {l} p = ap length p.line ∙ length-sets l a t
