-- Words with a space in front, and the ids of a list.
use Prim.Native.Nat.{ℕ, suc, ◌+◌, ◌-◌, ◌*◌, ◌≤◌, ◌<◌, ◌^◌}
use native.Mathlib.Omega.{arith}
use native.Mathlib.Numerals.{add-one}
use mathlib.Core.Path.{◌≡◌, refl, sym, ap, ◌∙◌}
use mathlib.Core.List.{List, [], ◌∷◌, ◌++◌, append_assoc, append-nil}
use lib.IntN.{ℤ}
use lib.ListN.{length, get_or, take, drop, length-append, length-take, length-drop, drop_of_length-le}
use lib.Seq.{drop-cons, take_all}
use mir.Syntax.{w16, w32}
use mir.Val.{Fits, SFits, to_z, of_z}
use mir.Facts.{to_z-of_z}
use Rattle.integers.specs.Lists.{All}
use Rattle.interval.specs.declared.Interval.{Interval}
use Rattle.interval.specs.declared.Interval.TheVariants.{Bottom, Bounded, Unbounded}
use Rattle.interval.specs.declared.Bound.{Bound}
use Rattle.text.specs.Text.{decimal, integer, letter, end_words, bound_words, others, bracketed, spaced, spaced_words, line}
use Rattle.text.specs.Answers.{Puts}
use Rattle.text.proofs.Putting.{Leads, leads_whole, leads_more, leads_all, puts_then, puts_same}
use Rattle.text.proofs.Decimals.{decimal_length_16}

-- ---- words

-- a line goes on behind its first words
pub spaced_append : (us vs : List (List ℕ)) → spaced (us ++ vs) ≡ spaced_words us ++ spaced vs
unfolding spaced spaced_words
spaced_append [] vs = refl
spaced_append (u ∷ us) vs = ap (λ (l : List ℕ). 32 ∷ (u ++ l)) (spaced_append us vs) ∙ ap (λ (l : List ℕ). 32 ∷ l) (sym (append_assoc u (spaced_words us) (spaced vs)))

pub spaced_words_lem : (ws : List (List ℕ)) → spaced ws ≡ spaced_words ws ++ (10 ∷ [])
unfolding spaced
spaced_words_lem ws = ap spaced (sym (append-nil ws)) ∙ spaced_append ws []

-- a line, word by word: its first word, words with a space in front, the line feed
pub line_first : {w : List ℕ} {a b : ℕ} {l m : List ℕ} (ws : List (List ℕ)) → Puts w a l b m → Leads (line w ws) a l (spaced ws) b m
line_first {w} {a} {l} ws p = leads_more w (spaced ws) (leads_whole (line w ws) a l) p

module _ {t : List ℕ} {a b c : ℕ} {l m n : List ℕ} where
  pub line_word : {w : List ℕ} (ws : List (List ℕ)) → Leads t a l (spaced (w ∷ ws)) b m → Puts (32 ∷ w) b m c n → Leads t a l (spaced ws) c n
  unfolding spaced
  line_word {w} ws p q = leads_more (32 ∷ w) (spaced ws) p q

  pub line_words : (us vs : List (List ℕ)) → Leads t a l (spaced (us ++ vs)) b m → Puts (spaced_words us) b m c n → Leads t a l (spaced vs) c n
  line_words us vs p q = leads_more (spaced_words us) (spaced vs) (rw (spaced_append us vs) at p) q

  pub line_end : Leads t a l (spaced []) b m → Puts (10 ∷ []) b m c n → Puts t a l c n
  unfolding spaced
  line_end p q = leads_all p q

puts_two : {u v : List ℕ} {a b c d e : ℕ} {l m n o p : List ℕ} →
    Puts (32 ∷ []) a l b m → Puts u b m c n → Puts (32 ∷ []) c n d o → Puts v d o e p → Puts (spaced_words (u ∷ v ∷ [])) a l e p
unfolding spaced_words
puts_two {u} {v} p q r s = puts_then p (puts_then q (puts_then r (puts_same (sym (append-nil v)) s)))

-- ---- an interval and a bound

-- two ends, as locals of 32 bits have them
pub puts_ends : (low high : ℤ) {a b c d e : ℕ} {l m n o p : List ℕ} → SFits w32 low → SFits w32 high →
    Puts (32 ∷ []) a l b m → Puts (integer (to_z w32 (of_z w32 low))) b m c n → Puts (32 ∷ []) c n d o → Puts (integer (to_z w32 (of_z w32 high))) d o e p →
    Puts (spaced_words (integer low ∷ integer high ∷ [])) a l e p
puts_ends low high f g p q r s = puts_two p (rw (to_z-of_z f) at q) r (rw (to_z-of_z g) at s)

-- one letter for both
pub puts_twice : (k : ℕ) {a b c : ℕ} {l m n : List ℕ} → Puts (32 ∷ k ∷ []) a l b m → Puts (32 ∷ k ∷ []) b m c n → Puts (spaced_words ((k ∷ []) ∷ (k ∷ []) ∷ [])) a l c n
unfolding spaced_words
puts_twice k p q = puts_then p q

module _ {i : Interval} {a b : ℕ} {l m : List ℕ} where
  pub puts_empty : i ≡ Bottom → Puts (spaced_words ((101 ∷ []) ∷ (101 ∷ []) ∷ [])) a l b m → Puts (spaced_words (end_words i)) a l b m
  puts_empty e p = rw e p

  pub puts_bounded : {low high : ℤ} → i ≡ Bounded low high → SFits w32 low → SFits w32 high →
      Puts (spaced_words (integer (to_z w32 (of_z w32 low)) ∷ integer (to_z w32 (of_z w32 high)) ∷ [])) a l b m → Puts (spaced_words (end_words i)) a l b m
  puts_bounded e f g p = rw e (rw (to_z-of_z f, to_z-of_z g) at p)

  pub puts_unbounded : i ≡ Unbounded → Puts (spaced_words ((42 ∷ []) ∷ (42 ∷ []) ∷ [])) a l b m → Puts (spaced_words (end_words i)) a l b m
  puts_unbounded e p = rw e p

pub puts_bound : (x : Bound) {k a b c : ℕ} {l m n : List ℕ} → k ∷ [] ≡ letter x.integrality →
    Puts (32 ∷ k ∷ []) a l b m → Puts (spaced_words (end_words x.interval)) b m c n → Puts (spaced_words (bound_words x)) a l c n
unfolding spaced_words
puts_bound x e p q = rw (← e) (puts_then p q)

-- ---- the ids of a list

others_some : (l : List ℕ) → 1 ≤ length (others l)
unfolding others
others_some [] = omega arith
others_some (i ∷ l) = omega arith

-- a comma and at most five digits each, and the bracket
others_length : (l : List ℕ) → All (λ i. i < 2 ^ 16) l → length (others l) ≤ 6 * length l + 1
unfolding others
others_length [] h = omega arith
others_length (i ∷ l) h = rw length-append (omega (arith, others_length l h.1, decimal_length_16 i h.0))

-- every element, where an array's are known one by one
each_small : (l : List ℕ) → ((k : ℕ) → Fits w16 (get_or l k 0)) → All (λ i. i < 2 ^ 16) l
each_small [] h = tt
each_small (i ∷ l) h = ((h 0).fits, each_small l (λ k. h (suc k)))

pub others_room : (ids : List ℕ) → length ids ≤ 15 → ((k : ℕ) → Fits w16 (get_or ids k 0)) → length (others ids) ≤ 91
others_room ids h small = omega (arith, others_length ids (each_small ids small))

next : (ids : List ℕ) (i : ℕ) → i < length ids → others (drop i ids) ≡ 44 ∷ (decimal (get_or ids i 0) ++ others (drop (i + 1) ids))
unfolding others
next ids i h = rw (drop-cons ids i 0 h, add-one)

module _ (ids : List ℕ) (i : ℕ) {t : List ℕ} {a b : ℕ} {l m : List ℕ} (p : Leads t a l (others (drop i ids)) b m) where
  pub other_comma : {c : ℕ} {n : List ℕ} → i < length ids → Puts (44 ∷ []) b m c n → Leads t a l (decimal (get_or ids i 0) ++ others (drop (i + 1) ids)) c n
  other_comma h q = leads_more (44 ∷ []) _ (rw (next ids i h) at p) q

  pub other_room : b + 1 ≤ a + length t
  other_room = omega (arith, p.place, others_some (drop i ids))

  pub others_end : {c : ℕ} {n : List ℕ} → length ids ≤ i → Puts (93 ∷ []) b m c n → Puts t a l c n
  unfolding others
  others_end h q = leads_all p (puts_same (ap others (sym (drop_of_length-le ids h))) q)

module _ (ids : List ℕ) (h : 1 ≤ length ids) where
  pub rest_length : length (take (length ids - 1) (drop 1 ids)) + 1 ≡ length ids
  rest_length = omega (arith, length-take (length ids - 1) (drop 1 ids), length-drop 1 ids)

  first_id : ids ≡ get_or ids 0 0 ∷ take (length ids - 1) (drop 1 ids)
  first_id = go ids h
    where
      go : (l : List ℕ) → 1 ≤ length l → l ≡ get_or l 0 0 ∷ take (length l - 1) (drop 1 l)
      go [] g = absurd (omega arith)
      go (i ∷ l) g = ap (λ (k : List ℕ). i ∷ k) (sym (take_all (length (i ∷ l) - 1) l (omega arith)))

  pub puts_ids : {a b c d : ℕ} {l m n o : List ℕ} → Puts (91 ∷ []) a l b m → Puts (decimal (get_or ids 0 0)) b m c n →
      Puts (others (take (length ids - 1) (drop 1 ids))) c n d o → Puts (bracketed ids) a l d o
  puts_ids p q r = puts_same (ap bracketed (sym first_id)) (puts_then p (puts_then q r))
