-- What a reader sees of the report: the fourth number of the line `s` is the live entries, and the ids in the brackets of the `a` lines are as many as
-- the arguments' lists have.
use Rattle.sizes.specs.Sizes as size
use Prim.Native.Nat.{ℕ, zero, suc, ◌+◌, ◌/◌, ◌%◌, ◌≤◌, ◌<◌}
use native.Mathlib.Omega.{arith}
use mathlib.Core.Path.{◌≡◌, refl, sym, ap, ◌∙◌}
use mathlib.Core.Bool.{Bool, true, false, cond, ◌||◌}
use mathlib.Core.List.{List, [], ◌∷◌, ◌++◌, append-nil}
use mathlib.Core.Option.{Option, some, none}
use borrow.Author.Tests.{ltb-true, ne_eqb}
use lib.Dec.{eqb, ltb}
use lib.IntN.{ℤ, pos, negsuc}
use lib.ListN.{length, get_or}
use Rattle.std.specs.Prelude.{min, map, filter, sum_by}
use Rattle.std.specs.List.{flat_map, range_with_len}
use Rattle.std.proofs.lemmas.List.{append_assoc}
use Rattle.std.proofs.lemmas.List.Elements.{filter-append}
use Rattle.std.proofs.lemmas.List.Sums.{sum_by-cons}
use Rattle.interval.specs.declared.Integrality.{Integrality}
use Rattle.interval.specs.declared.Integrality.TheVariants.{Integer, Mixed}
use Rattle.interval.specs.declared.Interval.{Interval}
use Rattle.interval.specs.declared.Interval.TheVariants.{Bottom, Bounded, Unbounded}
use Rattle.interval.specs.declared.Bound.{Bound}
use Rattle.limits.specs.declared.Stop.{Stop}
use Rattle.limits.specs.declared.Statistics.{Statistics}
use Rattle.limits.specs.declared.Refusal.TheVariants.{Shape}
use Rattle.limits.specs.Refusal.{told}
use Rattle.limits.specs.Context.{Context}
use Rattle.lattice.specs.Value.{Value, reason_number}
use Rattle.rows.specs.Row.{entries_of, list_of, value_at}
use Rattle.store.specs.declared.Phase.{Phase}
use Rattle.store.specs.declared.Phase.TheVariants.{Completed, Stopped}
use Rattle.store.specs.declared.Store.{Store}
use Rattle.numeric.specs.Reading.{Reading, given, refused}
use Rattle.text.specs.Text.{digits_in, decimal, integer, letter, end_words, bound_words, others, list_word, spaced}
use Rattle.text.proofs.Decimals.{decimal_some}
use Rattle.report.specs.Line.{argument_text, statistics_text}
use Rattle.report.specs.Report.{argument_lines, slot_pair, slot_lines, rule_lines, completed_lines, stopped_lines, report_in, report_sized, report_of}
use Rattle.report.specs.Seen.{words_of, number_word, headed, lines_headed, ids_in, ids_printed, totals_printed}

-- ---- bytes of a number, a letter or an end: no space, no line feed, no bracket, no comma

pub record PlainByte (b : ℕ) : Type 0 where
  pub part : eqb b 32 || eqb b 10 ≡ false
  pub mark : eqb b 91 || eqb b 44 ≡ false
  pub close : eqb b 93 ≡ false

abbrev Plain : List ℕ → Type 0
Plain [] = Unit {0}
Plain (b ∷ w) = PlainByte b × Plain w

abbrev AllPlain : List (List ℕ) → Type 0
AllPlain [] = Unit {0}
AllPlain (w ∷ ws) = Plain w × AllPlain ws

plain_append : (u v : List ℕ) → Plain u → Plain v → Plain (u ++ v)
plain_append [] v p q = q
plain_append (b ∷ u) v p q = (p.0, plain_append u v p.1 q)

plain_digit : (n : ℕ) → n < 10 → PlainByte (48 + n)
plain_digit n h = record {
  part = rw (ne_eqb (48 + n) 32 (λ e. omega arith), ne_eqb (48 + n) 10 (λ e. omega arith)) refl;
  mark = rw (ne_eqb (48 + n) 91 (λ e. omega arith), ne_eqb (48 + n) 44 (λ e. omega arith)) refl;
  close = ne_eqb (48 + n) 93 (λ e. omega arith);
}

plain_digits : (most n : ℕ) → Plain (digits_in most n)
unfolding digits_in
plain_digits zero n = tt
plain_digits (suc most) n = go (ltb n 10) refl (plain_digits most (n / 10))
  where
    go : (b : Bool) → ltb n 10 ≡ b → Plain (digits_in most (n / 10)) → Plain (cond b ((48 + n) ∷ []) (digits_in most (n / 10) ++ ((48 + n % 10) ∷ [])))
    go true e p = (plain_digit n (ltb-true n 10 e), tt)
    go false e p = plain_append (digits_in most (n / 10)) _ p (plain_digit (n % 10) (omega arith), tt)

plain_decimal : (n : ℕ) → Plain (decimal n)
unfolding decimal
plain_decimal n = plain_digits (suc n) n

plain_known : {b : ℕ} → eqb b 32 || eqb b 10 ≡ false → eqb b 91 || eqb b 44 ≡ false → eqb b 93 ≡ false → PlainByte b
plain_known p m c = record { part = p; mark = m; close = c }

plain_integer : (z : ℤ) → Plain (integer z)
unfolding integer
plain_integer (pos n) = plain_decimal n
plain_integer (negsuc n) = (plain_known refl refl refl, plain_decimal (suc n))

plain_letter : (i : Integrality) → Plain (letter i)
plain_letter Integer = (plain_known refl refl refl, tt)
plain_letter Mixed = (plain_known refl refl refl, tt)

plain_ends : (i : Interval) → AllPlain (end_words i)
plain_ends Bottom = ((plain_known refl refl refl, tt), ((plain_known refl refl refl, tt), tt))
plain_ends (Bounded low high) = (plain_integer low, (plain_integer high, tt))
plain_ends Unbounded = ((plain_known refl refl refl, tt), ((plain_known refl refl refl, tt), tt))

plain_bound : (b : Bound) → AllPlain (bound_words b)
plain_bound b = (plain_letter b.integrality, plain_ends b.interval)

plain_numbers : (l : List ℕ) → AllPlain (map decimal l)
plain_numbers [] = tt
plain_numbers (n ∷ l) = (plain_decimal n, plain_numbers l)

-- ---- words

word_ends : (w l : List ℕ) (b : ℕ) → Plain w → eqb b 32 || eqb b 10 ≡ true → words_of (w ++ (b ∷ l)) ≡ w ∷ words_of l
unfolding words_of
word_ends [] l b p e = rw e refl
word_ends (c ∷ w) l b p e = rw (p.0.part, word_ends w l b p.1 e) refl

words_read : (w : List ℕ) (ws : List (List ℕ)) → Plain w → AllPlain ws → words_of (w ++ spaced ws) ≡ w ∷ ws
unfolding spaced words_of
words_read w [] p q = word_ends w [] 10 p refl
words_read w (v ∷ ws) p q = word_ends w (v ++ spaced ws) 32 p refl ∙ ap (λ (vs : List (List ℕ)). w ∷ vs) (words_read v ws q.0 q.1)

-- ---- ids

ids_none : (w l : List ℕ) → Plain w → ids_in (w ++ l) ≡ ids_in l
unfolding ids_in
ids_none [] l p = refl
ids_none (b ∷ w) l p = rw p.0.mark (omega (arith, ids_none w l p.1))

opens : (w l : List ℕ) → 1 ≤ length w → Plain w → eqb (get_or (w ++ l) 0 93) 93 ≡ false
opens [] l h p = absurd (omega arith)
opens (b ∷ w) l h p = p.0.close

-- the first byte of an id is no `]`
ids_more : (b i : ℕ) (u l : List ℕ) → eqb b 91 || eqb b 44 ≡ true → ids_in (b ∷ ((decimal i ++ u) ++ l)) ≡ 1 + ids_in (u ++ l)
unfolding ids_in
ids_more b i u l e =
    rw (append_assoc (decimal i) u l, e, opens (decimal i) (u ++ l) (decimal_some i) (plain_decimal i), ids_none (decimal i) (u ++ l) (plain_decimal i)) refl

ids_others : (l r : List ℕ) → ids_in (others l ++ r) ≡ length l + ids_in r
unfolding others ids_in
ids_others [] r = omega arith
ids_others (i ∷ l) r = omega (arith, ids_more 44 i (others l) r refl, ids_others l r)

ids_listed : (o : Option (List ℕ)) (r : List ℕ) → ids_in (list_word o ++ r) ≡ length (list_of o) + ids_in r
unfolding ids_in
ids_listed none r = omega arith
ids_listed (some []) r = omega arith
ids_listed (some (i ∷ l)) r = omega (arith, ids_more 91 i (others l) r refl, ids_others l r)

ids_spaced : (ws vs : List (List ℕ)) → AllPlain ws → ids_in (spaced (ws ++ vs)) ≡ ids_in (spaced vs)
unfolding spaced ids_in
ids_spaced [] vs p = refl
ids_spaced (w ∷ ws) vs p = omega (arith, ids_none w (spaced (ws ++ vs)) p.0, ids_spaced ws vs p.1)

-- an `a` line has as many as the list
ids_argument : (a : ℕ) (v : Value) → ids_in (argument_text a v) ≡ entries_of v
unfolding spaced ids_in
ids_argument a v =
    let reason = decimal (reason_number v.widening) in
    omega (arith, ids_spaced (decimal a ∷ bound_words v.bound) (list_word v.values ∷ reason ∷ []) (plain_decimal a, plain_bound v.bound), ids_listed v.values (spaced (reason ∷ [])), ids_none reason (10 ∷ []) (plain_decimal (reason_number v.widening)))

-- ---- the lines of a report

module _ (p : List ℕ → Bool) {X : Type 0} where
  -- lines that are all looked for, or none
  filter_none : (f : X → List (List ℕ)) (l : List X) → ((x : X) → filter p (f x) ≡ []) → filter p (flat_map f l) ≡ []
  filter_none f [] h = refl
  filter_none f (x ∷ l) h = filter-append p (f x) (flat_map f l) ∙ rw (h x, filter_none f l h) refl

  filter_no : (f : X → List ℕ) (l : List X) → ((x : X) → p (f x) ≡ false) → filter p (map f l) ≡ []
  filter_no f [] h = refl
  filter_no f (x ∷ l) h = rw (h x, filter_no f l h) refl

module _ (letter : ℕ) (d : eqb 100 letter ≡ false) (g : eqb 103 letter ≡ false) where
  pairs_headed : (slots : List ℕ) (r k : ℕ) → filter (headed letter) (slot_pair slots r k) ≡ []
  unfolding spaced
  pairs_headed slots r k = rw (d, g) refl

  rules_headed : (s : Store) (rules slots : List ℕ) → lines_headed letter (rule_lines s rules slots) ≡ []
  unfolding rule_lines slot_lines
  rules_headed s rules slots = filter_none (headed letter) (slot_lines rules slots) _ (λ r. filter_none (headed letter) (slot_pair slots r) _ (λ k. pairs_headed slots r k))

module _ (s : Store) (arguments : List ℕ) where
  arguments_headed : lines_headed 115 (argument_lines s arguments) ≡ []
  unfolding argument_lines spaced
  arguments_headed = filter_no (headed 115) (λ a. argument_text a (value_at arguments a)) (range_with_len 0 (min s.counts.positions size.positions)) (λ a. refl)

  ids_arguments : (l : List ℕ) → ids_printed (map (λ a. argument_text a (value_at arguments a)) l) ≡ sum_by (λ a. entries_of (value_at arguments a)) l
  unfolding spaced
  ids_arguments [] = refl
  ids_arguments (a ∷ l) =
      sum_by-cons ids_in (argument_text a (value_at arguments a)) (lines_headed 97 (map (λ x. argument_text x (value_at arguments x)) l))
      ∙ (ap (λ (k : ℕ). k + ids_printed (map (λ x. argument_text x (value_at arguments x)) l)) (ids_argument a (value_at arguments a))
      ∙ (ap (λ (k : ℕ). entries_of (value_at arguments a) + k) (ids_arguments l) ∙ sym (sum_by-cons (λ x. entries_of (value_at arguments x)) a l)))

number_four : (n : Statistics) → number_word 4 (statistics_text n) ≡ decimal n.entries
number_four n =
    ap (λ (ws : List (List ℕ)). get_or ws 4 [])
    (words_read (115 ∷ []) _ (plain_known refl refl refl, tt) (plain_numbers (n.predicates ∷ n.positions ∷ n.links ∷ n.entries ∷ n.rounds ∷ n.bytes ∷ n.widened ∷ [])))

module _ (s : Store) (arguments rules slots : List ℕ) where
  abbrev last : List (List ℕ)
  last = statistics_text s.budget.statistics ∷ []

  -- the lines of a completed run that begin with a letter other than those of rules
  completed_headed : (letter : ℕ) → eqb 100 letter ≡ false → eqb 103 letter ≡ false →
      lines_headed letter (argument_lines s arguments ++ (rule_lines s rules slots ++ last)) ≡ lines_headed letter (argument_lines s arguments) ++ lines_headed letter last
  completed_headed letter d g =
      filter-append (headed letter) (argument_lines s arguments) (rule_lines s rules slots ++ last)
      ∙ ap (λ (l : List (List ℕ)). lines_headed letter (argument_lines s arguments) ++ l)
      (filter-append (headed letter) (rule_lines s rules slots) last ∙ ap (λ (l : List (List ℕ)). l ++ lines_headed letter last) (rules_headed letter d g s rules slots))

  -- of a completed run
  completed_total : totals_printed (completed_lines s arguments rules slots) ≡ decimal s.budget.statistics.entries ∷ []
  unfolding spaced
  completed_total =
      ap (map (number_word 4)) (completed_headed 115 refl refl ∙ ap (λ (l : List (List ℕ)). l ++ lines_headed 115 last) (arguments_headed s arguments))
      ∙ ap (λ (w : List ℕ). w ∷ []) (number_four s.budget.statistics)

  completed_ids : ids_printed (completed_lines s arguments rules slots) ≡ sum_by (λ a. entries_of (value_at arguments a)) (range_with_len 0 (min s.counts.positions size.positions))
  unfolding argument_lines
  completed_ids =
      ap (sum_by ids_in) (completed_headed 97 refl refl ∙ append-nil (lines_headed 97 (argument_lines s arguments)))
      ∙ ids_arguments s arguments (range_with_len 0 (min s.counts.positions size.positions))

  -- and of a stopped one
  stopped_total : (e : Stop) → totals_printed (stopped_lines s e) ≡ decimal s.budget.statistics.entries ∷ []
  unfolding spaced
  stopped_total e = ap (λ (w : List ℕ). w ∷ []) (number_four s.budget.statistics)

  -- ---- the report that is given

  abbrev shown : Reading (List (List ℕ)) → List (List ℕ)
  shown (given lines) = lines
  shown (refused e) = []

  module _ (lines : List (List ℕ)) (r : report_of s arguments rules slots ≡ given lines) where
    lines_are : report_in s.phase s arguments rules slots ≡ given lines
    unfolding report_of
    lines_are = go (report_sized (length arguments) (length rules) (length slots)) r
      where
        go : (b : Bool) → cond b (report_in s.phase s arguments rules slots) (refused (told Shape)) ≡ given lines → report_in s.phase s arguments rules slots ≡ given lines
        go true e = e
        go false e = let z : ◌≡◌ {A = ℕ} 0 1 = cc in absurd (omega arith)

    lines_in : {p : Phase} → s.phase ≡ p → lines ≡ shown (report_in p s arguments rules slots)
    lines_in e = sym (ap shown lines_are) ∙ ap (λ (p : Phase). shown (report_in p s arguments rules slots)) e

    -- the lines of a completed run
    pub completed_seen : s.phase ≡ Completed →
        (totals_printed lines ≡ decimal s.budget.statistics.entries ∷ []) × (ids_printed lines ≡ sum_by (λ a. entries_of (value_at arguments a)) (range_with_len 0 (min s.counts.positions size.positions)))
    completed_seen e = let c = lines_in e in (ap totals_printed c ∙ completed_total, ap ids_printed c ∙ completed_ids)

    -- and of a stopped one
    pub stopped_seen : {e : Stop} {c : Context} → s.phase ≡ Stopped e c → totals_printed lines ≡ decimal s.budget.statistics.entries ∷ []
    stopped_seen {e} h = ap totals_printed (lines_in h) ∙ stopped_total e
