-- Each live step of a rule appends its byte to what is held, which stays good.
use Rattle.std.specs.Prelude.{ℕ, ◌≡◌, refl, List, [], ◌∷◌, ◌++◌}
use mathlib.Core.Path.{sym, ap, ◌∙◌}
use mathlib.Core.Logic.{inl, inr}
use Rattle.std.proofs.Math.Option.{Option, some, none}
use Rattle.std.proofs.lemmas.List.{append_assoc}
use Rattle.grammar.specs.Bytes.{LetterOrDigit}
use Rattle.grammar.specs.Grammar.{Word, Next, next, Atom, Sum, Item, byte, pieces, word_pieces, sum_pieces, item_pieces, atom_pieces, sentence_pieces, IsName, GoodNext, GoodAtom, GoodSum, GoodItem, GoodSentence, Piece, blank_pieces}
use Rattle.grammar.specs.Reader.{Class, blank, digit, capital, lower, opening, comma, closing, stop, colon, minus, and_then, name_longer, Part, begun, part_step, whole, ItemPart, item_step, item_of, RuleState, predicate, argument, closed, half, body, ended, rule_step, rule_with, head_closed, rule_argument, body_comma, rule_body}
use Rattle.grammar.proofs.SoundParts.{byte_in, blank_end, part_on}
use Rattle.grammar.proofs.Kept.{Longer, Kept, kept_map, GoodClass, name_grows}
use Rattle.grammar.proofs.Grows.{Grows, one_more}
use Rattle.grammar.proofs.Behind.{items_on, item_more, opened_on, atom_written, atom_blank_written, next_more, atom_good, closed_items, gathered, alone_gathered, several_gathered}
use Rattle.grammar.proofs.GoodParts.{GoodPart, PartGoes, part_goes, IsWhole, whole_is}
use Rattle.grammar.proofs.SoundItems.{item_on, GoodItemPart, ItemGoes, item_goes, IsItem, item_is, begun_on, begun_good}

-- ---- what is held

abbrev pub sums_on : Word → List (Next Sum) → List Piece
sums_on p l = items_on sum_pieces (opened_on [] p) l

abbrev pub head_on : Atom Sum → List Piece
head_on h = atom_pieces sum_pieces h ++ (byte 58 ∷ byte 45 ∷ [])

abbrev pub rule_on : RuleState → List Piece
rule_on (predicate w) = word_pieces w
rule_on (argument p l z) = part_on (sums_on p l) z
rule_on (closed a) = atom_pieces sum_pieces a
rule_on (half a) = atom_pieces sum_pieces a ++ (byte 58 ∷ [])
rule_on (body h l i) = item_on (items_on item_pieces (head_on h) l) i
rule_on (ended s) = sentence_pieces s

abbrev pub GoodRule : RuleState → Type 0
GoodRule (predicate w) = IsName w.bytes
GoodRule (argument p l z) = IsName p.bytes × (GoodNext GoodSum l × GoodPart z)
GoodRule (closed a) = GoodAtom GoodSum a
GoodRule (half a) = GoodAtom GoodSum a
GoodRule (body h l i) = GoodAtom GoodSum h × (GoodNext GoodItem l × GoodItemPart i)
GoodRule (ended s) = GoodSentence s

abbrev pub RuleGoesOn : RuleState → ℕ → RuleState → Type 0
RuleGoesOn z b y = GoodRule y × Grows b (rule_on z) (rule_on y)

-- ---- the head

sum_in : (p : Word) (l : List (Next Sum)) (z : Part) (c : Class) → GoodClass c → GoodRule (argument p l z) → Kept (RuleGoesOn (argument p l z) (byte_in c)) (and_then (part_step z c) (λ y. some (argument p l y)))
sum_in p l z c q g = kept_map (PartGoes (sums_on p l) z c) (RuleGoesOn (argument p l z) (byte_in c)) (λ y. argument p l y) (λ y h. ((g.0, (g.1.0, h.0)), h.1)) (part_step z c) (part_goes (sums_on p l) z c q g.1.1)

bracket_goes : (p : Word) (l : List (Next Sum)) (z : Part) (o : Option Sum) → GoodRule (argument p l z) → Kept (IsWhole (sums_on p l) z) o → Kept (RuleGoesOn (argument p l z) 41) (head_closed p l z o)
bracket_goes p l z (some s) g h = (atom_good GoodSum p l (next z.start s) g.0 g.1.0 h.0, one_more (atom_written sum_pieces [] p l (next z.start s) ∙ ap (λ k. k ++ (byte 41 ∷ [])) (sym h.1)))
bracket_goes p l z none g h = sum_in p l z closing tt g

argument_goes : (p : Word) (l : List (Next Sum)) (z : Part) (c : Class) → GoodClass c → GoodRule (argument p l z) → Kept (RuleGoesOn (argument p l z) (byte_in c)) (rule_argument p l z c)
argument_goes p l z comma q g =
    kept_map (IsWhole (sums_on p l) z) (RuleGoesOn (argument p l z) 44) (λ s. argument p (l ++ (next z.start s ∷ [])) begun)
    (λ s h. (
      (g.0, (next_more GoodSum l (next z.start s) g.1.0 h.0, begun_good)),
      one_more (begun_on (sums_on p (l ++ (next z.start s ∷ []))) ∙ (item_more sum_pieces (opened_on [] p) l (next z.start s) ∙ ap (λ k. k ++ (byte 44 ∷ [])) (sym h.1))),
    )) (whole z) (whole_is (sums_on p l) z g.1.1)
argument_goes p l z closing q g = bracket_goes p l z (whole z) g (whole_is (sums_on p l) z g.1.1)
argument_goes p l z c q g = sum_in p l z c q g

predicate_goes : (w : Word) (b : ℕ) → LetterOrDigit b → IsName w.bytes → Kept (RuleGoesOn (predicate w) b) (and_then (name_longer w b) (λ v. some (predicate v)))
predicate_goes w b p g = kept_map (Longer IsName w b) (RuleGoesOn (predicate w) b) (λ v. predicate v) (λ v h. (h.0, one_more h.1)) (name_longer w b) (name_grows w b g p)

-- ---- the body

item_in : (h : Atom Sum) (l : List (Next Item)) (i : ItemPart) (c : Class) → GoodClass c → GoodRule (body h l i) → Kept (RuleGoesOn (body h l i) (byte_in c)) (and_then (item_step i c) (λ j. some (body h l j)))
item_in h l i c q g =
    let w = items_on item_pieces (head_on h) l in
    kept_map (ItemGoes w i (byte_in c)) (RuleGoesOn (body h l i) (byte_in c)) (λ j. body h l j) (λ j k. ((g.0, (g.1.0, k.0)), k.1)) (item_step i c) (item_goes w i c q g.1.1)

comma_goes : (h : Atom Sum) (l : List (Next Item)) (i : ItemPart) (o : Option (Next Item)) → GoodRule (body h l i) → Kept (IsItem (items_on item_pieces (head_on h) l) i) o → Kept (RuleGoesOn (body h l i) 44) (body_comma h l i o)
comma_goes h l i (some n) g k = (
  (g.0, (next_more GoodItem l n g.1.0 k.0, begun_good)),
  one_more (begun_on (items_on item_pieces (head_on h) (l ++ (n ∷ []))) ∙ (item_more item_pieces (head_on h) l n ∙ ap (λ u. u ++ (byte 44 ∷ [])) (sym k.1))),
)
comma_goes h l i none g k = item_in h l i comma tt g

rule_gathered : (h : Atom Sum) (l : List (Next Item)) (n : Next Item) → sentence_pieces (rule_with h l n) ≡ atom_pieces sum_pieces h ++ (byte 58 ∷ byte 45 ∷ (gathered item_pieces l n ++ (byte 46 ∷ [])))
rule_gathered h [] n = ap (λ k. atom_pieces sum_pieces h ++ (byte 58 ∷ byte 45 ∷ k)) (alone_gathered item_pieces n (byte 46 ∷ []))
rule_gathered h (m ∷ l) n = ap (λ k. atom_pieces sum_pieces h ++ (byte 58 ∷ byte 45 ∷ k)) (several_gathered item_pieces m l n (byte 46 ∷ []))

rule_written : (h : Atom Sum) (l : List (Next Item)) (n : Next Item) →
    sentence_pieces (rule_with h l n) ≡ (items_on item_pieces (head_on h) l ++ blank_pieces n.blanks ++ item_pieces n.item) ++ (byte 46 ∷ [])
rule_written h l n =
    let r = gathered item_pieces l n ++ (byte 46 ∷ []) in
    rule_gathered h l n ∙ (sym (append_assoc (atom_pieces sum_pieces h) (byte 58 ∷ byte 45 ∷ []) r) ∙ sym (closed_items item_pieces (head_on h) 46 l n))

rule_good : (h : Atom Sum) (l : List (Next Item)) (n : Next Item) → GoodAtom GoodSum h → GoodNext GoodItem l → GoodItem n.item → GoodSentence (rule_with h l n)
rule_good h [] n g k i = (g, (i, tt))
rule_good h (m ∷ l) n g k i = (g, (k.0, next_more GoodItem l n k.1 i))

stop_goes : (h : Atom Sum) (l : List (Next Item)) (i : ItemPart) → GoodRule (body h l i) → Kept (RuleGoesOn (body h l i) 46) (and_then (item_of i) (λ n. some (ended (rule_with h l n))))
stop_goes h l i g =
    let w = items_on item_pieces (head_on h) l in
    kept_map (IsItem w i) (RuleGoesOn (body h l i) 46) (λ n. ended (rule_with h l n)) (λ n k. (rule_good h l n g.0 g.1.0 k.0, one_more (rule_written h l n ∙ ap (λ u. u ++ (byte 46 ∷ [])) (sym k.1)))) (item_of i) (item_is w i g.1.1)

body_goes : (h : Atom Sum) (l : List (Next Item)) (i : ItemPart) (c : Class) → GoodClass c → GoodRule (body h l i) → Kept (RuleGoesOn (body h l i) (byte_in c)) (rule_body h l i c)
body_goes h l i comma q g = comma_goes h l i (item_of i) g (item_is (items_on item_pieces (head_on h) l) i g.1.1)
body_goes h l i stop q g = stop_goes h l i g
body_goes h l i c q g = item_in h l i c q g

-- ---- a rule

pub rule_goes_on : (z : RuleState) (c : Class) → GoodClass c → GoodRule z → Kept (RuleGoesOn z (byte_in c)) (rule_step z c)
unfolding items_on
rule_goes_on (predicate w) (blank x) q g = (g, one_more (blank_end (pieces w.bytes) w.blanks x))
rule_goes_on (predicate w) (digit b) q g = predicate_goes w b (inr (inr q)) g
rule_goes_on (predicate w) (lower b) q g = predicate_goes w b (inl q) g
rule_goes_on (predicate w) (capital b) q g = predicate_goes w b (inr (inl q)) g
rule_goes_on (predicate w) opening q g = ((g, (tt, begun_good)), one_more (begun_on (opened_on [] w)))
rule_goes_on (predicate w) c q g = tt
rule_goes_on (argument p l z) c q g = argument_goes p l z c q g
rule_goes_on (closed a) (blank x) q g = (g, one_more (atom_blank_written sum_pieces a x))
rule_goes_on (closed a) colon q g = (g, one_more refl)
rule_goes_on (closed a) c q g = tt
rule_goes_on (half a) minus q g = ((g, (tt, begun_good)), one_more (begun_on (head_on a) ∙ sym (append_assoc (atom_pieces sum_pieces a) (byte 58 ∷ []) (byte 45 ∷ []))))
rule_goes_on (half a) c q g = tt
rule_goes_on (body h l i) c q g = body_goes h l i c q g
rule_goes_on (ended s) c q g = tt
