-- The items of a list are written one behind another, each with its comma; the last one makes the list, or the atom, that they are.
use Rattle.std.specs.Prelude.{ℕ, ◌≡◌, refl, List, [], ◌∷◌, ◌++◌}
use mathlib.Core.Path.{sym, ap, ◌∙◌}
use Rattle.std.proofs.lemmas.List.{append_assoc, append-nil}
use Rattle.grammar.specs.Bytes.{Blank, Blanks, blank_byte}
use Rattle.grammar.specs.Grammar.{Word, Next, Items, items, Atom, atom_of, Piece, byte, blank_pieces, word_pieces, next_pieces, items_pieces, atom_pieces, sign, IsName, GoodNext, GoodAtom}
use Rattle.grammar.specs.Reader.{atom_with, atom_blank}
use Rattle.grammar.proofs.SoundParts.{blank_end}

-- a predicate and its open bracket
abbrev pub opened_on : List Piece → Word → List Piece
opened_on w p = w ++ word_pieces p ++ (byte 40 ∷ [])

module _ {A : Type 0} (f : A → List Piece) where
  -- behind what stands before them
  unfoldable pub items_on : List Piece → List (Next A) → List Piece
  items_on w [] = w
  items_on w (n ∷ l) = items_on (w ++ blank_pieces n.blanks ++ f n.item ++ (byte 44 ∷ [])) l

  pub item_more : (w : List Piece) (l : List (Next A)) (n : Next A) → items_on w (l ++ (n ∷ [])) ≡ items_on w l ++ blank_pieces n.blanks ++ f n.item ++ (byte 44 ∷ [])
  unfolding items_on
  item_more w [] n = refl
  item_more w (m ∷ l) n = item_more (w ++ blank_pieces m.blanks ++ f m.item ++ (byte 44 ∷ [])) l n

  -- those before and the last one
  pub gathered : List (Next A) → Next A → List Piece
  gathered [] n = blank_pieces n.blanks ++ f n.item
  gathered (m ∷ l) n = blank_pieces m.blanks ++ (f m.item ++ (byte 44 ∷ gathered l n))

  item_written : (w : List Piece) (n : Next A) (r : List Piece) → (w ++ blank_pieces n.blanks ++ f n.item) ++ r ≡ w ++ (blank_pieces n.blanks ++ (f n.item ++ r))
  item_written w n r = append_assoc (w ++ blank_pieces n.blanks) (f n.item) r ∙ append_assoc w (blank_pieces n.blanks) (f n.item ++ r)

  gathered_written : (w : List Piece) (l : List (Next A)) (n : Next A) → items_on w l ++ blank_pieces n.blanks ++ f n.item ≡ w ++ gathered l n
  unfolding items_on gathered
  gathered_written w [] n = append_assoc w (blank_pieces n.blanks) (f n.item)
  gathered_written w (m ∷ l) n =
      gathered_written (w ++ blank_pieces m.blanks ++ f m.item ++ (byte 44 ∷ [])) l n ∙
      (append_assoc (w ++ blank_pieces m.blanks ++ f m.item) (byte 44 ∷ []) (gathered l n) ∙ item_written w m (byte 44 ∷ gathered l n))

  next_gathered : (l : List (Next A)) (n : Next A) → next_pieces f (l ++ (n ∷ [])) ≡ byte 44 ∷ gathered l n
  unfolding next_pieces gathered
  next_gathered [] n = ap (λ k. byte 44 ∷ (blank_pieces n.blanks ++ k)) (append-nil (f n.item))
  next_gathered (m ∷ l) n = ap (λ k. byte 44 ∷ (blank_pieces m.blanks ++ (f m.item ++ k))) (next_gathered l n)

  -- the first with the blanks before it, and those behind
  pub alone_gathered : (n : Next A) (r : List Piece) → blank_pieces n.blanks ++ (items_pieces f (items n.item []) ++ r) ≡ gathered [] n ++ r
  unfolding next_pieces gathered
  alone_gathered n r = ap (λ k. blank_pieces n.blanks ++ (k ++ r)) (append-nil (f n.item)) ∙ sym (append_assoc (blank_pieces n.blanks) (f n.item) r)

  pub several_gathered : (m : Next A) (l : List (Next A)) (n : Next A) (r : List Piece) → blank_pieces m.blanks ++ (items_pieces f (items m.item (l ++ (n ∷ []))) ++ r) ≡ gathered (m ∷ l) n ++ r
  unfolding gathered
  several_gathered m l n r = ap (λ k. blank_pieces m.blanks ++ ((f m.item ++ k) ++ r)) (next_gathered l n) ∙ sym (append_assoc (blank_pieces m.blanks) (f m.item ++ (byte 44 ∷ gathered l n)) r)

  -- a byte behind the last one
  pub closed_items : (w : List Piece) (b : ℕ) (l : List (Next A)) (n : Next A) → (items_on w l ++ blank_pieces n.blanks ++ f n.item) ++ (byte b ∷ []) ≡ w ++ (gathered l n ++ (byte b ∷ []))
  closed_items w b l n = ap (λ k. k ++ (byte b ∷ [])) (gathered_written w l n) ∙ append_assoc w (gathered l n) (byte b ∷ [])

  -- ---- an atom

  opened_written : (w : List Piece) (p : Word) (r : List Piece) → opened_on w p ++ r ≡ w ++ (word_pieces p ++ (byte 40 ∷ r))
  opened_written w p r = append_assoc (w ++ word_pieces p) (byte 40 ∷ []) r ∙ append_assoc w (word_pieces p) (byte 40 ∷ r)

  atom_gathered : (p : Word) (l : List (Next A)) (n : Next A) → atom_pieces f (atom_with p l n) ≡ word_pieces p ++ (byte 40 ∷ (gathered l n ++ (byte 41 ∷ [])))
  atom_gathered p [] n = ap (λ k. word_pieces p ++ (byte 40 ∷ k)) (alone_gathered n (byte 41 ∷ []))
  atom_gathered p (m ∷ l) n = ap (λ k. word_pieces p ++ (byte 40 ∷ k)) (several_gathered m l n (byte 41 ∷ []))

  pub atom_written : (w : List Piece) (p : Word) (l : List (Next A)) (n : Next A) →
      w ++ atom_pieces f (atom_with p l n) ≡ (items_on (opened_on w p) l ++ blank_pieces n.blanks ++ f n.item) ++ (byte 41 ∷ [])
  atom_written w p l n =
      ap (λ k. w ++ k) (atom_gathered p l n) ∙ (sym (opened_written w p (gathered l n ++ (byte 41 ∷ []))) ∙ sym (closed_items (opened_on w p) 41 l n))

  -- one blank more behind it
  atom_grouped : (p : Word) (b : Blanks) (t : Items A) (c : Blanks) → atom_pieces f (atom_of p b t c) ≡ (word_pieces p ++ (sign 40 b ++ (items_pieces f t ++ (byte 41 ∷ [])))) ++ blank_pieces c
  atom_grouped p b t c =
      sym (append_assoc (word_pieces p) (sign 40 b ++ (items_pieces f t ++ (byte 41 ∷ []))) (blank_pieces c) ∙
      ap (λ k. word_pieces p ++ k) (append_assoc (sign 40 b) (items_pieces f t ++ (byte 41 ∷ [])) (blank_pieces c) ∙ ap (λ k. sign 40 b ++ k) (append_assoc (items_pieces f t) (byte 41 ∷ []) (blank_pieces c))))

  pub atom_blank_written : (a : Atom A) (x : Blank) → atom_pieces f (atom_blank a x) ≡ atom_pieces f a ++ (byte (blank_byte x) ∷ [])
  atom_blank_written a x =
      atom_grouped a.predicate a.before a.arguments (a.behind ++ (x ∷ [])) ∙
      (blank_end (word_pieces a.predicate ++ (sign 40 a.before ++ (items_pieces f a.arguments ++ (byte 41 ∷ [])))) a.behind x ∙
      ap (λ k. k ++ (byte (blank_byte x) ∷ [])) (sym (atom_grouped a.predicate a.before a.arguments a.behind)))

-- ---- and it is good

pub next_more : {A : Type 0} (P : A → Type 0) (l : List (Next A)) (n : Next A) → GoodNext P l → P n.item → GoodNext P (l ++ (n ∷ []))
next_more P [] n g h = (h, tt)
next_more P (m ∷ l) n g h = (g.0, next_more P l n g.1 h)

pub atom_good : {A : Type 0} (P : A → Type 0) (p : Word) (l : List (Next A)) (n : Next A) → IsName p.bytes → GoodNext P l → P n.item → GoodAtom P (atom_with p l n)
atom_good P p [] n i g h = (i, (h, tt))
atom_good P p (m ∷ l) n i g h = (i, (g.0, next_more P l n g.1 h))
