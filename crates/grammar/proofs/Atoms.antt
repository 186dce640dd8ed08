-- A step of a part is a step of the whole, and an atom is read as its tree where its arguments are.
use Rattle.std.specs.Prelude.{ℕ, ◌≡◌, refl, List, [], ◌∷◌, ◌++◌}
use mathlib.Core.Path.{ap, subst, ◌∙◌}
use Rattle.std.proofs.Math.Option.{Option, some, none}
use Rattle.std.proofs.lemmas.List.{append_assoc}
use Rattle.grammar.specs.Bytes.{Blank, Blanks}
use Rattle.grammar.specs.Grammar.{Word, Next, next, Items, items, Atom, atom_of, Piece, byte, blank_pieces, next_pieces, items_pieces, sign, GoodNext, GoodItems}
use Rattle.grammar.specs.Reader.{Class, blank, comma, class_of, and_then, atom_with, atom_blank}
use Rattle.grammar.proofs.Following.{follow, Reads, reading, nothing, then, one_then, regrouped, blanks_read}

-- ---- a step that is dead, and one that is not

abbrev Dead : {A : Type 0} → Option A → Type 0
Dead none = Unit {0}
Dead (some a) = ⊥

pub dead_alive : {A : Type 0} {a : A} → none ≡ some a → ⊥
dead_alive e = subst Dead e tt

pub and_taken : {A B : Type 0} (o : Option A) (k : A → Option B) {y : B} → and_then o k ≡ some y → (a : A) × ((o ≡ some a) × (k a ≡ some y))
and_taken none k e = absurd (dead_alive e)
and_taken (some a) k e = (a, (refl, e))

-- ---- steps of a part are steps of what it is a part of

pub follow_lifted : {Z Y : Type 0} (f : Z → Class → Option Z) (k : Y → Class → Option Y) (h : Z → Y) → ((z : Z) (c : Class) (y : Z) → f z c ≡ some y → k (h z) c ≡ some (h y)) →
    (z : Z) (s : List ℕ) (y : Z) → follow f z s ≡ some y → follow k (h z) s ≡ some (h y)
unfolding follow
follow_lifted f k h g z [] y e = ap (λ o. and_then o (λ x. some (h x))) e
follow_lifted f k h g z (b ∷ s) y e =
    let t = and_taken (f z (class_of b)) (λ x. follow f x s) e in
    ap (λ o. and_then o (λ x. follow k x s)) (g z (class_of b) t.0 t.1.0) ∙ follow_lifted f k h g t.0 s y t.1.1

pub lifted : {Z Y : Type 0} (f : Z → Class → Option Z) (k : Y → Class → Option Y) (h : Z → Y) → ((z : Z) (c : Class) (y : Z) → f z c ≡ some y → k (h z) c ≡ some (h y)) →
    {z : Z} {l : List Piece} {y : Z} → Reads f z l y → Reads k (h z) l (h y)
lifted f k h g {z = z} {y = y} r = reading (follow_lifted f k h g z _ y r.reads)

-- ---- items parted by commas: one that is awaited behind others, one that may end, and what the byte behind the last one gives

pub record Sequence {Z A : Type 0} (f : Z → Class → Option Z) (write : A → List Piece) (Fine : A → Type 0) (await : List (Next A) → Blanks → Z) (at : List (Next A) → Blanks → A → Z) (stop : ℕ) (gather whole : List (Next A) → Next A → Z) : Type 0 where
  pub on_blank : (l : List (Next A)) (s : Blanks) (x : Blank) → f (await l s) (blank x) ≡ some (await l (s ++ (x ∷ [])))
  pub on_item : (l : List (Next A)) (s : Blanks) (a : A) → Fine a → Reads f (await l s) (write a) (at l s a)
  pub on_comma : (l : List (Next A)) (s : Blanks) (a : A) → f (at l s a) comma ≡ some (await (l ++ (next s a ∷ [])) [])
  pub on_stop : (l : List (Next A)) (s : Blanks) (a : A) → f (at l s a) (class_of stop) ≡ some (gather l (next s a))
  -- those before and the last, and the first and those behind
  pub alone : (n : Next A) → gather [] n ≡ whole [] n
  pub several : (m : Next A) (l : List (Next A)) (n : Next A) → gather (m ∷ l) n ≡ whole (l ++ (n ∷ [])) m

module _ {Z A : Type 0} (f : Z → Class → Option Z) (write : A → List Piece) (Fine : A → Type 0) (await : List (Next A) → Blanks → Z) (at : List (Next A) → Blanks → A → Z) (stop : ℕ) (gather whole : List (Next A) → Next A → Z) where
  gathered : List (Next A) → Next A → List (Next A) → Z
  gathered l n [] = gather l n
  gathered l n (m ∷ r) = gathered (l ++ (n ∷ [])) m r

  gathered_more : Sequence f write Fine await at stop gather whole → (k : Next A) (l : List (Next A)) (n : Next A) (r : List (Next A)) → gathered (k ∷ l) n r ≡ whole (l ++ (n ∷ r)) k
  unfolding gathered
  gathered_more g k l n [] = g.several k l n
  gathered_more g k l n (m ∷ r) = gathered_more g k (l ++ (n ∷ [])) m r ∙ ap (λ t. whole t k) (append_assoc l (n ∷ []) (m ∷ r))

  gathered_first : Sequence f write Fine await at stop gather whole → (n : Next A) (r : List (Next A)) → gathered [] n r ≡ whole r n
  unfolding gathered
  gathered_first g n [] = g.alone n
  gathered_first g n (m ∷ r) = gathered_more g n [] m r

  rest_read : Sequence f write Fine await at stop gather whole → (l : List (Next A)) (s : Blanks) (a : A) (r : List (Next A)) → GoodNext Fine r →
      Reads f (at l s a) (next_pieces write r ++ (byte stop ∷ [])) (gathered l (next s a) r)
  unfolding next_pieces class_of gathered
  rest_read g l s a [] h = one_then stop (g.on_stop l s a) nothing
  rest_read g l s a (n ∷ r) h =
      one_then 44 (g.on_comma l s a) (regrouped (blank_pieces n.blanks) (write n.item ++ next_pieces write r) (byte stop ∷ [])
      (then (blanks_read (λ b. await (l ++ (next s a ∷ [])) b) (λ b x. g.on_blank (l ++ (next s a ∷ [])) b x) [] n.blanks)
      (regrouped (write n.item) (next_pieces write r) (byte stop ∷ []) (then (g.on_item (l ++ (next s a ∷ [])) n.blanks n.item h.0) (rest_read g (l ++ (next s a ∷ [])) n.blanks n.item r h.1)))))

  pub sequence_read : Sequence f write Fine await at stop gather whole → (b : Blanks) (t : Items A) → GoodItems Fine t →
      Reads f (await [] []) (blank_pieces b ++ (items_pieces write t ++ (byte stop ∷ []))) (whole t.more (next b t.first))
  sequence_read g b t h =
      then (blanks_read (λ d. await [] d) (λ d x. g.on_blank [] d x) [] b)
      (regrouped (write t.first) (next_pieces write t.more) (byte stop ∷ [])
      (then (g.on_item [] b t.first h.0)
      (subst (λ z. Reads f (at [] b t.first) (next_pieces write t.more ++ (byte stop ∷ [])) z) (gathered_first g (next b t.first) t.more) (rest_read g [] b t.first t.more h.1))))

-- ---- an atom: its brackets with what is in them, and the blanks behind

module _ {Z A : Type 0} (f : Z → Class → Option Z) (write : A → List Piece) (Fine : A → Type 0) (p : Word) (await : List (Next A) → Blanks → Z) (at : List (Next A) → Blanks → A → Z) (close : Atom A → Z) where
  abbrev pub Arguments : Type 0
  Arguments = Sequence f write Fine await at 41 (λ l n. close (atom_with p l n)) (λ l n. close (atom_of p n.blanks (items n.item l) []))

  pub arguments_read : Arguments → ((a : Atom A) (x : Blank) → f (close a) (blank x) ≡ some (close (atom_blank a x))) → (b : Blanks) (t : Items A) (c : Blanks) → GoodItems Fine t →
      Reads f (await [] []) (blank_pieces b ++ (items_pieces write t ++ sign 41 c)) (close (atom_of p b t c))
  arguments_read g k b t c h =
      subst (λ l. Reads f (await [] []) l (close (atom_of p b t c))) (append_assoc (blank_pieces b) (items_pieces write t ++ (byte 41 ∷ [])) (blank_pieces c) ∙ ap (λ l. blank_pieces b ++ l) (append_assoc (items_pieces write t) (byte 41 ∷ []) (blank_pieces c)))
      (then (sequence_read f write Fine await at 41 (λ l n. close (atom_with p l n)) (λ l n. close (atom_of p n.blanks (items n.item l) [])) g b t h) (blanks_read (λ d. close (atom_of p b t d)) (λ d x. k (atom_of p b t d) x) [] c))
