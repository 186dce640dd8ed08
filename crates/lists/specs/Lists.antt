-- Lists of constant ids, strictly increasing: their union, whether one has an id, and the charge of their entries.
use Rattle.std.specs.Prelude.{ℕ, zero, suc, ◌+◌, min, Bool, true, false, cond, List, [], ◌∷◌, ◌++◌, ltb, leb, eqb, length, get_or, ◌≡◌, Result, Ok, Err}
use Rattle.std.specs.List.{Contains}
use Rattle.sizes.specs.Sizes as size
use Rattle.std.proofs.Math.Option.{Option, some, none}
use Rattle.limits.specs.declared.Stop.{Stop}
use Rattle.limits.specs.Metered.{Metered, pure, ◌>>=◌, ◌>>◌}
use Rattle.limits.specs.declared.Meter.{Meter}
use Rattle.limits.specs.Meter.{work, retain, release, holding}
use Rattle.search.specs.Seek.{found?, compareℕ, seek}

-- x, and behind it `rest`, after what comes before x of the other list
abbrev pub mix : ℕ → (List ℕ → List ℕ) → List ℕ → List ℕ
mix x rest [] = x ∷ rest []
mix x rest (y ∷ ys) = cond (ltb x y) (x ∷ rest (y ∷ ys)) (cond (ltb y x) (y ∷ mix x rest ys) (x ∷ rest ys))

-- the union of two strictly increasing lists, as a merge makes it
abbrev pub union : List ℕ → List ℕ → List ℕ
union [] ys = ys
union (x ∷ xs) ys = mix x (union xs) ys

-- `Abstract::push`: one entry more of a list that has n live ones, which go where it is refused
unfoldable pub push : ℕ → Metered Stop Meter (Unit {0})
push n = holding n (retain 1)

-- a list's entries, one by one: n are live, `count` are still to come
unfoldable pub retain_all : ℕ → ℕ → Metered Stop Meter (Unit {0})
retain_all n zero = pure tt
retain_all n (suc count) = push n >> retain_all (n + 1) count

-- one step of a merge: whether one more id fits the width. The array has 16 places; a width over 16 is refused with the store.
unfoldable pub take_one : ℕ → ℕ → Metered Stop Meter Bool
take_one width n = do
  holding n (work 1)
  cond (leb (min width size.width) n) (release n >> pure false) (push n >> pure true)

-- the ids `l` behind the kept ones, or none where they do not fit the width
unfoldable pub collect : ℕ → List ℕ → List ℕ → Metered Stop Meter (Option (List ℕ))
collect width kept [] = pure (some kept)
collect width kept (i ∷ l) = do
  fits ← take_one width (length kept)
  cond fits (collect width (kept ++ (i ∷ [])) l) (pure none)

-- how many ids of a list are looked at, at most: 5 turns search less than 2^5 ids to the end
abbrev pub list_turns : ℕ
list_turns = 5

-- `Abstract::permits`: a binary search, and yes where there is no list. `turns` bounds the ids that are looked at.
unfoldable pub permits_in : ℕ → List ℕ → ℕ → Metered Stop Meter Bool
permits_in turns l id = do
  place ← seek (λ i. compareℕ (get_or l i 0) id) turns 0 (length l)
  pure (found? place)

abbrev pub permits : Option (List ℕ) → ℕ → Metered Stop Meter Bool
permits none id = pure true
permits (some l) id = permits_in list_turns l id

-- an answer that is yes exactly for an id in the list
abbrev pub Tells : List ℕ → ℕ → Result Bool Stop → Type 0
Tells l id (Ok told) = (told ≡ true → Contains l id) × (Contains l id → told ≡ true)
Tells l id (Err stop) = Unit {0}

-- two lists of one length, one unit of work for each id that is compared
unfoldable pub same_ids : List ℕ → List ℕ → Metered Stop Meter Bool
same_ids [] r = pure true
same_ids (a ∷ l) [] = pure true
same_ids (a ∷ l) (b ∷ r) = work 1 >> cond (eqb a b) (same_ids l r) (pure false)
