-- What the code of rows reads and writes is what the definitions say.
use Prim.Native.Nat.{ℕ, min, ◌+◌, ◌-◌, ◌*◌, ◌≤◌, ◌<◌}
use native.Mathlib.Omega.{arith}
use native.Mathlib.Nat.{add-zero}
use native.Mathlib.Numerals.{towards_suc}
use mathlib.Core.Path.{◌≡◌, refl, sym, ap, ◌∙◌}
use mathlib.Core.Bool.{Bool, true, false, cond, not}
use mathlib.Core.List.{List, [], ◌++◌}
use mathlib.Core.Option.{Option, some, none}
use borrow.Author.Tests.{eq-eqb, ne_eqb}
use mir.Val.{bool_byte}
use lib.Dec.{eqb}
use lib.ListN.{length, get_or, take, drop, set, length-take, length-drop, length-map, get_or-map, drop_of_length-le}
use lib.Seq.{sets, sets-eq, get_or-take, get_or-drop, drop-drop, ext_get_or}
use borrow.Rule.Slice.PartMut.{put_mid}
use Rattle.integers.proofs.Stores.{sets_min, drop_min, Filled, filled_all, Writing, writing_more, writing_all}
use Rattle.interval.specs.declared.Bound.{Bound}
use Rattle.std.proofs.Common.{Result, Ok, Err, append_assoc}
use Rattle.limits.specs.declared.Stop.{Stop}
use Rattle.limits.specs.declared.Meter.{Meter}
use Rattle.limits.specs.Metered.{going, answered, seen}
use Rattle.limits.specs.Meter.{work}
use Rattle.lists.specs.Lists.{retain_all}
use Rattle.lattice.specs.Lattice.{copied}
use Rattle.lattice.proofs.CodeLaws.{list_copied, entries_stopped}
use Rattle.lattice.specs.Value.{Reason}
use Rattle.lattice.specs.declared.Abstract.{Abstract}
use Rattle.lattice.specs.Value.{Value, value_of, reason_number}
use Rattle.sizes.specs.Sizes.{value_row}
use Rattle.rows.specs.Row.{padded, bound_of, integrality_cell, case_cell, low_cell, high_cell, bound_cells, kept_cell, listed?, list_of, entries_of, encode, reason_of, id_of, row_ids, decode, value_at, put}
use Rattle.rows.proofs.RowLaws.{length_padded, get_or_padded, length_encode, row_cell}

-- ---- the bound

pub bound_put : (d : List ℕ) (at : ℕ) (b : Bound) {a₀ a₁ a₂ a₃ : ℕ} {l₁ l₂ l₃ r : List ℕ} →
    a₀ ≡ integrality_cell b.integrality → a₁ ≡ case_cell b.interval → a₂ ≡ low_cell b.interval → a₃ ≡ high_cell b.interval →
    l₁ ≡ set d at a₀ → l₂ ≡ set l₁ (at + 1) a₁ → l₃ ≡ set l₂ (at + 2) a₂ → r ≡ set l₃ (at + 3) a₃ → r ≡ sets d at (bound_cells b)
bound_put d at b e₀ e₁ e₂ e₃ p₁ p₂ p₃ p = p ∙ rw (p₃, p₂, p₁, e₀, e₁, e₂, e₃) (simp towards_suc)

-- ---- the list

pub kept_listed : (o : Option (List ℕ)) → true ≡ listed? o → some (list_of o) ≡ o
kept_listed none e = let z : ◌≡◌ {A = ℕ} 0 1 = cc in absurd (omega arith)
kept_listed (some l) e = refl

pub none_listed : (o : Option (List ℕ)) → false ≡ listed? o → none ≡ o
none_listed none e = refl
none_listed (some l) e = let z : ◌≡◌ {A = ℕ} 0 1 = cc in absurd (omega arith)

-- the cell that tells whether there is a list
pub kept_is : (v : Abstract) {k : ℕ} → k ≡ bool_byte v.kept → k ≡ kept_cell (value_of v).values
kept_is v e = e ∙ go v.kept
  where
    go : (t : Bool) → bool_byte t ≡ kept_cell (cond t (some (take v.len v.ids)) none)
    go true = refl
    go false = refl

-- ---- the ids

pub ids_read : (cells : List ℕ) (at : ℕ) {ids : List ℕ} {j : ℕ} → Filled 0 (λ k. id_of (get_or cells (at + 7 + k) 0)) ids j → length ids ≡ 16 → 16 ≤ j →
    ids ≡ row_ids (padded value_row (drop at cells))
ids_read cells at {ids} {j} p n h =
    let l : length (row_ids (padded value_row (drop at cells))) ≡ 16 = simp (length-map, length-take, length-drop, length_padded) in
    filled_all p (row_ids (padded value_row (drop at cells))) (n ∙ sym l) (omega arith)
    (λ k g.
    let e : at + (7 + k) ≡ at + 7 + k = omega arith in
    get_or-map id_of (take 16 (drop 7 (padded value_row (drop at cells)))) k 0
    ∙ ap id_of (get_or-take 16 (drop 7 (padded value_row (drop at cells))) k 0 (omega arith) ∙ get_or-drop 7 (padded value_row (drop at cells)) k 0
    ∙ row_cell cells at (7 + k) (omega arith) ∙ ap (λ (m : ℕ). get_or cells m 0) e))

module _ (n : ℕ) (s : List ℕ) {r l : List ℕ} {at j : ℕ} (p : Writing r l at (padded n s) j) where
  pub id_put : {a : ℕ} {m : List ℕ} → j < n → a ≡ get_or s j 0 → m ≡ set l (at + j) a → Writing r m at (padded n s) (j + 1)
  id_put h e d = writing_more p 0 (omega (arith, length_padded n s)) (e ∙ sym (get_or_padded n s j h)) d

  pub ids_put : n ≤ j → l ≡ r
  ids_put h = writing_all p (omega (arith, length_padded n s))

-- ---- a whole row

-- a list that was read, and one that is written, as the value has it
kept_list : (t : Bool) (n : ℕ) (l : List ℕ) → cond (not t) (some (take n l)) none ≡ cond t none (some (take n l))
kept_list true n l = refl
kept_list false n l = refl

module _ (cells : List ℕ) (at : ℕ) where
  -- the cells of the row that begins at `at`
  abbrev pub the_row : List ℕ
  the_row = padded value_row (drop at cells)

  cell : (k : ℕ) → k < value_row → get_or cells (at + k) 0 ≡ get_or the_row k 0
  cell k h = sym (row_cell cells at k h)

  first : get_or cells at 0 ≡ get_or the_row 0 0
  first = rw add-zero at (cell 0 (omega arith))

  pub row_read : {b : Bound} {a₄ a₅ a₆ : ℕ} {w : Reason} {ids : List ℕ} →
      b ≡ bound_of cells at → a₄ ≡ get_or cells (at + 4) 0 → a₅ ≡ get_or cells (at + 5) 0 → a₆ ≡ get_or cells (at + 6) 0 → w ≡ reason_of a₆ → ids ≡ row_ids the_row →
      value_of (record { bound = b; ids = ids; len = a₅; kept = not (eqb a₄ 0); reason = w }) ≡ decode the_row
  unfolding decode
  row_read eb e₄ e₅ e₆ ew ei =
      rw (eb, ew, ei, first, cell 1 (omega arith), cell 2 (omega arith), cell 3 (omega arith))
      (rw (e₄, cell 4 (omega arith), e₅, cell 5 (omega arith), e₆, cell 6 (omega arith)) (rw (kept_list (eqb (get_or the_row 4 0) 0) (get_or the_row 5 0) (row_ids the_row))))

  -- without a list the ids mean nothing
  pub row_bare : (ids : List ℕ) {b : Bound} {a₄ a₅ a₆ : ℕ} {w : Reason} →
      b ≡ bound_of cells at → a₄ ≡ get_or cells (at + 4) 0 → a₅ ≡ get_or cells (at + 5) 0 → a₆ ≡ get_or cells (at + 6) 0 → w ≡ reason_of a₆ → not (eqb a₄ 0) ≡ false →
      value_of (record { bound = b; ids = ids; len = a₅; kept = not (eqb a₄ 0); reason = w }) ≡ decode the_row
  row_bare ids {b} {a₄} {a₅} {w} eb e₄ e₅ e₆ ew bare = same (not (eqb a₄ 0)) bare ∙ row_read eb e₄ e₅ e₆ ew refl
    where
      same : (k : Bool) → k ≡ false →
          value_of (record { bound = b; ids = ids; len = a₅; kept = k; reason = w }) ≡ value_of (record { bound = b; ids = row_ids the_row; len = a₅; kept = k; reason = w })
      same k e = rw e refl

  -- the stores of the bound, of three cells and of the ids, as one
  stores : (v : Value) →
      sets (set (set (set (sets cells at (bound_cells v.bound)) (at + 4) (kept_cell v.values)) (at + 5) (length (list_of v.values))) (at + 6) (reason_number v.widening))
      (at + 7) (padded (value_row - 7) (list_of v.values)) ≡ sets cells at (encode v)
  unfolding encode
  stores v = simp towards_suc

  pub row_put : (v : Abstract) {k w : ℕ} {ids l₁ l₂ l₃ l₄ r : List ℕ} →
      k ≡ kept_cell (value_of v).values → ids ≡ list_of (value_of v).values → w ≡ reason_number v.reason →
      l₁ ≡ sets cells at (bound_cells v.bound) → l₂ ≡ set l₁ (at + 4) k → l₃ ≡ set l₂ (at + 5) (length ids) → l₄ ≡ set l₃ (at + 6) w →
      r ≡ sets l₄ (at + 7) (padded (value_row - 7) ids) → r ≡ sets cells at (encode (value_of v))
  row_put v ek en ew p₁ p₂ p₃ p₄ p = p ∙ rw (p₄, p₃, p₂, p₁, ek, en, ew) (stores (value_of v))

-- ---- a row of a table

-- what lies behind the first n is not read
padded_taken : (n m : ℕ) (l : List ℕ) → n ≤ m → padded n (take m l) ≡ padded n l
padded_taken n m l h =
    ext_get_or 0 (padded n (take m l)) (padded n l) (length_padded n (take m l) ∙ sym (length_padded n l))
    (λ k g.
    let b : k < n = omega (arith, length_padded n (take m l)) in
    get_or_padded n (take m l) k b ∙ get_or-take m l k 0 (omega arith) ∙ sym (get_or_padded n l k b))

-- what is stored in a part that it fills is stored in the whole
sets_part : (vs l : List ℕ) (at n : ℕ) → at + n ≤ length l → length vs ≡ n → put_mid at n l (sets (take n (drop at l)) 0 vs) ≡ sets l at vs
sets_part vs l at n h e =
    let p : sets (take n (drop at l)) 0 vs ≡ vs ++ drop (0 + length vs) (take n (drop at l)) = sets-eq vs (take n (drop at l)) 0 (simp (length-take, length-drop) (omega arith)) in
    let z : drop (0 + length vs) (take n (drop at l)) ≡ [] = drop_of_length-le (take n (drop at l)) (simp (length-take, length-drop) (omega arith)) in
    rw (p, z, drop-drop n at l)
    (ap (λ (r : List ℕ). take at l ++ r) (append_assoc vs [] (drop (at + n) l)) ∙ sym ((rw e at (sets-eq vs l at (omega arith))) ∙ append_assoc (take at l) vs (drop (at + n) l)))

module _ (cells : List ℕ) (i at : ℕ) (start : at ≡ min (value_row * i) (length cells)) where
  pub row_at : decode (padded value_row (drop at cells)) ≡ value_at cells i
  unfolding value_at
  row_at = ap (λ (n : ℕ). decode (padded value_row (drop n cells))) start ∙ ap (λ (l : List ℕ). decode (padded value_row l)) (drop_min cells (value_row * i))

  -- where the row lies in the table, from a table of that row
  pub row_whole : {n : ℕ} → n ≡ value_row → decode (padded value_row (take n (drop at cells))) ≡ value_at cells i
  row_whole e = ap decode (padded_taken value_row _ (drop at cells) (omega arith)) ∙ row_at

  pub put_at : (v : Value) {r : List ℕ} → r ≡ sets cells at (encode v) → r ≡ put cells i v
  unfolding put
  put_at v e = e ∙ ap (λ (n : ℕ). sets cells n (encode v)) start ∙ sets_min (encode v) cells (value_row * i)

  pub put_whole : (v : Value) {n : ℕ} {r : List ℕ} → n ≡ value_row → at + value_row ≤ length cells → r ≡ sets (take n (drop at cells)) 0 (encode v) → put_mid at n cells r ≡ put cells i v
  put_whole v e h p = put_at v (ap (put_mid at _ cells) p ∙ sets_part (encode v) cells at _ (omega arith) (length_encode v ∙ sym e))

  -- ---- the live entries of a row

  -- its list, as the row has it
  row_entries : {a₄ a₅ : ℕ} → a₄ ≡ get_or cells (at + 4) 0 → a₅ ≡ get_or cells (at + 5) 0 →
      length (list_of (cond (eqb a₄ 0) none (some (take a₅ (row_ids (padded value_row (drop at cells))))))) ≡ entries_of (value_at cells i)
  unfolding decode
  row_entries e₄ e₅ = rw (← row_at, e₄, cell cells at 4 (omega arith), e₅, cell cells at 5 (omega arith))

  pub entries_none : {a₄ : ℕ} → a₄ ≡ get_or cells (at + 4) 0 → a₄ ≡ 0 → 0 ≡ entries_of (value_at cells i)
  entries_none e₄ z = rw (eq-eqb _ 0 z) at (row_entries e₄ refl)

  pub entries_some : {a₄ a₅ n : ℕ} → a₄ ≡ get_or cells (at + 4) 0 → a₅ ≡ get_or cells (at + 5) 0 → (a₄ ≡ 0 → ⊥) → n ≡ min a₅ 16 → n ≡ entries_of (value_at cells i)
  entries_some {a₄} {a₅} e₄ e₅ z m =
      let l : length (row_ids (padded value_row (drop at cells))) ≡ 16 = simp (length-map, length-take, length-drop, length_padded) in
      m ∙ sym (length-take a₅ (row_ids (padded value_row (drop at cells))) ∙ ap (min a₅) l) ∙ (rw (ne_eqb a₄ 0 z) at (row_entries e₄ e₅))

  -- ---- a row in parts

  pub bound_read : {b : Bound} → b ≡ bound_of cells at → b ≡ (value_at cells i).bound
  bound_read e = e ∙ ap (λ (v : Value). v.bound) (row_read cells at refl refl refl refl refl refl ∙ row_at)

  row_values : {a₄ : ℕ} → a₄ ≡ get_or cells (at + 4) 0 →
      (value_at cells i).values ≡ cond (eqb a₄ 0) none (some (take (get_or cells (at + 5) 0) (row_ids (padded value_row (drop at cells)))))
  unfolding decode
  row_values e₄ = rw (← row_at, e₄, cell cells at 4 (omega arith), cell cells at 5 (omega arith))

  pub listed_read : {a₄ : ℕ} → a₄ ≡ get_or cells (at + 4) 0 → not (eqb a₄ 0) ≡ listed? (value_at cells i).values
  listed_read {a₄} e₄ = go (eqb a₄ 0) ∙ ap listed? (sym (row_values e₄))
    where
      go : (t : Bool) → not t ≡ listed? (cond t none (some (take (get_or cells (at + 5) 0) (row_ids (padded value_row (drop at cells))))))
      go true = refl
      go false = refl

-- ---- a copy, whose last charge is that of the entries

pub copied_entries : (v : Value) (m : Meter) {m₁ m₂ : Meter} (m₃ : Meter) → going tt m₁ ≡ work 1 m → {l : List ℕ} → some l ≡ v.values → going tt m₂ ≡ work (length l) m₁ →
    (x : Result (Unit {0}) Stop) → answered x m₃ ≡ retain_all 0 (length l) m₂ → seen (λ _. v) x m₃ ≡ copied v m
copied_entries v m m₃ h p k (Ok a) q = list_copied v m h p k q
copied_entries v m m₃ h p k (Err s) q = entries_stopped v m h p k q
