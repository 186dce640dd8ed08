-- What the code's answers are, over plain variables: each way out of a function, by the tests that lead to it.
use Rattle.sizes.specs.Sizes as size
use Prim.Native.Nat.{ℕ, ◌+◌, ◌-◌, ◌<◌, ◌≤◌}
use native.Mathlib.Omega.{arith}
use mathlib.Core.Path.{◌≡◌, refl, sym, ap, ◌∙◌}
use mathlib.Core.Bool.{Bool, true, false}
use mathlib.Core.List.{List}
use borrow.Author.Tests.{ltb-true, le-leb, leb-true, eqb-true}
use lib.Dec.{leb, ltb, eqb}
use lib.IntN.{ℤ}
use lib.ListN.{length, get_or}
use Rattle.std.proofs.Common.{Result, Ok, Err}
use Rattle.integers.proofs.Tests.{and_left, and_right}
use Rattle.limits.specs.declared.Stop.{Stop}
use Rattle.limits.specs.declared.Budget.{Budget}
use Rattle.limits.specs.declared.Meter.{Meter}
use Rattle.limits.specs.declared.Refusal.{Refusal}
use Rattle.limits.specs.declared.Refusal.TheVariants.{Limit}
use Rattle.limits.specs.Refusal.{Told, told, replied}
use Rattle.limits.specs.Metered.{Run, going, stopped, answered, Metered, after, ◌>>=◌, ◌>>◌, mapped, through, zoom}
use Rattle.limits.specs.Meter.{meter_of, with_meter}
use Rattle.limits.specs.Budget.{work, bytes, links}
use Rattle.limits.proofs.Answering as answering
use Rattle.limits.proofs.Monad.{then_on, then_stop, through_on, through_stop, through_is, came}
use Rattle.search.specs.Seek.{Place, found, absent}
use Rattle.search.proofs.Complete.{absent_within}
use Rattle.thresholds.specs.Thresholds.{Entry, around}
use Rattle.keys.specs.Key.{Key, number, name, put_cells, probe, seek_key}
use Rattle.store.specs.declared.Counts.{Counts}
use Rattle.store.specs.declared.Store.{Store}
use Rattle.store.specs.declared.Kind.TheVariants.{Feeding}
use Rattle.store.specs.Store.{admits, with_budget, with_constants}
use Rattle.store.specs.Calls.{billing, Marks, marks, entering}
use Rattle.store.proofs.CodeLaws.{charged_counts}
use Rattle.constants.specs.Constant.{bytes_of, retains, classify, cost, settle, keep_key, abandon, retain_key, add_key, KeyTables, key_tables, Tables, tables, in_marks, in_keys, in_header, sized, spacious, constant_call}

-- ---- refusals 1 and 2

module _ (n c o t : ℕ) where
  pub sizes_yes : sized n c o t ≡ true → (n ≡ size.name_cells) × (c ≡ size.constant_cells) × (o ≡ size.constants) × (t ≡ size.thresholds)
  sizes_yes h =
      let j = and_right (eqb n size.name_cells) _ h in
      let k = and_right (eqb c size.constant_cells) _ j in
      (eqb-true n size.name_cells (and_left (eqb n size.name_cells) _ h), eqb-true c size.constant_cells (and_left (eqb c size.constant_cells) _ j), eqb-true o size.constants (and_left (eqb o size.constants) _ k), eqb-true t size.thresholds (and_right (eqb o size.constants) _ k))

module _ (n : Counts) where
  pub room_yes : spacious n ≡ true → (n.constants < 1024) × ((n.keys < 1024) × (n.thresholds ≤ size.thresholds_before_call))
  room_yes h =
      let k = and_right (ltb n.constants 1024) _ h in
      (ltb-true _ _ (and_left (ltb n.constants 1024) _ h), (ltb-true _ _ (and_left (ltb n.keys 1024) _ k), leb-true _ _ (and_right (ltb n.keys 1024) _ k)))

-- ---- what classifying charges

-- a call on the header alone leaves the thresholds
beside : (r : Result (Unit {0}) Refusal) (u : Store) (t : List ℤ) → replied r (marks u t) ≡ mapped (λ s. marks s t) (λ s. marks s t) (λ e. e) (replied r u)
unfolding mapped
beside (Ok a) u t = refl
beside (Err x) u t = refl

pub classified_name : (text : List ℕ) (s : Store) (t : List ℤ) (r : Result (Unit {0}) Refusal) (u : Store) → replied r u ≡ billing (bytes (length text)) s → replied r (marks u t) ≡ classify (name text) (marks s t)
classified_name text s t r u h = beside r u t ∙ through_is _ _ _ _ (billing (bytes (length text))) (marks s t) h

-- ---- a key that is not in the key order yet

module _ (k : Key) (low : ℕ) (s : Store) (n c o : List ℕ) {b : Budget} where
  pub enroll_unpaid : {e : Stop} → stopped e b ≡ cost (s.counts.keys - low) s.budget → stopped (told (Limit e)) (key_tables (with_budget b s) n c o) ≡ settle k s.counts.keys (absent low) (key_tables s n c o)
  unfolding settle ◌>>◌ ◌>>=◌ after through mapped
  enroll_unpaid h = rw (← h)

  pub enroll_new : {y : Run Told KeyTables ℕ} → going tt b ≡ cost (s.counts.keys - low) s.budget → y ≡ add_key k low (key_tables (with_budget b s) n c o) → y ≡ settle k s.counts.keys (absent low) (key_tables s n c o)
  unfolding settle ◌>>◌ ◌>>=◌ after through mapped
  enroll_new h j = rw (← h) j

-- ---- the ways of `keep_key`

module _ (k : Key) (s : Store) (n c o : List ℕ) (m : Meter) {r : Result Place Stop} (h : answered r m ≡ seek_key n c o s.counts.keys k (meter_of s.budget)) {b : Budget} (q : b ≡ with_meter m s.budget) where
  pub keep_halted : {e : Stop} → r ≡ Err e → stopped (told (Limit e)) (key_tables (with_budget b s) n c o) ≡ keep_key k (key_tables s n c o)
  unfolding keep_key ◌>>=◌ after through mapped
  keep_halted e = rw (q, ← h, e)

  module _ {p : Place} (e : r ≡ Ok p) where
    pub keep_found : {i id : ℕ} → p ≡ found i → id ≡ get_or o i 0 → going id (key_tables (with_budget b s) n c o) ≡ keep_key k (key_tables s n c o)
    unfolding keep_key settle ◌>>=◌ after through mapped
    keep_found f g = rw (q, g, ← h, e, f)

    module _ {low : ℕ} (f : p ≡ absent low) where
      pub place_within : low ≤ s.counts.keys
      unfolding seek_key
      place_within = absent_within (probe n c o k) s.counts.keys s.counts.keys (meter_of s.budget) (answering.went h (e ∙ ap Ok f))

      pub keep_new : {y : Run Told KeyTables ℕ} → y ≡ settle k s.counts.keys (absent low) (key_tables (with_budget b s) n c o) → y ≡ keep_key k (key_tables s n c o)
      unfolding keep_key ◌>>=◌ after through mapped
      keep_new j = rw (← h, e, f, ← q) j

-- ---- and of `abandon`

module _ (s : Store) (n c o : List ℕ) {u : Store} where
  pub abandon_unpaid : {f : Told} → stopped f u ≡ billing (links 1) s → stopped f (key_tables u n c o) ≡ abandon (key_tables s n c o)
  unfolding abandon
  abandon_unpaid h = then_stop _ _ _ (through_stop _ _ _ _ (billing (links 1)) _ h)

  pub abandon_new : {c' : List ℕ} → going tt u ≡ billing (links 1) s → c' ≡ put_cells c u.counts.constants 0 0 →
      going u.counts.constants (key_tables (with_constants (u.counts.constants + 1) u) n c' o) ≡ abandon (key_tables s n c o)
  unfolding abandon
  abandon_new h g = then_on _ _ _ (through_on _ _ _ _ (billing (links 1)) _ h) (rw g)

-- ---- either

module _ (k : Key) (s : Store) (n c o : List ℕ) {t : Bool} (h : t ≡ retains s.budget.limits k) {y : Run Told KeyTables ℕ} where
  pub retain_kept : t ≡ true → y ≡ keep_key k (key_tables s n c o) → y ≡ retain_key k (key_tables s n c o)
  unfolding retain_key
  retain_kept e j = rw (← h, e) j

  pub retain_new : t ≡ false → y ≡ abandon (key_tables s n c o) → y ≡ retain_key k (key_tables s n c o)
  unfolding retain_key
  retain_new e j = rw (← h, e) j

-- ---- the call

-- classifying leaves the counts of constants and of keys
abbrev SameRows : Store → Store → Type 0
SameRows u s = (u.counts.constants ≡ s.counts.constants) × (u.counts.keys ≡ s.counts.keys)

module _ (s : Store) (t : List ℤ) {u : Store} {t' : List ℤ} where
  entered_rows : (m : Metered Stop Entry (Unit {0})) → going tt (marks u t') ≡ entering m (marks s t) → SameRows u s
  entered_rows m h =
      let p = came _ _ _ _ _ (marks s t) h in
      let q = came _ _ _ _ m (marks s t) p.from in
      (ap (λ (v : Marks). v.header.counts.constants) (p.is ∙ q.is), ap (λ (v : Marks). v.header.counts.keys) (p.is ∙ q.is))

  named_rows : (m : Metered Stop Budget (Unit {0})) → going tt (marks u t') ≡ zoom (λ (v : Marks). v.header) (λ s v. marks s v.table) (billing m) (marks s t) → SameRows u s
  named_rows m h =
      let p = came _ _ _ _ (billing m) (marks s t) h in
      let e = ap (λ (v : Marks). v.header.counts) p.is ∙ charged_counts m s p.from in
      (ap (λ (n : Counts). n.constants) e, ap (λ (n : Counts). n.keys) e)

  classified_rows : (k : Key) → going tt (marks u t') ≡ classify k (marks s t) → SameRows u s
  classified_rows (number v) h = entered_rows (around v) h
  classified_rows (name b) h = named_rows (bytes (length b)) h

-- an answer with the tables of keys, and one with all tables
wider : (r : Result ℕ Refusal) (w : Store) (n c o : List ℕ) (t : List ℤ) →
    replied r (tables w n c o t) ≡ mapped (λ u. tables u.header u.names u.constants u.order t) (λ u. tables u.header u.names u.constants u.order t) (λ e. e) (replied r (key_tables w n c o))
unfolding mapped
wider (Ok i) w n c o t = refl
wider (Err y) w n c o t = refl

-- what the four tests tell
pub record Passed (k : Key) (s : Store) (n c o : List ℕ) (t : List ℤ) : Type 0 where
  pub sized : sized (length n) (length c) (length o) (length t) ≡ true
  pub short : leb (length (bytes_of k)) 64 ≡ true
  pub opened : admits Feeding s.phase ≡ true
  pub room : spacious s.counts ≡ true

pub passed : (k : Key) (s : Store) (n c o : List ℕ) (t : List ℤ) {measured opened room : Bool} {text : List ℕ} → measured ≡ sized (length n) (length c) (length o) (length t) → measured ≡ true →
    text ≡ bytes_of k → length text ≤ 64 → opened ≡ admits Feeding s.phase → opened ≡ true → room ≡ spacious s.counts → room ≡ true → Passed k s n c o t
passed k s n c o t h₁ e₁ h₂ e₂ h₃ e₃ h₄ e₄ = record { sized = sym h₁ ∙ e₁; short = le-leb (length (bytes_of k)) 64 (rw h₂ at e₂); opened = sym h₃ ∙ e₃; room = sym h₄ ∙ e₄ }

module _ {k : Key} {s : Store} {n c o : List ℕ} {t : List ℤ} (g : Passed k s n c o t) where
  admitted : {y : Run Told Tables ℕ} → y ≡ (in_header (billing (work 1)) >> in_marks (classify k) >> in_keys (retain_key k)) (tables s n c o t) → y ≡ constant_call k (tables s n c o t)
  unfolding constant_call
  admitted h = rw (g.sized, g.short, g.opened, g.room) h

  pub call_unpaid : (r : Refusal) {u : Store} → stopped (told r) u ≡ billing (work 1) s → stopped (told r) (tables u n c o t) ≡ constant_call k (tables s n c o t)
  call_unpaid r p = admitted (then_stop _ _ _ (through_stop _ _ _ _ (billing (work 1)) _ p))

  module _ {u : Store} (p : going tt u ≡ billing (work 1) s) where
    pub call_marks : u.counts.thresholds + 3 ≤ length t
    call_marks = rw (charged_counts (work 1) s p) (omega (arith, (room_yes s.counts g.room).1.1, (sizes_yes (length n) (length c) (length o) (length t) g.sized).3))

    module _ {v : Store} {t' : List ℤ} where
      pub call_unread : (r : Refusal) → stopped (told r) (marks v t') ≡ classify k (marks u t) → stopped (told r) (tables v n c o t') ≡ constant_call k (tables s n c o t)
      call_unread r q = admitted (then_on _ _ _ (through_on _ _ _ _ (billing (work 1)) _ p) (then_stop _ _ _ (through_stop _ _ _ _ (classify k) _ q)))

      module _ (q : going tt (marks v t') ≡ classify k (marks u t)) where
        pub call_room : (v.counts.constants ≤ 1024) × ((v.counts.keys ≤ 1024) × (length (bytes_of k) ≤ 64))
        call_room =
            let a = classified_rows u t k q in
            let b = charged_counts (work 1) s p in
            let h = room_yes s.counts g.room in
            (rw (a.0, b) (omega (arith, h.0)), (rw (a.1, b) (omega (arith, h.1.0)), leb-true (length (bytes_of k)) 64 g.short))

        pub call_id : (r : Result ℕ Refusal) (w : Store) (n' c' o' : List ℕ) → replied r (key_tables w n' c' o') ≡ retain_key k (key_tables v n c o) → replied r (tables w n' c' o' t') ≡ constant_call k (tables s n c o t)
        call_id r w n' c' o' j =
            admitted (then_on _ _ _ (through_on _ _ _ _ (billing (work 1)) _ p) (then_on _ _ _ (through_on _ _ _ _ (classify k) _ q) (wider r w n' c' o' t' ∙ through_is _ _ _ _ (retain_key k) (tables v n c o t') j)))
