-- One round over a store that calls have reached: whatever the plain run seeds, or puts into an argument by firing a rule on values that lie in
-- the round's values, lies in what the round gives.
use Prim.Native.Nat.{ℕ, ◌*◌, ◌<◌, ◌^◌}
use native.Mathlib.Omega.{arith}
use native.Mathlib.Decide.{ℕ_discrete}
use mathlib.Core.Path.{◌≡◌, refl, sym, subst}
use mathlib.Core.Logic.{inl, inr}
use mathlib.Core.List.{List, [], ◌∷◌, map, Memᴰ}
use mathlib.Core.Option.{Option, some}
use lib.ListN.{length-replicate}
use Rattle.integers.specs.Lists.{All}
use Rattle.limits.specs.declared.Stop.{Stop}
use Rattle.limits.specs.Metered.{Run}
use Rattle.limits.specs.declared.Meter.{Meter}
use Rattle.limits.specs.Meter.{work}
use Rattle.limits.proofs.Monad.{Ensures, weaken, both, for_all}
use Rattle.limits.proofs.Ends.{Ends, completes, stops, ends_as, ends_both, in_some_way, on_then}
use Rattle.lattice.specs.Value.{Value}
use Rattle.sizes.specs.Sizes.{value_row}
use Rattle.rows.specs.Row.{value_at, put}
use Rattle.rows.proofs.RowLaws.{length_put, put_back, put_other}
use Rattle.rows.proofs.Good.{Good, join_good}
use Rattle.keys.specs.Key.{Key}
use Rattle.rules.specs.declared.Head.{Head}
use Rattle.rules.specs.Read.{slots_at, bindings_at, guards_at, heads_at}
use Rattle.producers.specs.Producer.{Scope, scope}
use Rattle.producers.proofs.Scoped.{HeadIn}
use Rattle.slots.proofs.Live.{Formed, formed_put}
use Rattle.refinements.specs.Refinement.{refinements_of}
use Rattle.evaluation.specs.Evaluation.{Input, input}
use Rattle.transfer.specs.Transfer.{Frame, frame, rule, head}
use Rattle.transfer.proofs.Live.{head_good}
use Rattle.rounds.specs.Locals.{Locals, locals, fill, blank_frame, locals_of, own_locals}
use Rattle.rounds.specs.Round.{join_head, apply}
use Rattle.rounds.proofs.Brings.{Brings, rows_of, brings_each, brings_hit, brings_locals}
use Rattle.rounds.proofs.Joined.{brings_head}
use Rattle.rounds.proofs.Live.{Fit, Legible, local_live, Room, head_keeps}
use Rattle.input.specs.Input.{Tables}
use Rattle.input.proofs.Reached.{Reached}
use Rattle.soundness.specs.Plain.{Tree, Opaque, Choice, into, ProperKey, Fires, worth, HeadsGive}
use Rattle.soundness.specs.Tied.{plain_binding, plain_guard, plain_head}
use Rattle.soundness.proofs.Lies.{Lies, join_lies}
use Rattle.soundness.proofs.Worth.{ProperChoice, proper_into}
use Rattle.soundness.proofs.Evaluating.{Sound, Holds}
use Rattle.soundness.proofs.Binding.{Held, Among}
use Rattle.soundness.proofs.Guarding.{known_all}
use Rattle.soundness.proofs.Firing.{Fired}
use Rattle.soundness.proofs.Stored.{bindings_inside, guards_inside, heads_inside, Stage, scene_of, Valued, stored_rule, stored_heads}
use Rattle.soundness.proofs.StoredLive.{guard_inside, binding_inside}

-- ---- the rules of a reached store stay inside their tables

abbrev pub over : Tables → Input
over t = input t.nodes t.constants t.header.budget.limits.width

heads_below : (count : ℕ) (s : Scope) (hs : List Head) → All (HeadIn count s) hs → All (λ h. h.argument < count) hs
heads_below count s [] h = tt
heads_below count s (x ∷ hs) h = (h.0.0, heads_below count s hs h.1)

pub stored_fit : (t : Tables) → Reached t → (id : ℕ) → id < t.header.counts.rules → Fit t.header.counts.positions (over t) t.rules id
stored_fit t r id l =
    let q = r.rules.at id l in
    record {
      bindings = binding_inside t.nodes t.header.counts.expressions (slots_at t.rules id) t.header.counts.positions (bindings_at t.rules id) (bindings_inside q);
      guards = guard_inside t.nodes t.header.counts.expressions (slots_at t.rules id) t.constants t.header.budget.limits.width (guards_at t.rules id) (guards_inside q);
      heads = heads_below t.header.counts.positions (scope t.nodes t.header.counts.expressions (slots_at t.rules id)) (heads_at t.rules id) (heads_inside q);
    }

-- ---- a key that lies in a row

module _ (key : ℕ → Option Key) (cells : List ℕ) (n a : ℕ) (k : Key) where
  pub record Has (rows : List ℕ) : Type 0 where
    pub room : Room n rows
    pub lies : Lies key cells (value_at rows a) k

module _ (t : Tables) (small : All (λ c. c < 2 ^ 32) t.constants) (key : ℕ → Option Key) (n a : ℕ) (inside : a < n) (k : Key) (proper : ProperKey k) where
  abbrev Has' : List ℕ → Type 0
  Has' rows = Has key t.constants n a k rows

  -- a row that is put; b is where
  put_has : (rows : List ℕ) (b : ℕ) → b < n → (x : Value) → Room n rows → Good x → (a ≡ b → Lies key t.constants x k) → ((a ≡ b → ⊥) → Lies key t.constants (value_at rows a) k) → Has' (put rows b x)
  put_has rows b l x p g here else = record {
    room = (omega (arith, p.0, length_put rows b x), formed_put rows b x (omega (arith, p.0)) g p.1);
    lies = elim (ℕ_discrete a b) [
      | yes e ↦ rw (e, put_back rows b x (omega (arith, p.0)) g.formed) (here e)
      | no d ↦ rw (put_other rows b x a d) (else d)
    ];
  }

  -- a head keeps it
  head_has : (l : Locals) → Legible l → (h : Head) → h.argument < n → Brings (rows_of n) Has' Has' (join_head (over t) l.produced l.known h)
  head_has l q h below =
      brings_head n Has' Has' Good (λ rows p. p.room.0) (over t) l.produced l.known h below
      (head_good (over t) small l.produced q.produced l.known q.known h.value)
      (λ v w rows p.
      weaken (λ x f. (f.0.formed, put_has rows h.argument below x p.room f.0 f.1 (λ _. p.lies)))
      (both (join_good (over t).width (value_at rows h.argument) v (p.room.1 h.argument) w)
      (for_all (λ e. join_lies key t.constants (over t).width (value_at rows h.argument) v k proper (inl (subst (λ (i : ℕ). Lies key t.constants (value_at rows i) k) e p.lies))))))

  heads_have : (l : Locals) → Legible l → (hs : List Head) → All (λ h. h.argument < n) hs → All (λ h. Brings (rows_of n) Has' Has' (join_head (over t) l.produced l.known h)) hs
  heads_have l q [] b = tt
  heads_have l q (h ∷ hs) b = (head_has l q h b.0, heads_have l q hs b.1)

  -- and so does a rule
  pub apply_has : (previous : List ℕ) → Formed previous → (id : ℕ) → Fit n (over t) t.rules id → Brings (rows_of n) Has' Has' (apply (over t) t.rules previous id)
  unfolding apply
  apply_has previous formed id fit =
      brings_locals (over t) t.rules id previous Legible (local_live (over t) small fit previous formed)
      (λ l q. brings_each (join_head (over t) l.produced l.known) Has' (heads_at t.rules id) (heads_have l q (heads_at t.rules id) fit.heads))

  -- a head whose value has it brings it about
  head_gives : (l : Locals) → (h : Head) → h.argument ≡ a → Ensures (λ v. Good v × Lies key t.constants v k) (head (over t) l.produced l.known h.value) →
      Brings (rows_of n) (Room n) Has' (join_head (over t) l.produced l.known h)
  head_gives l h e gives =
      let below : h.argument < n = omega arith in
      brings_head n (Room n) Has' (λ v. Good v × Lies key t.constants v k) (λ rows p. p.0) (over t) l.produced l.known h below gives
      (λ v w rows p.
      weaken (λ x f. (f.0.formed, put_has rows h.argument below x p f.0 (λ _. f.1) (λ d. absurd (d (sym e)))))
      (both (join_good (over t).width (value_at rows h.argument) v (p.1 h.argument) w.0) (join_lies key t.constants (over t).width (value_at rows h.argument) v k proper (inr w.1))))

-- ---- the head that gives a value

pub record Hit (o : Opaque) (x : ℕ → Key) (tree : ℕ → Tree) (hs : List Head) (a : ℕ) (k : Key) : Type 0 where
  pub head : Head
  pub among : Memᴰ head hs
  pub argument : head.argument ≡ a
  pub choice : Choice
  pub proper : ProperChoice choice
  pub value : worth o x choice (tree head.value) ≡ some k

pub hit : (o : Opaque) (x : ℕ → Key) (tree : ℕ → Tree) (ch : Choice) → ProperChoice ch → (hs : List Head) (a : ℕ) (k : Key) → HeadsGive o x ch (map (plain_head tree) hs) a k → Hit o x tree hs a k
hit o x tree ch p [] a k x3 = elim x3 [ ]
hit o x tree ch p (h ∷ hs) a k (inl g) = record { head = h; among = Memᴰ.head refl; argument = g.0; choice = into 0 ch; proper = proper_into 0 p; value = g.1 }
hit o x tree ch p (h ∷ hs) a k (inr g) =
    let r = hit o x tree (into 1 ch) (proper_into 1 p) hs a k g in
    record { head = r.head; among = Memᴰ.tail r.among; argument = r.argument; choice = r.choice; proper = r.proper; value = r.value }

-- ---- a rule that fires

module _ {t : Tables} (g : Stage t) (previous : List ℕ) (valued : Valued t previous) (formed : Formed previous) (id : ℕ) (l : id < t.header.counts.rules)
    (fires : Fires g.opaque (Among (scene_of g) previous) g.choices (map (plain_binding g.tree) (bindings_at t.rules id)) (map (plain_guard g.tree) (guards_at t.rules id))) where
  -- the values after guards hold those of the firing, and what guards have recorded holds in it
  record Kept (s : Locals) : Type 0 where
    held : Held (scene_of g) (slots_at t.rules id) s.produced
    known : All (Holds (scene_of g)) s.known

  local_fired : (m : Meter) → Ends (λ s _. Kept s) (λ _ _. Unit {0}) (own_locals (over t) t.rules id previous m)
  unfolding own_locals fill
  local_fired m =
      go
      (on_then (λ u. u.meter) (λ u n. frame n u.domains u.produced u.refinements) (λ u n. frame n u.domains u.produced u.refinements) (λ x. x) {P = λ _ _. Unit {0}} {Q = λ _ _. Unit {0}} (work 1)
      (rule (over t) t.rules id previous) (blank_frame slots m) (in_some_way (work 1 m))
      (λ _ n _.
      stored_rule g previous valued id l fires t.header.budget.limits.width (frame n (blank_frame slots m).domains (blank_frame slots m).produced (blank_frame slots m).refinements)
      (rw (length-replicate {A = ℕ} (value_row * slots) 0) (omega arith)) (rw (length-replicate {A = ℕ} (value_row * slots) 0) (omega arith)))
      (λ _ _ _. tt))
    where
      slots : ℕ
      slots = slots_at t.rules id

      go : {x : Run Stop Frame ℕ} → Ends (λ k u. Fired (scene_of g) (slots_at t.rules id) k u) (λ _ _. Unit {0}) x → Ends (λ s _. Kept s) (λ _ _. Unit {0}) (locals_of x)
      go (completes {a = k} {s = u} h) = completes {a = locals u.domains u.produced (refinements_of u.refinements k)} record { held = h.produced; known = known_all h.known }
      go (stops h) = stops tt

  abbrev count : ℕ
  count = t.header.counts.positions

  abbrev fit : Fit count (over t) t.rules id
  fit = stored_fit t g.reached id l

  -- what the head gives lies in the argument's row
  pub apply_gives : (a : ℕ) (inside : a < count) (k : Key) (proper : ProperKey k) → Hit g.opaque g.choices.slots g.tree (heads_at t.rules id) a k →
      Brings (rows_of count) (Room count) (Has g.key t.constants count a k) (apply (over t) t.rules previous id)
  unfolding apply
  apply_gives a inside k proper h =
      brings_locals (over t) t.rules id previous (λ s. Legible s × Kept s)
      (λ m. ends_as (ends_both (local_live (over t) g.cells fit previous formed m) (local_fired m)) (λ s n z. (z.0.0, (z.0.1, z.1))) (λ _ n z. z.0))
      (λ s q.
      brings_hit (join_head (over t) s.produced s.known) (Room count) (Has g.key t.constants count a k) h.head (heads_at t.rules id) h.among
      (keep_room s q.0 (heads_at t.rules id) fit.heads) (keep_key s q.0 (heads_at t.rules id) fit.heads)
      (head_gives t g.cells g.key count a inside k proper s h.head h.argument
      (weaken (λ v z. (record { formed = z.formed; tidy = z.tidy }, z.covers.at h.choice h.proper k h.value))
      (pick (λ y. Ensures (Sound (scene_of g) y.value) (head (over t) s.produced s.known y.value)) h.head (heads_at t.rules id) h.among
      (stored_heads g previous valued id l t.header.budget.limits.width s.produced q.1.held s.known q.1.known)))))
    where
      keep_room : (s : Locals) → Legible s → (hs : List Head) → All (λ h. h.argument < count) hs → All (λ h. Brings (rows_of count) (Room count) (Room count) (join_head (over t) s.produced s.known h)) hs
      keep_room s q [] b = tt
      keep_room s q (x ∷ hs) b = (head_keeps (over t) g.cells count s q x b.0, keep_room s q hs b.1)

      keep_key : (s : Locals) → Legible s → (hs : List Head) → All (λ h. h.argument < count) hs →
          All (λ h. Brings (rows_of count) (Has g.key t.constants count a k) (Has g.key t.constants count a k) (join_head (over t) s.produced s.known h)) hs
      keep_key s q [] b = tt
      keep_key s q (x ∷ hs) b = (head_has t g.cells g.key count a inside k proper s q x b.0, keep_key s q hs b.1)

      pick : (P : Head → Type 0) (x : Head) (hs : List Head) → Memᴰ x hs → All P hs → P x
      pick P x [] x3 p = elim x3 [ ]
      pick P x (y ∷ hs) (Memᴰ.head e) p = subst P (sym e) p.0
      pick P x (y ∷ hs) (Memᴰ.tail m) p = pick P x hs m p.1
