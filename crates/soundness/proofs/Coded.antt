-- Demand 3 for the code: what the entry points ensure of neighbouring raw states is a step, so that the theorem over lists of calls speaks of them.
use mathlib.Core.Path.{◌≡◌, refl, sym, ap, subst, ◌∙◌}
use mathlib.Core.Bool.{Bool, true, false}
use mathlib.Core.List.{List, [], ◌∷◌}
use Rattle.integers.specs.Lists.{All}
use Rattle.std.specs.Prelude.{Result, Ok, Err}
use Rattle.limits.specs.declared.Limits.{Limits}
use Rattle.limits.specs.declared.Refusal.{Refusal}
use Rattle.limits.specs.Refusal.{Told, replied}
use Rattle.limits.specs.Metered.{Run, Metered, pure, after, ◌>>=◌, mapped, through}
use Rattle.store.specs.declared.Store.{Store}
use Rattle.store.specs.Store.{fresh_of}
use Rattle.store.specs.Calls.{context_call, work_call, argument_call, predicate_call}
use Rattle.constants.specs.Constant.{constant_call}
use Rattle.expressions.specs.Expression.{expression_call}
use Rattle.seeds.specs.Seed.{seed_value_call, seed_interval_call}
use Rattle.producers.specs.Producer.{rule_call}
use Rattle.keys.specs.Key.{key_of}
use Rattle.input.specs.Input.{Tables, Reply, on, call, with_header, for_predicate, from_predicate, for_constant, from_constant, for_expression, from_expression, for_value, from_value, for_interval, from_interval, for_rule, from_rule}
use Rattle.input.specs.Input as input
use Rattle.lattice.specs.Value.{value_of}
use Rattle.numeric.specs.Reading.{Reading}
use Rattle.numeric.specs.Answers.{reads, kind}
use Rattle.numeric.specs.Answers as answers
use Rattle.numeric.specs.Question.{Question, Shown, showing}
use Rattle.numeric.specs.Question as asks
use Rattle.soundness.specs.Code as code
use Rattle.numeric.specs.Step.{Call, State, Stepped, stepped, on_store, from_run, on_run, ask, on_reading, step, Event, event, header_of, fresh}
use Rattle.numeric.specs.Step as calls
use Rattle.engine.specs.Call as engine
use Rattle.limits.specs.declared.Refusal.TheVariants.{Shape}
use Rattle.limits.specs.Refusal.{told}
use Rattle.soundness.specs.Fits.{fits}
use Rattle.soundness.specs.Run.{Accepted, accepted, learned}
use Rattle.soundness.specs.Claim.{Typed}
use Rattle.soundness.specs.Code.{tells, leaves, Exchange, context, work, predicate, argument, constant, expression, seed_value, seed_interval, rule, run, reading, Reads, shown_tells, context_count, slot, key, name, status, Exchanges, none, next, other, Begins, Demand3Code}
use Rattle.soundness.proofs.AnySize.{unfit_step, fit_step, Beside, Echoes, echo_none, echo_refused, echo_made, mend, mend_beside}
use Rattle.soundness.proofs.Theorem.{echoes_sound}

-- ---- a store call: what it leaves of its own tables, put back

relayed : {T A : Type 0} (get : Tables → T) (put : T → Tables → Tables) (replies : A → Reply) (m : Metered Told T A) (s : State) (r : Result A Refusal) (u : T) → replied r u ≡ m (get s.tables) →
    stepped (tells (λ a. calls.reply (replies a)) r) (leaves s (put u s.tables)) ≡ on_store s (on get put replies m s.tables)
unfolding ◌>>=◌ after pure through mapped
relayed get put replies m s (Ok a) u h = rw (sym h) refl
relayed get put replies m s (Err e) u h = rw (sym h) refl

-- ---- the run, and a reading

ran_steps : (s : State) (r : Result (Unit {0}) Refusal) (u : engine.Tables) (x : Run Told engine.Tables (Unit {0})) → replied r u ≡ x → stepped (tells (λ _. calls.ran) r) (from_run u s) ≡ on_run s x
ran_steps s (Ok a) u x h = rw (sym h) refl
ran_steps s (Err e) u x h = rw (sym h) refl

shown_steps : {A B : Type 0} (f : B → Shown) (g : A → B) (s : State) (r : Result A Refusal) (y : Reading B) → reads g r ≡ y → stepped (shown_tells f g r) s ≡ on_reading s (showing f y)
shown_steps f g s (Ok a) y h = rw (sym h) refl
shown_steps f g s (Err e) y h = rw (sym h) refl

read_steps : {s : State} {q : Question} {a : calls.Answer} → Reads s q a → stepped a s ≡ on_reading s (ask q s)
read_steps {s} (code.argument a r e) = shown_steps asks.value value_of s r _ e
read_steps {s} (context_count a r e) = shown_steps asks.number (λ n. n) s r _ e
read_steps {s} (code.context a k r e) = shown_steps asks.number (λ n. n) s r _ e
read_steps {s} (slot q k b r e) = shown_steps asks.bound (λ b. b) s r _ e
read_steps {s} (key k r e) = shown_steps asks.kind kind s r _ e
read_steps {s} (name k r e) = shown_steps asks.bytes (λ p. p.now) s r _ e
read_steps {s} (status r e) = shown_steps asks.ended answers.status s r _ e

-- ---- every call

pub exchange_steps : {s t : State} {c : Call} {a : calls.Answer} → Exchange s c a t → stepped a t ≡ step c s
unfolding step call
exchange_steps {s} (context c r h e) = relayed (λ t. t.header) with_header (λ _. input.done) (context_call c) s r h e
exchange_steps {s} (work n r h e) = relayed (λ t. t.header) with_header (λ _. input.done) (work_call n) s r h e
exchange_steps {s} (predicate arity r h p d e) = relayed for_predicate from_predicate input.id (predicate_call arity) s r _ e
exchange_steps {s} (argument p i r e) = relayed (λ t. t.header) with_header input.id (argument_call p i s.tables.predicates) s r s.tables.header e
exchange_steps {s} (constant k r h n c o t e) = relayed for_constant from_constant input.id (constant_call (key_of k)) s r _ e
exchange_steps {s} (expression q r h n e) = relayed for_expression from_expression input.id (expression_call q) s r _ e
exchange_steps {s} (seed_value a k r h d p e) = relayed for_value from_value (λ _. input.done) (seed_value_call s.tables.constants a k) s r _ e
exchange_steps {s} (seed_interval a l u r h d p t e) = relayed for_interval from_interval (λ _. input.done) (seed_interval_call a l u) s r _ e
exchange_steps {s} (rule q r h n p e) = relayed for_rule from_rule input.id (rule_call s.tables.nodes q) s r _ e
exchange_steps {s} (run w r h t a u c g e l) = ran_steps s r _ _ e
exchange_steps {s} (reading q a r) = read_steps r

-- ---- a list of them

-- one exchange: it is refused and changes nothing, or the other store answers it too
echo_next : {s t s' : State} {c : Call} {a : calls.Answer} {es : List Event} {p : Accepted} → Exchange s c a t → (b : Bool) → fits c s ≡ b → (fits c s ≡ false → Echoes p es s') → Typed c → Beside s s' →
    (fits c s ≡ true → Echoes (learned p c a) es (step c s').after) → Echoes p (event c a ∷ es) s'
echo_next {s} {s' = s'} {c = c} {es = es} {p = p} x false e idle t h later =
    subst (λ (b : calls.Answer). Echoes p (event c b ∷ es) s') (sym (ap (λ (d : Stepped). d.answer) (exchange_steps x ∙ unfit_step c s e))) (echo_refused c (told Shape) (idle e))
echo_next {s} {s' = s'} {c = c} {a = a} x true e idle t h later = echo_made c a t (ap (λ (d : Stepped). d.answer) (exchange_steps x) ∙ (fit_step s s' h c e).answer) (later e)

-- what the code's store hears and shows is what the definitions' store does, and by that one whose tables have their sizes
exchanges_echo : {s : State} {es : List Event} → Exchanges s es → All (λ e. Typed e.call) es → (p : Accepted) (s' : State) → Beside s s' → Echoes p es s'
exchanges_echo none t p s' h = echo_none
exchanges_echo {s} (next {t = u} {c = c} {a = a} {es = es} x xs) t p s' h =
    echo_next x (fits c s) refl (λ e. exchanges_echo xs t.1 p s' (subst (λ (v : State). Beside v s') (sym (idle e)) h)) t.0 h
    (λ e. let w = fit_step s s' h c e in exchanges_echo xs t.1 (learned p c a) (step c s').after (subst (λ (v : State). Beside v (step c s').after) (sym (ap (λ (d : Stepped). d.after) (exchange_steps x))) w.after))
  where
    idle : fits c s ≡ false → u ≡ s
    idle e = ap (λ (d : Stepped). d.after) (exchange_steps x ∙ unfit_step c s e)
exchanges_echo {s} (other {x = x} {y = y} {c = c} {a = a} {es = es} f e r xs) t p s' h =
    let i : stepped a y ≡ stepped (calls.refused (told Shape)) x = exchange_steps r ∙ unfit_step c x e in
    let same : y.tables.header ≡ s.tables.header = ap (λ (d : Stepped). d.after.tables.header) i ∙ f in
    subst (λ (b : calls.Answer). Echoes p (event c b ∷ es) s') (sym (ap (λ (d : Stepped). d.answer) i))
    (echo_refused c (told Shape) (exchanges_echo xs t.1 p s' (subst (λ (v : Store). Beside (leaves s (with_header v s.tables)) s') (sym same) h)))

-- the header that `fresh` hands back
pub begun_header : {l : Limits} {a : calls.Answer} {header' : Store} → Begins l a header' → header' ≡ header_of (fresh_of l)
begun_header {l} (code.fresh r header' f) = header header' r ∙ ap header_of f
  where
    header : (t : Store) (r : Result (Unit {0}) Refusal) → t ≡ header_of (replied r t)
    header t (Ok u) = refl
    header t (Err y) = refl

-- demand 3, for every list of raw states whose neighbours are as the entry points ensure
pub sound_code : Demand3Code
sound_code o l a₀ h₀ b s lent es x typed fs a k reached v m =
    echoes_sound o l s lent es
    (exchanges_echo x typed (accepted [] [] [] []) (fresh l (mend s))
    (subst (λ (u : Store). Beside (leaves s (with_header u s.tables)) (fresh l (mend s))) (sym (begun_header b)) (mend_beside s l))) fs a k reached v m
