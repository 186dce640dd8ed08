-- The claim speaks of something: 01's own example is such a list of calls. Its run completes and shows 0 to 10 for argument 0, and firings of its
-- one rule put 10 there. Worked out by the checker: every definition that the calls need is unfolded.
use Prim.Native.Nat.{ℕ, ◌≤◌}
use native.Mathlib.Omega.{arith}
use mathlib.Core.Path.{◌≡◌, refl, sym, subst}
use mathlib.Core.Logic.{inl, inr}
use mathlib.Core.List.{List, [], ◌∷◌, Memᴰ}
use mathlib.Core.Option.{some}
use lib.IntN.{pos}
use Rattle.keys.specs.Key.{number, compare_keys}
use Rattle.search.specs.Seek.{Less}
use Rattle.rules.specs.declared.Relation.TheVariants.{Lt}
use Rattle.input.specs.Input as input
use Rattle.numeric.specs.Question as asks
use Rattle.numeric.specs.Step.{Call, State, state, Event, event, fresh}
use Rattle.numeric.specs.Step as calls
use Rattle.soundness.specs.Plain.{Opaque, PlainState, Tree, constant, slot, binary, worth, Choices, compare, positive}
use Rattle.nodes.specs.declared.Expression.TheVariants.{Constant, Slot, Binary}
use Rattle.nodes.specs.declared.BinaryOp.TheVariants.{Add}
use Rattle.soundness.specs.Example.{example_limits, blank_state, example_work, example_rule, zero_to_ten, example_calls}
use Rattle.soundness.specs.Run.{Accepted, accepted, named, one, PlainRule, heard, heard_from, Firing, Produces, Seeded, Reaches, fired}
use Rattle.integers.specs.Lists.{from, inserted}
use Rattle.integers.specs.Order.{min_z, max_z, number?}
use Rattle.limits.specs.Budget.{charge}
use Rattle.limits.specs.Charge.{charge_of, units_of}
use Rattle.limits.specs.Meter.{work, units, retain, release}
use Rattle.limits.specs.Metered.{pure, after, ◌>>=◌, ◌>>◌, fold_m, mapped, through}
use Rattle.search.specs.Seek.{seek}
use Rattle.thresholds.specs.Thresholds.{seek_number, insert, cost, settle, enter, enter_number, around}
use Rattle.lists.specs.Lists.{push, retain_all, take_one, collect, permits_in, same_ids}
use Rattle.keys.specs.Key.{compare_bytes, name_at, key_at, seek_key}
use Rattle.interval.specs.Interval.{hull_of, meet_of, checked_of}
use Rattle.range.specs.Range.{new_of}
use Rattle.lattice.specs.Lattice.{copied, same, join, permitted, keep_one, sift, reduce, meet, refine}
use Rattle.rows.specs.Row.{padded, encode, decode, value_at, put, values_of, moved}
use Rattle.store.specs.Calls.{context_call, work_call, argument_call, declared, bottoms, predicate_call}
use Rattle.constants.specs.Constant as constants_Constant
use Rattle.constants.specs.Constant.{keep_key, abandon, retain_key, constant_call}
use Rattle.nodes.specs.Node.{node_at, nesting_at, expression_at, put_node}
use Rattle.expressions.specs.Expression as expressions_Expression
use Rattle.expressions.specs.Expression.{seek_node, older, share, expression_call}
use Rattle.expressions.specs.Places.{first_node}
use Rattle.provenance.specs.Provenance.{provenance}
use Rattle.seeds.specs.Seed.{joined, seed, constant_value, seed_value_call, seed_ends, seed_interval_call}
use Rattle.rules.specs.Read.{slots_at, context_at, binding_count, guard_count, head_count, binding_at, guard_at, head_at}
use Rattle.rules.specs.Rule.{flat, put_rule}
use Rattle.producers.specs.Producer as producers_Producer
use Rattle.producers.specs.Producer.{each, check_in, check_expression, check_pair, check_value, check_head, check_heads, check_body, check_rule, rule_call}
use Rattle.slots.specs.Slots as slots_Slots
use Rattle.slots.specs.Slots.{total, replace, meet_owned, tops, copies}
use Rattle.refinements.specs.Refinement.{refinement_at, put_refinement, restrict, position, note}
use Rattle.operators.specs.Literal.{literal}
use Rattle.evaluation.specs.Evaluation.{known_in, known_identity, combined, after_one, after_two, evaluate_in, expression, both}
use Rattle.bindings.specs.Bindings.{assigned, spanning, ranged, meeting, three_passes, bind}
use Rattle.affine.specs.Affine.{affine}
use Rattle.guards.specs.Guards.{narrow_known, refine_operand, refine_both, compared, member, with_both, guard_step, guard_all, guard}
use Rattle.transfer.specs.Transfer.{guarding, rule, head}
use Rattle.widening.specs.Places.{first_place}
use Rattle.widening.specs.Widening.{nearest, below, above, widen_low, widen_high, widen, growth_at, put_growth, no_growth}
use Rattle.rounds.specs.Locals.{fill, own_locals, with_locals}
use Rattle.rounds.specs.Round.{each_rule, join_owned, join_head, apply, produce, image, candidates}
use Rattle.passes.specs.Pass.{renew, pass, passes, ascend}
use Rattle.passes.specs.Step.{with_change, widen_value, grow, advance_one, advance}
use Rattle.results.specs.Result.{put_bound, keep_bounds, keep_both, bound, close, last_round, closing, last}
use Rattle.engine.specs.Call.{ran_on, run_call, values_left, run_leaves}
use Rattle.engine.specs.Run.{enter_ends, seeded, begin, ascend_and_end, finish}
use Rattle.input.specs.Input.{call, played}
use Rattle.numeric.specs.Reading.{argument_reading, contexts_of, context_count_reading, context_reading, slot_reading, key_reading, name_reading, status_reading}
use Rattle.numeric.specs.Step.{step, play}

-- ---- the calls

example_events : List Event
example_events =
    event (calls.store (input.predicate 1)) (calls.reply (input.id 0)) ∷
    event (calls.store (input.argument 0 0)) (calls.reply (input.id 0)) ∷
    event (calls.store (input.constant (number (pos 0)))) (calls.reply (input.id 0)) ∷
    event (calls.store (input.constant (number (pos 1)))) (calls.reply (input.id 1)) ∷
    event (calls.store (input.constant (number (pos 10)))) (calls.reply (input.id 2)) ∷
    event (calls.store (input.seed_value 0 0)) (calls.reply input.done) ∷
    event (calls.store (input.expression (Slot 0))) (calls.reply (input.id 0)) ∷
    event (calls.store (input.expression (Constant 1))) (calls.reply (input.id 1)) ∷
    event (calls.store (input.expression (Constant 2))) (calls.reply (input.id 2)) ∷
    event (calls.store (input.expression (Binary Add 0 1))) (calls.reply (input.id 3)) ∷
    event (calls.store (input.rule example_rule)) (calls.reply (input.id 0)) ∷
    event (calls.run example_work) calls.ran ∷
    event (calls.reading (asks.argument 0)) (calls.shows (asks.value zero_to_ten)) ∷
    []

-- its calls are answered so: the run completes
example_played : play (fresh example_limits blank_state) example_calls ≡ example_events
unfolding example_events from inserted min_z max_z number? charge charge_of units_of work units retain release pure after ◌>>=◌ ◌>>◌ fold_m mapped through seek seek_number insert cost settle enter enter_number around push retain_all take_one collect permits_in same_ids compare_bytes name_at key_at seek_key hull_of meet_of checked_of new_of copied same join permitted keep_one sift reduce meet refine padded encode decode value_at put values_of moved context_call work_call argument_call declared bottoms predicate_call constants_Constant.cost constants_Constant.settle keep_key abandon retain_key constant_call node_at nesting_at expression_at put_node expressions_Expression.settle seek_node older share expression_call first_node provenance joined seed constant_value seed_value_call seed_ends seed_interval_call slots_at context_at binding_count guard_count head_count binding_at guard_at head_at flat put_rule producers_Producer.cost each check_in check_expression check_pair check_value check_head check_heads check_body check_rule rule_call slots_Slots.each total replace meet_owned tops copies refinement_at put_refinement restrict position note literal known_in known_identity combined after_one after_two evaluate_in expression both assigned spanning ranged meeting three_passes bind affine narrow_known refine_operand refine_both compared member with_both guard_step guard_all guard guarding rule head first_place nearest below above widen_low widen_high widen growth_at put_growth no_growth fill own_locals with_locals each_rule join_owned join_head apply produce image candidates renew pass passes ascend with_change widen_value grow advance_one advance put_bound keep_bounds keep_both bound close last_round closing last ran_on run_call values_left run_leaves enter_ends seeded begin ascend_and_end finish call played argument_reading contexts_of context_count_reading context_reading slot_reading key_reading name_reading status_reading step play
example_played = refl

-- ---- what is heard of it

sum : Tree
sum = binary Add (slot 0) (constant (number (pos 1)))

plain_rule : PlainRule
plain_rule = record {
  bindings = positive 0 0 ∷ [];
  guards = compare (slot 0) Lt (constant (number (pos 10))) ∷ [];
  heads = (record { argument = 0; value = sum }) ∷ [];
}

example_said : Accepted
example_said =
    accepted (named 0 (number (pos 0)) ∷ named 1 (number (pos 1)) ∷ named 2 (number (pos 10)) ∷ [])
    (named 0 (slot 0) ∷ named 1 (constant (number (pos 1))) ∷ named 2 (constant (number (pos 10))) ∷ named 3 sum ∷ [])
    (one 0 (number (pos 0)) ∷ []) (plain_rule ∷ [])

example_heard : heard example_events ≡ example_said
unfolding heard_from example_events example_said plain_rule sum
example_heard = refl

-- ---- firings

chosen : (i : ℕ) → i ≤ 10 → Choices
chosen i l = record {
  slots = λ _. number (pos i);
  choice = λ _. number (pos 0);
  proper_slots = λ _. (omega arith, omega arith);
  proper_choice = λ _. (omega arith, omega arith);
}

firing : (i : ℕ) → i ≤ 10 → Firing
firing i l = record { rule = plain_rule; choices = chosen i l }

-- with i in argument 0, below 10, it gets i + 1
next : (o : Opaque) (s : PlainState) (i j : ℕ) (l : i ≤ 10) → compare_keys (number (pos i)) (number (pos 10)) ≡ Less → worth o (λ _. number (pos i)) (λ _. number (pos 0)) sum ≡ some (number (pos j)) →
    s 0 (number (pos i)) → Produces o example_said s (firing i l) 0 (number (pos j))
unfolding example_said firing chosen plain_rule worth
next o s i j l below worked here = record {
  among = Memᴰ.head refl;
  fires = record {
    bindings = (here, tt);
    guards = (record { left = number (pos i); right = number (pos 10); is_left = refl; is_right = refl; related = below }, tt);
  };
  gives = inl (refl, worked);
}

example_firings : List Firing
example_firings =
    firing 0 (omega arith) ∷ firing 1 (omega arith) ∷ firing 2 (omega arith) ∷ firing 3 (omega arith) ∷ firing 4 (omega arith) ∷ firing 5 (omega arith) ∷ firing 6 (omega arith) ∷ firing 7 (omega arith) ∷ firing 8 (omega arith) ∷ firing 9 (omega arith) ∷ []

seeded_zero : Seeded example_said 0 (number (pos 0))
unfolding example_said
seeded_zero = record { seed = one 0 (number (pos 0)); among = Memᴰ.head refl; gives = (refl, refl) }

-- ten of them put 10 there
example_reaches : (o : Opaque) → Reaches o example_said example_firings 0 (number (pos 10))
unfolding fired example_firings worth sum number?
example_reaches o =
    inr (next o _ 9 10 (omega arith) refl refl (inr (next o _ 8 9 (omega arith) refl refl (inr (next o _ 7 8 (omega arith) refl refl (inr (next o _ 6 7 (omega arith) refl refl (inr (next o _ 5 6 (omega arith) refl refl (inr (next o _ 4 5 (omega arith) refl refl (inr (next o _ 3 4 (omega arith) refl refl (inr (next o _ 2 3 (omega arith) refl refl (inr (next o _ 1 2 (omega arith) refl refl (inr (next o _ 0 1 (omega arith) refl refl (seeded_zero))))))))))))))))))))

-- ---- both

-- the calls of the example, on its fresh store, show 0 to 10 for argument 0, and some firings put 10 there
pub record Reached (o : Opaque) (es : List Event) : Type 0 where
  pub shown : Memᴰ (event (calls.reading (asks.argument 0)) (calls.shows (asks.value zero_to_ten))) es
  pub firings : List Firing
  pub reaches : Reaches o (heard es) firings 0 (number (pos 10))

ends_with : Memᴰ (event (calls.reading (asks.argument 0)) (calls.shows (asks.value zero_to_ten))) example_events
unfolding example_events
ends_with = Memᴰ.tail (Memᴰ.tail (Memᴰ.tail (Memᴰ.tail (Memᴰ.tail (Memᴰ.tail (Memᴰ.tail (Memᴰ.tail (Memᴰ.tail (Memᴰ.tail (Memᴰ.tail (Memᴰ.tail (Memᴰ.head refl))))))))))))

pub example_reached : (o : Opaque) → Reached o (play (fresh example_limits blank_state) example_calls)
example_reached o =
    subst (Reached o) (sym example_played) record { shown = ends_with; firings = example_firings; reaches = subst (λ (p : Accepted). Reaches o p example_firings 0 (number (pos 10))) (sym example_heard) (example_reaches o) }
