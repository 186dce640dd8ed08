-- Which numbers each call may be turned down with: 01's list, "What a call is turned down with", and what the requests of 02 add to it, call by call.
use mathlib.Core.List.{List, [], ◌∷◌, Memᴰ}
use Rattle.std.specs.Prelude.{ℕ}
use Rattle.input.specs.Input as input
use Rattle.numeric.specs.Question.{Question, argument, context_count, context, slot, key, name, status}
use Rattle.numeric.specs.Step.{Call, store, run, reading, Answer, refused, reply, ran, shows}

-- 5 "remains for ids and positions that do not exist"; "13, low exceeds high; 14, no such slot"
abbrev pub of_store : input.Call → List ℕ
of_store (input.context c) = 1 ∷ []
of_store (input.work n) = 1 ∷ 3 ∷ []
of_store (input.predicate arity) = 1 ∷ 2 ∷ 3 ∷ 6 ∷ 7 ∷ []
of_store (input.argument p i) = 1 ∷ 2 ∷ 5 ∷ []
of_store (input.constant k) = 1 ∷ 2 ∷ 3 ∷ 4 ∷ 8 ∷ []
of_store (input.expression e) = 1 ∷ 2 ∷ 3 ∷ 5 ∷ 8 ∷ []
of_store (input.seed_value a k) = 1 ∷ 2 ∷ 3 ∷ 5 ∷ 8 ∷ 9 ∷ []
of_store (input.seed_interval a low high) = 1 ∷ 2 ∷ 3 ∷ 5 ∷ 8 ∷ 13 ∷ []
of_store (input.rule r) = 1 ∷ 2 ∷ 3 ∷ 5 ∷ 8 ∷ 14 ∷ []

abbrev pub of_reading : Question → List ℕ
of_reading (argument a) = 1 ∷ 5 ∷ []
of_reading (context_count a) = 1 ∷ 5 ∷ []
of_reading (context a k) = 1 ∷ 5 ∷ []
of_reading (slot r k after) = 1 ∷ 5 ∷ 14 ∷ []
of_reading (key k) = 1 ∷ 5 ∷ []
of_reading (name k) = 1 ∷ 5 ∷ []
of_reading status = 1 ∷ []

-- a run that is taken is not turned down: what stops it is its Stop
abbrev pub own_refusals : Call → List ℕ
own_refusals (store c) = of_store c
own_refusals (run w) = 1 ∷ 2 ∷ []
own_refusals (reading q) = of_reading q

-- a refusal has one of these numbers
abbrev pub Within : List ℕ → Answer → Type 0
Within l (refused t) = Memᴰ t.number l
Within l (reply r) = Unit {0}
Within l ran = Unit {0}
Within l (shows s) = Unit {0}
