-- A reply tells what the entry point answered, as `Exchange` has it.
use Rattle.std.specs.Prelude.{ℕ, ◌≤◌, Some, None, Result, Ok, Err}
use native.Mathlib.Omega.{arith}
use mathlib.Core.Path.{◌≡◌, refl, sym, ap, subst}
use Rattle.sizes.specs.Sizes as size
use Rattle.limits.specs.declared.Limits.{Limits}
use Rattle.limits.specs.declared.Refusal.{Refusal}
use Rattle.limits.specs.declared.Refusal.TheVariants.{Limit}
use Rattle.limits.specs.Refusal.{told}
use Rattle.store.specs.declared.Store.{Store}
use Rattle.numeric.specs.Step.{Call, Answer, refused, State}
use Rattle.numeric.specs.Step as calls
use Rattle.numeric.specs.Question as asks
use Rattle.interval.specs.declared.Bound.{Bound}
use Rattle.interval.specs.declared.Constant.{Constant}
use Rattle.interval.specs.declared.Constant.TheVariants.{Number, Name, Large}
use Rattle.lattice.specs.declared.Abstract.{Abstract}
use Rattle.lattice.specs.Value.{value_of}
use Rattle.numeric.specs.declared.Ended.{Ended}
use Rattle.numeric.specs.declared.Ended.TheVariants.{Completed, Stopped}
use Rattle.numeric.specs.Reading.{halted}
use Rattle.numeric.specs.Answers.{kind}
use Rattle.numeric.specs.Answers as answers
use Rattle.replies.specs.Reply.{accepting, refusing, reply_of}
use Rattle.replies.proofs.ReplyLaws.{refusing_code, refusing_back}
use Rattle.shown.specs.Shown.{bounded, valued, keyed}
use Rattle.shown.proofs.ShownLaws.{bound_back, value_back}
use Rattle.soundness.specs.Code.{tells, done_tells, id_tells, shown_tells, Begins, Exchange}
use Rattle.service.specs.Told.{answering, done, id, run, number, bound, value, key, status, ended_reply}

pub refusing_told : (a : Answer) (e : Refusal) → answering a (refusing e) ≡ refused (told e)
refusing_told a e = rw (refusing_code e, refusing_back e) refl

pub done_told : (r : Result (Unit {0}) Refusal) → done_tells r ≡ done (reply_of (λ _. 0) r)
done_told (Ok a) = refl
done_told (Err e) = sym (refusing_told _ e)

pub id_told : (r : Result ℕ Refusal) → id_tells r ≡ id (reply_of (λ n. n) r)
id_told (Ok i) = refl
id_told (Err e) = sym (refusing_told _ e)

pub run_told : (r : Result (Unit {0}) Refusal) → tells (λ _. calls.ran) r ≡ run (reply_of (λ _. 0) r)
run_told (Ok a) = refl
run_told (Err e) = sym (refusing_told _ e)

pub number_told : (r : Result ℕ Refusal) → shown_tells asks.number (λ n. n) r ≡ number (reply_of (λ n. n) r)
number_told (Ok n) = refl
number_told (Err e) = sym (refusing_told _ e)

-- an exchange between the headers that words stand for, with the answer that a reply tells
pub exchange_of : (before after : Store → State) {c : Call} {h h₀ h' h₁ : Store} {a a' : Answer} → h ≡ h₀ → h₁ ≡ h' → a ≡ a' → Exchange (before h) c a (after h') → Exchange (before h₀) c a' (after h₁)
exchange_of before after {c} {h} {h₀} {h'} {h₁} {a} {a'} e f g x =
    subst (λ (k : Store). Exchange (before k) c a' (after h₁)) e (subst (λ (k : Store). Exchange (before h) c a' (after k)) (sym f) (subst (λ (b : Answer). Exchange (before h) c b (after h')) g x))

pub begins_of : {l : Limits} {h h' : Store} {a a' : Answer} → h' ≡ h → a ≡ a' → Begins l a h → Begins l a' h'
begins_of {l} {h} {h'} {a} {a'} e f x = subst (λ (k : Store). Begins l a' k) (sym e) (subst (λ (b : Answer). Begins l b h) f x)

-- a reading's, which leaves the header
pub reading_of : (lent : Store → State) {c : Call} {h h₀ : Store} {a a' : Answer} → h ≡ h₀ → a ≡ a' → Exchange (lent h) c a (lent h) → Exchange (lent h₀) c a' (lent h₀)
reading_of lent {c} {h} {h₀} {a} {a'} e g x = subst (λ (k : Store). Exchange (lent k) c a' (lent k)) e (subst (λ (b : Answer). Exchange (lent h) c b (lent h)) g x)

-- there are words for all of a header
pub enough : {n : ℕ} → n ≡ size.header → size.header ≤ n
enough e = omega (arith, e)

-- ---- readings

pub bound_told : (r : Result Bound Refusal) → shown_tells asks.bound (λ b. b) r ≡ bound (bounded r)
bound_told (Ok b) = ap (λ c. calls.shows (asks.bound c)) (sym (bound_back (accepting 0) b))
bound_told (Err e) = sym (refusing_told _ e)

pub value_told : (r : Result Abstract Refusal) → shown_tells asks.value value_of r ≡ value (valued r)
value_told (Ok v) = ap (λ w. calls.shows (asks.value w)) (sym (value_back (accepting 0) v))
value_told (Err e) = sym (refusing_told _ e)

pub key_told : (r : Result Constant Refusal) → shown_tells asks.kind kind r ≡ key (keyed r)
key_told (Ok (Number n)) = refl
key_told (Ok Name) = refl
key_told (Ok Large) = refl
key_told (Err e) = sym (refusing_told _ e)

pub status_told : (r : Result Ended Refusal) → shown_tells asks.ended answers.status r ≡ status (ended_reply r)
status_told (Ok Completed) = refl
status_told (Ok (Stopped e None)) = ap (λ t. calls.shows (asks.ended (halted t None))) (sym (refusing_back (Limit e)))
status_told (Ok (Stopped e (Some c))) = ap (λ t. calls.shows (asks.ended (halted t (Some c)))) (sym (refusing_back (Limit e)))
status_told (Err e) = sym (refusing_told _ e)
