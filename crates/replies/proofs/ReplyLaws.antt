-- Theorems about replies: a reply tells what was answered, so that two answers which 01 tells apart have different replies.
use Rattle.std.specs.Prelude.{ℕ, true, false, eqb, Result, Ok, Err}
use mathlib.Core.Path.{◌≡◌, refl, sym, ap, ◌∙◌}
use Rattle.limits.specs.declared.Resource.{Resource}
use Rattle.limits.specs.declared.Resource.TheVariants.{Work, Predicates, Positions, Links, ValueEntries, Rounds, InspectedBytes}
use Rattle.limits.specs.declared.Refusal.{Refusal}
use Rattle.limits.specs.declared.Refusal.TheVariants.{Closed, Shape, Full, Limit, Missing, Descending, MissingSlot}
use Rattle.limits.specs.Metered.{Run, stopped}
use Rattle.limits.specs.Refusal.{resource_number, told, replied}
use Rattle.replies.specs.Reply.{refusing, reply_of, carries?, told_by, tells, valued}

-- ---- a refusal has a number that is not 0, and tells what it was

-- the resources' numbers, and what a charge tells
resource_code : (r : Resource) → eqb (resource_number r) 0 ≡ false
resource_code Work = refl
resource_code Predicates = refl
resource_code Positions = refl
resource_code Links = refl
resource_code ValueEntries = refl
resource_code Rounds = refl
resource_code InspectedBytes = refl

resource_carries : (r : Resource) → carries? (resource_number r) ≡ true
resource_carries Work = refl
resource_carries Predicates = refl
resource_carries Positions = refl
resource_carries Links = refl
resource_carries ValueEntries = refl
resource_carries Rounds = refl
resource_carries InspectedBytes = refl

pub refusing_code : (r : Refusal) → eqb (refusing r).code 0 ≡ false
refusing_code Closed = refl
refusing_code Shape = refl
refusing_code Full = refl
refusing_code (Limit e) = resource_code e.resource
refusing_code Missing = refl
refusing_code Descending = refl
refusing_code MissingSlot = refl

pub refusing_back : (r : Refusal) → told_by (refusing r) ≡ told r
refusing_back Closed = refl
refusing_back Shape = refl
refusing_back Full = refl
refusing_back (Limit e) = rw (resource_carries e.resource) refl
refusing_back Missing = refl
refusing_back Descending = refl
refusing_back MissingSlot = refl

module _ {S : Type 0} (s : S) where
  refusing_tells : (r : Refusal) → tells (refusing r) s ≡ stopped (told r) s
  refusing_tells r = rw (refusing_code r, refusing_back r) refl

  -- a reply tells what the call answered
  pub reply_tells : {A : Type 0} (value : A → ℕ) (a : Result A Refusal) → tells (reply_of value a) s ≡ valued value (replied a s)
  reply_tells value (Ok a) = refl
  reply_tells value (Err r) = refusing_tells r

  -- so a call that promises its definition by `replied` promises it by its reply
  pub reply_is : {A : Type 0} (value : A → ℕ) (a : Result A Refusal) {y : Run _ S A} → replied a s ≡ y → tells (reply_of value a) s ≡ valued value y
  reply_is value a h = reply_tells value a ∙ ap (valued value) h

  same : (a : Result ℕ Refusal) → valued (λ n. n) (replied a s) ≡ replied a s
  same (Ok n) = refl
  same (Err r) = refl

  -- two answers with the same reply are told alike
  pub reply_back : (a b : Result ℕ Refusal) → reply_of (λ n. n) a ≡ reply_of (λ n. n) b → replied a s ≡ replied b s
  reply_back a b e = sym (same a) ∙ sym (reply_tells (λ n. n) a) ∙ ap (λ r. tells r s) e ∙ reply_tells (λ n. n) b ∙ same b
