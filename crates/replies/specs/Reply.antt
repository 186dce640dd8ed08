-- A call's answer as five words: 0 and a value, or the number of the refusal, for a charge with the limit and the two halves of the observed sum.
use Rattle.std.specs.Prelude.{ℕ, ◌+◌, ◌*◌, ◌^◌, Bool, true, false, cond, eqb, [], ◌∷◌, get_or, Result, Ok, Err}
use Rattle.limits.specs.declared.Stop.{Stop}
use Rattle.limits.specs.declared.Refusal.{Refusal}
use Rattle.limits.specs.declared.Refusal.TheVariants.{Limit}
use Rattle.limits.specs.Metered.{Run, going, stopped}
use Rattle.limits.specs.Refusal.{Told, told, resource_number}
use Rattle.replies.specs.declared.Reply.{Reply}

-- ---- from an answer to a reply

abbrev pub accepting : ℕ → Reply
accepting n = record { code = 0; value = n; limit = 0; high = 0; low = 0 }

abbrev pub limiting : Stop → Reply
limiting s = record { code = resource_number s.resource; value = 0; limit = s.limit; high = s.high; low = s.low }

abbrev pub plain : ℕ → Reply
plain n = record { code = n; value = 0; limit = 0; high = 0; low = 0 }

-- the values of a charge, and of any other refusal its number alone
abbrev pub refusing : Refusal → Reply
refusing (Limit s) = limiting s
refusing r = plain (told r).number

-- `value` says which number an answer is told as: itself, or 0 where there is nothing to tell
abbrev pub reply_of : {A : Type 0} → (A → ℕ) → Result A Refusal → Reply
reply_of value (Ok a) = accepting (value a)
reply_of value (Err r) = refusing r

-- ---- and back: what a reply tells

-- 01: "Numbers 3, 4 and 6 to 10 carry resource, limit and observed sum"; what requests add carries none
abbrev pub carries? : ℕ → Bool
carries? n = get_or (false ∷ false ∷ false ∷ true ∷ true ∷ false ∷ true ∷ true ∷ true ∷ true ∷ true ∷ []) n false

abbrev pub told_by : Reply → Told
told_by r = record { number = r.code; values = cond (carries? r.code) (r.limit ∷ (r.high * 2 ^ 64 + r.low) ∷ []) [] }

-- a reply and the state that the call leaves, as what the call's definition gives
abbrev pub tells : {S : Type 0} → Reply → S → Run Told S ℕ
tells r s = cond (eqb r.code 0) (going r.value s) (stopped (told_by r) s)

-- what a call's definition gives, its answer told as a number
abbrev pub valued : {E S A : Type 0} → (A → ℕ) → Run E S A → Run E S ℕ
valued value (going a s) = going (value a) s
valued value (stopped e s) = stopped e s
