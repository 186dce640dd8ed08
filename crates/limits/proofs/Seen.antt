-- What follows from a clause `seen of r s ≡ y`, at each way out of the code.
use mathlib.Core.Path.{◌≡◌, sym, ap, ◌∙◌}
use Rattle.std.proofs.Common.{Result, Ok, Err}
use Rattle.std.specs.Prelude.{IsErrAnd}
use Rattle.std.proofs.lemmas.Result.{err_from_is_err_and}
use Rattle.limits.specs.Metered.{Run, going, stopped, seen}

module _ {E S A B : Type 0} (of : A → B) {s : S} {y : Run E S B} where
  pub seen_went : {r : Result A E} {a : A} → seen of r s ≡ y → r ≡ Ok a → going (of a) s ≡ y
  seen_went h e = ap (λ (x : Result A E). seen of x s) (sym e) ∙ h

  pub seen_broke : {r : Result A E} {e : E} → seen of r s ≡ y → r ≡ Err e → stopped e s ≡ y
  seen_broke h e = ap (λ (x : Result A E). seen of x s) (sym e) ∙ h

  -- the exit of a `?`, from what that exit returns
  pub seen_exits : (x : Result A E) {e : E} → IsErrAnd x (λ d. d ≡ e) → stopped e s ≡ y → seen of x s ≡ y
  seen_exits x h k = let p = err_from_is_err_and x h in rw (p.1, p.2) k
