-- What the code answers of a pass and of an ascent is what the definitions say, over plain variables.
use Prim.Native.Nat.{ℕ, ◌*◌}
use mathlib.Core.Path.{◌≡◌, refl, sym, ap, ◌∙◌}
use mathlib.Core.Bool.{Bool, true, false}
use mathlib.Core.List.{List}
use lib.IntN.{ℤ}
use lib.ListN.{length}
use Rattle.limits.specs.Context.{Context}
use Rattle.std.proofs.Common.{Result, Ok, Err}
use Rattle.limits.specs.declared.Stop.{Stop}
use Rattle.limits.specs.declared.Budget.{Budget}
use Rattle.limits.specs.Metered.{Run, going, stopped, answered}
use Rattle.limits.specs.Budget.{released}
use Rattle.limits.proofs.Monad.{pure_is, bind_on, bind_stop, through_on, through_stop}
use Rattle.slots.specs.Slots.{total}
use Rattle.sizes.specs.Sizes.{value_row}
use Rattle.rows.specs.Row.{moved}
use Rattle.rounds.specs.Round.{Given, standing, course, candidates_of, candidates}
use Rattle.passes.specs.Step.{steps, advance}
use Rattle.passes.specs.Pass.{Ascent, ascent, in_course, replaced, renew, pass, ascend}
use Rattle.rounds.proofs.CodeLaws.{made_stopped, made_on}
use Rattle.passes.proofs.Anew.{advance_anew}
use Rattle.passes.proofs.Rounds.{left, fewer_left, more, pass_pays, ascend_any, ascend_first}

-- ---- the current values renewed

module _ (n : ℕ) (thresholds : List ℤ) (cs current growth : List ℕ) (b : Budget) (c : Context) {x : Result Bool Stop} (paid : Budget) {fewer : Budget} (next growth' lent : List ℕ)
    (size : length lent ≡ value_row * n)
    (h : answered x (steps paid next growth') ≡ advance thresholds current cs 0 n false (steps b lent growth)) (f : fewer ≡ released (total cs n) paid) where
  renewed : (y : Result Bool Stop) → x ≡ y → replaced n cs (ascent b c current growth) (answered y (steps paid next growth')) ≡ renew n thresholds cs (ascent b c current growth)
  unfolding renew
  renewed y q =
      sym (ap (λ (y : Result Bool Stop). replaced n cs (ascent b c current growth) (answered y (steps paid next growth'))) q)
      ∙ advance_anew n thresholds current cs b c growth lent size h

  pub renew_stopped : {e : Stop} → x ≡ Err e → stopped e (ascent fewer c current growth') ≡ renew n thresholds cs (ascent b c current growth)
  renew_stopped q = rw f (renewed _ q)

  pub renew_on : {changed : Bool} {kept : Budget} {current' : List ℕ} → x ≡ Ok changed → kept ≡ released (total current n) fewer → current' ≡ moved next n current →
      going changed (ascent kept c current' growth') ≡ renew n thresholds cs (ascent b c current growth)
  renew_on q k m = rw (k, f, m) (renewed _ q)

-- ---- a pass

module _ (g : Given) (thresholds : List ℤ) (b : Budget) (c : Context) (current growth cs : List ℕ) {x : Result (Unit {0}) Stop} (paid : Budget) (force : Context)
    (h : candidates_of (answered x (standing paid force cs)) ≡ candidates g current (course b c)) where
  pub pass_stopped : {e : Stop} → x ≡ Err e → stopped e (ascent paid force current growth) ≡ pass g thresholds (ascent b c current growth)
  unfolding pass
  pass_stopped q =
      bind_stop (in_course (candidates g current)) (ascent b c current growth) (renew g.positions thresholds)
      (through_stop _ _ _ _ (candidates g current) (ascent b c current growth) (made_stopped _ h q))

  pub pass_on : {y : Run Stop Ascent Bool} → x ≡ Ok tt → y ≡ renew g.positions thresholds cs (ascent paid force current growth) → y ≡ pass g thresholds (ascent b c current growth)
  unfolding pass
  pass_on q k =
      bind_on (in_course (candidates g current)) (ascent b c current growth) (renew g.positions thresholds)
      (through_on _ _ _ _ (candidates g current) (ascent b c current growth) (made_on _ h q)) k

-- ---- the ascent: what is left of it from a state

module _ (g : Given) (thresholds : List ℤ) (s₀ : Ascent) where
  pub record Ascending (s : Ascent) : Type 0 where
    pub is : ascend g thresholds s₀ ≡ ascend g thresholds s

  pub ascending : Ascending s₀
  ascending = record { is = refl }

  module _ {s t : Ascent} (h : Ascending s) where
    pub ascend_stopped : {e : Stop} → stopped e t ≡ pass g thresholds s → stopped e t ≡ ascend g thresholds s₀
    ascend_stopped k = bind_stop (pass g thresholds) s (more g thresholds (left s.budget)) k ∙ sym (h.is ∙ ascend_first g thresholds s)

    pub ascend_settled : going false t ≡ pass g thresholds s → going tt t ≡ ascend g thresholds s₀
    ascend_settled k = bind_on (pass g thresholds) s (more g thresholds (left s.budget)) k (pure_is tt t) ∙ sym (h.is ∙ ascend_first g thresholds s)

    -- a pass that changes something has left the ascent from there
    pub ascend_again : going true t ≡ pass g thresholds s → Ascending t
    ascend_again k =
        record {
          is = h.is ∙ (ascend_first g thresholds s
              ∙ sym (bind_on (pass g thresholds) s (more g thresholds (left s.budget)) k (sym (ascend_any g thresholds (left s.budget) t (fewer_left (pass_pays g thresholds s k))))));
        }
