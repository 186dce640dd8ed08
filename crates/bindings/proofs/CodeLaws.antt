-- What the code of bindings answers is what the definitions say, over plain variables.
use Prim.Native.Nat.{ℕ}
use mathlib.Core.Path.{◌≡◌}
use mathlib.Core.List.{List, []}
use Rattle.limits.specs.declared.Stop.{Stop}
use Rattle.limits.specs.Metered.{going, stopped, pure}
use Rattle.limits.specs.declared.Meter.{Meter}
use Rattle.limits.specs.Meter.{released, dropping}
use Rattle.limits.proofs.Monad.{bind_stop, bind_on, pure_is}
use Rattle.limits.proofs.CodeLaws.{drop_on}
use Rattle.interval.specs.declared.Interval.{Interval}
use Rattle.lattice.specs.Value.{Value}
use Rattle.lattice.specs.Lattice.{numeric}
use Rattle.operators.specs.Arithmetic.{span}
use Rattle.evaluation.specs.declared.Operand.{Operand}
use Rattle.evaluation.specs.Evaluation.{Input, Values, both}
use Rattle.evaluation.specs.Operands.{operand, sees_both}
use Rattle.evaluation.proofs.Operands.{seen_pair, pair_stop}
use Rattle.bindings.specs.Bindings.{spanning, ranged}

-- ---- the value of a range binding

module _ (i : Input) (rows : List ℕ) (low high : ℕ) (m : Meter) where
  pub ends_stopped : {s : Stop} {t : Meter} → stopped s t ≡ sees_both (both i rows [] low high m) → stopped s t ≡ ranged i rows low high m
  unfolding ranged
  ends_stopped h = bind_stop _ m spanning (pair_stop (both i rows [] low high m) h)

  -- the second is dropped first
  spans : {p : Values} {a b : Operand} {t u w : Meter} {v : Value} {j : Interval} → going p t ≡ both i rows [] low high m → operand p.first ≡ a → operand p.second ≡ b → u ≡ released b.entries t →
      w ≡ released a.entries u → j ≡ span a.bound.interval b.bound.interval → v ≡ numeric j → going v w ≡ ranged i rows low high m
  unfolding ranged spanning
  spans h pa pb eu ew ej ev = rw (ev, ej, ew, eu, ← pa, ← pb) (bind_on _ m spanning h (drop_on _ (dropping _ (pure _)) _ (drop_on _ (pure _) _ (pure_is _ _))))

  pub ends_made : {a b : Operand} {t u w : Meter} {v : Value} {j : Interval} → going (a, b) t ≡ sees_both (both i rows [] low high m) → u ≡ released b.entries t → w ≡ released a.entries u →
      j ≡ span a.bound.interval b.bound.interval → v ≡ numeric j → going v w ≡ ranged i rows low high m
  ends_made h eu ew ej ev = let p = seen_pair (both i rows [] low high m) h in spans p.is p.first p.second eu ew ej ev
