-- `lists::same_ids` meets its contract.
use native.Mathlib.Omega.{arith}
use mathlib.Core.Path.{◌≡◌}
use lib.ListN.{length-append}
use Rattle.std.proofs.lemmas.Slice.Zip.{zip_turn, zip_end}
use Rattle.std.specs.Slice.Iter.{iter_rest}
use Rattle.std.specs.Iterator.Adapters.{zip_first, zip_second}
use Rattle.limits.proofs.Answering.{went, broke, exits}
use Rattle.lists.proofs.CodeLaws.{comparing, compared_all, compare_stopped, compare_other, compare_more}
use Rattle.lists.proofs.same_ids.Goals as goal

pub loop-x-init : goal.loop-x-init
loop-x-init c = comparing _ _ _

pub returns-in_err-work : goal.returns-in_err-work
returns-in_err-work c =
    let s = c.into_iter-x-iterator.result in
    let a : iter_rest (zip_first s) ≡ c.args.left.now = cc in
    let b : iter_rest (zip_second s) ≡ c.args.right.now = cc in
    let t = zip_turn _ _ _ s c.loop-x.x-iterator c.next.new.self _ a b c.loop-x.yielded_by (c.in-Some.x, c.in-Some.y) c.in-Some.is c.next.ensures.steps in
    exits c.from_residual.result c.from_residual.ensures.1 (compare_stopped _ _ _ _ c.loop-x.invariant t.0 t.1 (t.2 0) (t.3 0) (broke c.work.ensures c.in_err-work.was))

pub returns-then-x-y : goal.returns-then-x-y
returns-then-x-y c =
    let s = c.into_iter-x-iterator.result in
    let a : iter_rest (zip_first s) ≡ c.args.left.now = cc in
    let b : iter_rest (zip_second s) ≡ c.args.right.now = cc in
    let t = zip_turn _ _ _ s c.loop-x.x-iterator c.next.new.self _ a b c.loop-x.yielded_by (c.in-Some.x, c.in-Some.y) c.in-Some.is c.next.ensures.steps in
    compare_other _ _ _ _ c.loop-x.invariant t.0 t.1 (t.2 0) (t.3 0) (went c.work.ensures c.in_ok-work.was) c.if-x-y.true

pub loop-x-preserved : goal.loop-x-preserved
loop-x-preserved c =
    let s = c.into_iter-x-iterator.result in
    let a : iter_rest (zip_first s) ≡ c.args.left.now = cc in
    let b : iter_rest (zip_second s) ≡ c.args.right.now = cc in
    let t = zip_turn _ _ _ s c.loop-x.x-iterator c.next.new.self _ a b c.loop-x.yielded_by (c.in-Some.x, c.in-Some.y) c.in-Some.is c.next.ensures.steps in
    simp length-append (compare_more _ _ _ _ c.loop-x.invariant t.0 t.1 (t.2 0) (t.3 0) (went c.work.ensures c.in_ok-work.was) c.if-x-y.false)

pub returns : goal.returns
returns c =
    let s = c.into_iter-x-iterator.result in
    let a : iter_rest (zip_first s) ≡ c.args.left.now = cc in
    let b : iter_rest (zip_second s) ≡ c.args.right.now = cc in
    let n = zip_end _ _ _ s c.loop-x.x-iterator c.next.new.self _ a b c.loop-x.yielded_by c.in-None.is c.next.ensures.steps in
    compared_all _ _ _ _ c.loop-x.invariant (omega arith)
