use Rattle.judge.proofs.Order.{passed_more, passed_bad, passed_all}
use Rattle.judge.proofs.AtOnce.{sure_passed}
use native.Mathlib.Omega.{arith}
use Rattle.judge.proofs.judge_from.Goals as goal

pub loop-number-init : goal.loop-number-init
loop-number-init c = let p = c.requires in (sure_passed _ p.0 p.1 p.2, p.1)

pub loop-number-preserved : goal.loop-number-preserved
loop-number-preserved c = let i = c.loop-number.invariant in
    (passed_more _ _ i.0 (omega arith) c.verdict_of.ensures c.in-Ok.is, i.1)

pub returns-in-Err : goal.returns-in-Err
returns-in-Err c = let i = c.loop-number.invariant in
    passed_bad _ _ i.0 (omega arith) c.verdict_of.ensures _ c.in-Err.is

pub returns : goal.returns
returns c = let i = c.loop-number.invariant in passed_all _ _ i.0 (omega arith)
