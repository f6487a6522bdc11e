use native.Mathlib.Omega.{arith}
use Rattle.boxes.proofs.PlainWalking.{plain_ran, plain_ended}
use Rattle.boxes.proofs.Tallying.{tallied_none, tallied_more, tallied_whole, tallied_stopped}
use Rattle.boxes.proofs.seek.tally.Goals as goal

pub loop-b-init : goal.loop-b-init
loop-b-init c = tallied_none _ _

pub overflow_add-n : goal.overflow_add-n
overflow_add-n c = let i = c.loop-b.invariant.passed in omega arith

pub loop-b-smaller : goal.loop-b-smaller
loop-b-smaller c = let s = (plain_ran _ _ _ _ _ c.plain_step.ensures c.in-Found.is).0 in omega arith

pub loop-b-preserved : goal.loop-b-preserved
loop-b-preserved c =
    let s = plain_ran _ _ _ _ _ c.plain_step.ensures c.in-Found.is in
    tallied_more c.loop-b.invariant s.0 (λ i. (c.type_inv.part i).fits) s.1 (omega arith)

pub returns-in-End : goal.returns-in-End
returns-in-End c = let o = plain_ended _ _ _ c.plain_step.ensures c.in-End.is in tallied_whole c.loop-b.invariant o.0 o.1

pub returns-in-Broken : goal.returns-in-Broken
returns-in-Broken c = tallied_stopped c.loop-b.invariant _ _ c.plain_step.ensures c.in-Broken.is
