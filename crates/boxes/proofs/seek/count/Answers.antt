use Rattle.boxes.proofs.Seeking.{passed_none, passed_more, passed_all}
use Rattle.boxes.proofs.Walking.{ran, ended, broke}
use native.Mathlib.Omega.{arith}
use Rattle.boxes.proofs.seek.count.Goals as goal

pub loop-b-init : goal.loop-b-init
loop-b-init c = passed_none _ _

pub overflow_add-n : goal.overflow_add-n
overflow_add-n c = let i = c.loop-b.invariant in omega arith

pub loop-b-smaller : goal.loop-b-smaller
loop-b-smaller c = let s = ran _ _ _ _ _ c.step.ensures c.in-Found.is in omega arith

pub loop-b-preserved : goal.loop-b-preserved
loop-b-preserved c = passed_more c.loop-b.invariant (λ i. (c.type_inv.part i).fits) (ran _ _ _ _ _ c.step.ensures c.in-Found.is) (omega arith)

pub returns-in-End : goal.returns-in-End
returns-in-End c = passed_all c.loop-b.invariant (ended _ _ _ c.step.ensures c.in-End.is).0

pub returns-in-Broken : goal.returns-in-Broken
returns-in-Broken c = passed_all c.loop-b.invariant (broke _ _ _ _ c.step.ensures c.in-Broken.is).0
