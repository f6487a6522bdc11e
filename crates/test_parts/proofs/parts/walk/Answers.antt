use Rattle.boxes.proofs.Walking.{ran}
use native.Mathlib.Omega.{arith}
use Rattle.test_parts.proofs.parts.walk.Goals as goal

pub loop-b-smaller : goal.loop-b-smaller
loop-b-smaller c = let s = ran _ _ _ _ _ c.step.ensures c.in-Found.is in omega arith

pub loop-b-preserved : goal.loop-b-preserved
loop-b-preserved c = let s = ran _ _ _ _ _ c.step.ensures c.in-Found.is in omega arith
