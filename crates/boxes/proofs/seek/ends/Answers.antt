use Rattle.boxes.proofs.Seeking.{ends_whole, ends_torn}
use Rattle.boxes.proofs.Walking.{ran, ended, broke}
use mathlib.Core.Path.{refl, ◌∙◌}
use native.Mathlib.Omega.{arith}
use Rattle.boxes.proofs.seek.ends.Goals as goal

pub loop-next-init : goal.loop-next-init
loop-next-init c = refl

pub loop-next-smaller : goal.loop-next-smaller
loop-next-smaller c = let s = ran _ _ _ _ _ c.step.ensures c.in-Found.is in omega arith

pub loop-next-preserved : goal.loop-next-preserved
loop-next-preserved c = c.loop-next.invariant ∙ (ran _ _ _ _ _ c.step.ensures c.in-Found.is).rest

pub returns-in-End : goal.returns-in-End
returns-in-End c = let o = ended _ _ _ c.step.ensures c.in-End.is in ends_whole c.loop-next.invariant o.0 o.1

pub returns-in-Broken : goal.returns-in-Broken
returns-in-Broken c = let o = broke _ _ _ _ c.step.ensures c.in-Broken.is in ends_torn c.loop-next.invariant o.0 o.1 o.2
