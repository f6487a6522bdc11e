use Rattle.boxes.proofs.Walking.{ran, ended, broke}
use Rattle.movie.proofs.Counting.{tally_none, tally_more, tally_all}
use native.Mathlib.Omega.{arith}
use Rattle.movie.proofs.entry.entries.Goals as goal

pub loop-b-init : goal.loop-b-init
loop-b-init c = tally_none _

pub body-requires : goal.body-requires
body-requires c = let s = ran _ _ _ _ _ c.step.ensures c.in-Found.is in (s.least, omega arith)

pub loop-b-smaller : goal.loop-b-smaller
loop-b-smaller c = let s = ran _ _ _ _ _ c.step.ensures c.in-Found.is in omega arith

pub loop-b-preserved : goal.loop-b-preserved
loop-b-preserved c = tally_more c.loop-b.invariant (ran _ _ _ _ _ c.step.ensures c.in-Found.is) c.body.ensures c.held-n.ensures.0 c.held-n.ensures.1

pub returns-in-End : goal.returns-in-End
returns-in-End c = tally_all c.loop-b.invariant (ended _ _ _ c.step.ensures c.in-End.is).0 _ c.payload-moov.ensures

pub returns-in-Broken : goal.returns-in-Broken
returns-in-Broken c = tally_all c.loop-b.invariant (broke _ _ _ _ c.step.ensures c.in-Broken.is).0 _ c.payload-moov.ensures
