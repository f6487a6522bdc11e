use Rattle.boxes.proofs.Walking.{ran, ended, broke}
use Rattle.movie.proofs.Spots.{spotted_none, spotted_more, spotted_in, spotted_past}
use native.Mathlib.Omega.{arith}
use Rattle.movie.proofs.entry.find_spot.Goals as goal

pub loop-b-init : goal.loop-b-init
loop-b-init c = spotted_none _ _

pub body-requires : goal.body-requires
body-requires c = let s = ran _ _ _ _ _ c.step.ensures c.in-Found.is in (s.least, omega arith)

pub returns-then-left-n : goal.returns-then-left-n
returns-then-left-n c = spotted_in c.loop-b.invariant (λ i. (c.type_inv.moov i).fits) (ran _ _ _ _ _ c.step.ensures c.in-Found.is) c.body.ensures c.held-n.ensures.0 c.if-left-n.true

pub overflow_add-t : goal.overflow_add-t
overflow_add-t c = let i = c.loop-b.invariant.gone.passed in let j = i.few in let k = i.inside in omega arith

pub loop-b-smaller : goal.loop-b-smaller
loop-b-smaller c = let s = ran _ _ _ _ _ c.step.ensures c.in-Found.is in omega arith

pub loop-b-preserved : goal.loop-b-preserved
loop-b-preserved c = spotted_more c.loop-b.invariant (λ i. (c.type_inv.moov i).fits) (ran _ _ _ _ _ c.step.ensures c.in-Found.is) c.body.ensures c.held-n.ensures.0 (omega arith) c.one_track-t.ensures.0

pub returns-in-End : goal.returns-in-End
returns-in-End c = spotted_past c.loop-b.invariant (ended _ _ _ c.step.ensures c.in-End.is).0

pub returns-in-Broken : goal.returns-in-Broken
returns-in-Broken c = spotted_past c.loop-b.invariant (broke _ _ _ _ c.step.ensures c.in-Broken.is).0
