use native.Mathlib.Omega.{arith}
use Rattle.wire.proofs.Lists.{tail_is}
use Rattle.frames.proofs.Reading.{reading_none, reading_more, reading_stop, reading_full}
use Rattle.frames.proofs.run.read.Goals as goal

pub loop-count-init : goal.loop-count-init
loop-count-init c = reading_none _ _ _

pub returns-in_default : goal.returns-in_default
returns-in_default c =
    let r = c.loop-count.invariant in
    reading_stop _ r c.mode_set.ensures _ _ (tail_is _ _ r.inside) c.front.ensures.size c.in_default.is

pub loop-count-preserved : goal.loop-count-preserved
loop-count-preserved c =
    let r = c.loop-count.invariant in
    reading_more _ _ _ _ r (tail_is _ _ r.inside) c.front.ensures.size c.byte.ensures.0 (omega arith) c.in-Some.is

pub returns : goal.returns
returns c = reading_full _ c.loop-count.invariant c.mode_set-2.ensures (omega arith)
