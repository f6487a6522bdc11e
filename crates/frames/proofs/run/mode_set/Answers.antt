use native.Mathlib.Omega.{arith}
use Rattle.frames.proofs.Flags.{term_most, summed_none, summed_more, summed_all}
use Rattle.frames.proofs.run.mode_set.Goals as goal

pub loop-t-init : goal.loop-t-init
loop-t-init c = summed_none _

pub overflow_mul-modes : goal.overflow_mul-modes
overflow_mul-modes c = let m = term_most _ c.loop-t.t c.byte.ensures.1 (omega arith) in record { fits = omega arith }

pub overflow_add-modes : goal.overflow_add-modes
overflow_add-modes c = let m = term_most _ c.loop-t.t c.byte.ensures.1 (omega arith) in record { fits = omega arith }

pub loop-t-preserved : goal.loop-t-preserved
loop-t-preserved c = summed_more _ c.loop-t.invariant (omega arith) c.byte.ensures.0 c.byte.ensures.1

pub returns : goal.returns
returns c = summed_all c.loop-t.invariant (omega arith)
