-- One byte after the other.
use Rattle.wire.proofs.Numbers.{word_none, word_next, word_grown, word_room}
use mathlib.Core.Path.{sym}
use native.Mathlib.Omega.{arith}
use Rattle.wire.proofs.number.word_in.Goals as goal

pub loop-i-init : goal.loop-i-init
loop-i-init g c = (sym (word_none _ _), omega arith)

pub overflow_mul-n : goal.overflow_mul-n
overflow_mul-n g c = record { fits = omega (arith, word_room {b = 0} _ c.loop-i.invariant.1 (omega arith) (omega arith)) }

pub overflow_add-n : goal.overflow_add-n
overflow_add-n g c = record { fits = omega (arith, word_room _ c.loop-i.invariant.1 c.wide.ensures.1 (omega arith)) }

pub loop-i-preserved : goal.loop-i-preserved
loop-i-preserved g c =
    (word_next _ _ _ c.loop-i.invariant.0 c.wide.ensures.0 (omega arith), word_grown _ c.loop-i.invariant.1 c.wide.ensures.1)
