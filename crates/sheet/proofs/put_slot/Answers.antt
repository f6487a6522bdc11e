-- Kind and track, and then two numbers.
use Rattle.sheet.specs.Sheet.{slot}
use Rattle.wire.proofs.Writing.{pen_then}
use native.Mathlib.Omega.{arith}
use Rattle.sheet.proofs.put_slot.Goals as goal

pub returns : goal.returns
unfolding slot
returns c = (pen_then (pen_then c.put_two-a.ensures.0 c.put_word-b.ensures.0) c.put_word.ensures.0, omega arith)
