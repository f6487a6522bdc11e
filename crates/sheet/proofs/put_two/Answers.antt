-- The number of two bytes and two zeros.
use Rattle.sheet.proofs.Slots.{two_is}
use Rattle.wire.proofs.Writing.{pen_is}
use native.Mathlib.Omega.{arith}
use Rattle.sheet.proofs.put_two.Goals as goal

pub returns : goal.returns
returns c = (pen_is (two_is _ _ (omega arith) (omega arith)) c.put_word.ensures.0, omega arith)
