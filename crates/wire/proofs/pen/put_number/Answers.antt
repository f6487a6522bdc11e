use borrow.Author.Rules.{rules}
use native.Mathlib.Omega.{arith}
use Rattle.wire.proofs.Putting.{behind_none, behind_more, behind_all}
use Rattle.wire.proofs.pen.put_number.Goals as goal

pub loop-i-init : goal.loop-i-init
loop-i-init c = behind_none _ _ _ _

pub loop-i-preserved : goal.loop-i-preserved
loop-i-preserved c = behind_more c.loop-i.invariant (omega arith) c.put_byte.ensures

pub returns : goal.returns
returns c = (behind_all c.loop-i.invariant (omega arith), search rules)
