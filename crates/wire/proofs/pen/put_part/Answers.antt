use Rattle.wire.proofs.Writing.{pen_put, pen_past}
use mathlib.Core.Path.{refl}
use native.Mathlib.Omega.{arith}
use Rattle.wire.proofs.pen.put_part.Goals as goal

pub returns-then-r-out : goal.returns-then-r-out
returns-then-r-out c = pen_put _ _ refl (omega arith) c.copy_at.ensures

pub returns : goal.returns
returns c = pen_past _ _ refl (omega arith)
