use Rattle.wire.proofs.Writing.{pen_put, pen_past, put_one}
use mathlib.Core.Path.{refl}
use native.Mathlib.Omega.{arith}
use Rattle.wire.proofs.pen.put_byte.Goals as goal

pub returns-then-at-out : goal.returns-then-at-out
returns-then-at-out c = pen_put _ _ refl (omega arith) (put_one _ _ _ (omega arith))

pub returns : goal.returns
returns c = pen_past _ _ refl (omega arith)
