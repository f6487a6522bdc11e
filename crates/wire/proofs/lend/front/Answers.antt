use lib.Seq.{take_all}
use mathlib.Core.Path.{sym}
use native.Mathlib.Nat.{sub-zero}
use native.Mathlib.Omega.{arith}
use Rattle.wire.proofs.lend.front.Goals as goal

pub returns-then-n-part : goal.returns-then-n-part
returns-then-n-part c = rw sub-zero

pub returns : goal.returns
returns c = let a = c.args in sym (take_all a.n a.part.now (omega arith))
