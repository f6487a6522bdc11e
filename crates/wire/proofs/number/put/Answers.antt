-- From the last byte to the first.
use Rattle.wire.proofs.Writing.{pen_put, put_one}
use Rattle.wire.proofs.Putting.{behind_none, behind_more, behind_all}
use mathlib.Core.Path.{refl}
use native.Mathlib.Omega.{arith}
use Rattle.wire.proofs.number.put.Goals as goal

pub loop-i-init : goal.loop-i-init
loop-i-init g c = behind_none _ _ _ _

pub loop-i-preserved : goal.loop-i-preserved
loop-i-preserved g c = behind_more c.loop-i.invariant (omega arith) (pen_put _ _ refl (omega arith) (put_one _ _ _ (omega arith)))

pub returns : goal.returns
returns g c = (behind_all c.loop-i.invariant (omega arith)).is c.requires
