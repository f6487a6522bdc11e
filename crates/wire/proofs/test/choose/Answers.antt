use Rattle.wire.proofs.Tests.{eq_yea, eq_nay}
use mathlib.Core.Path.{refl}
use native.Mathlib.Omega.{arith}
use Rattle.wire.proofs.test.choose.Goals as goal

pub returns-then-m-n : goal.returns-then-m-n
returns-then-m-n c = eq_yea _ _ _ _ _ (omega arith) refl

pub returns : goal.returns
returns c = eq_nay _ _ _ _ _ (omega arith) refl
