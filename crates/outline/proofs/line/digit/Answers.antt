-- Below ten and from ten on.
use mathlib.Core.Path.{refl}
use native.Mathlib.Omega.{arith}
use Rattle.wire.proofs.Tests.{lt_yea, lt_nay}
use Rattle.outline.specs.Lines.{digit}
use Rattle.outline.proofs.line.digit.Goals as goal

pub returns-then-n-lt10 : goal.returns-then-n-lt10
unfolding digit
returns-then-n-lt10 c = (lt_yea _ _ _ _ _ (omega arith) refl, omega arith)

pub returns : goal.returns
unfolding digit
returns c = (lt_nay _ _ _ _ _ (omega arith) refl, omega arith)
