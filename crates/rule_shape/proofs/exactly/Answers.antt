use Rattle.rule_shape.proofs.Shape.{asked_none, asked_more, asked_bad, asked_all}
use native.Mathlib.Omega.{arith}
use Rattle.rule_shape.proofs.exactly.Goals as goal

pub loop-code-init : goal.loop-code-init
loop-code-init c = asked_none _ _ _

pub returns-then-count-n : goal.returns-then-count-n
returns-then-count-n c = asked_bad c.loop-code.invariant (omega arith) (λ e. omega arith)

pub loop-code-preserved : goal.loop-code-preserved
loop-code-preserved c = asked_more c.loop-code.invariant (omega arith) (omega arith)

pub returns : goal.returns
returns c = asked_all c.loop-code.invariant (omega arith)
