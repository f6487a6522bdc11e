-- One of the six codes, `udta`, or none.
use mathlib.Core.Path.{refl}
use native.Mathlib.Omega.{arith}
use Rattle.wire.proofs.Tests.{eq_yea, eq_nay}
use Rattle.outline.specs.Outline.{opens_as}
use Rattle.outline.proofs.list.opens_as.Goals as goal

pub returns-then-parent-ne0 : goal.returns-then-parent-ne0
unfolding opens_as
returns-then-parent-ne0 c = eq_nay _ _ _ _ _ (omega arith) refl

pub returns-then-c-eq-UDTA : goal.returns-then-c-eq-UDTA
unfolding opens_as
returns-then-c-eq-UDTA c = eq_yea _ _ _ _ _ (omega arith) (eq_yea _ _ _ _ _ (omega arith) refl)

pub returns : goal.returns
unfolding opens_as
returns c = eq_yea _ _ _ _ _ (omega arith) (eq_nay _ _ _ _ _ (omega arith) refl)
