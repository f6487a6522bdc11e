use Rattle.wire.proofs.Tests.{eq_yea, eq_nay}
use mathlib.Core.Path.{refl}
use native.Mathlib.Omega.{arith}
use Rattle.rule_lists.proofs.total.most_in.Goals as goal

pub returns-then-k-ne-MOOV : goal.returns-then-k-ne-MOOV
returns-then-k-ne-MOOV c = eq_nay _ _ _ _ _ c.if-k-ne-MOOV.true refl

pub returns : goal.returns
returns c = eq_yea _ _ _ _ _ (omega arith) c.over_most.ensures
