use native.Mathlib.Omega.{arith}
use Rattle.clocks.specs.Zones.{leaves}
use Rattle.wire.specs.Clauses.{is_lt, is_le}
use Rattle.wire.proofs.Clauses.{is_lt_lem, not_lt, fails, decides, holds}
use Rattle.wire.proofs.Tests.{eq_yea, eq_nay}
use mathlib.Core.Path.{refl, ◌∙◌}
use Rattle.clocks.proofs.leaves.Goals as goal

pub returns-then-t-eq0 : goal.returns-then-t-eq0
unfolding leaves
returns-then-t-eq0 c = eq_yea _ _ _ _ _ (omega arith) refl

pub returns-then-zone-up : goal.returns-then-zone-up
unfolding leaves is_le
returns-then-zone-up c = eq_nay _ _ _ _ _ (omega arith) (holds _ _ (is_lt_lem _ _ (omega arith)) (decides _))

pub returns-else-zone-up : goal.returns-else-zone-up
unfolding leaves is_lt
returns-else-zone-up c = eq_nay _ _ _ _ _ (omega arith) (not_lt _ _ (omega arith) ∙ fails 0 _ (not_lt _ _ (omega arith)))
