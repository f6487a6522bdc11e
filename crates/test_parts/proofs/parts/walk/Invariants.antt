-- The walk goes on as long as there are bytes left.
use Rattle.std.proofs.Common.{length, ◌-◌, ◌≤◌}
use Rattle.test_parts.proofs.parts.walk.Given as goal

abbrev pub invariant-loop-b : goal.invariant-loop-b
invariant-loop-b l = l.w.at ≤ length l.part

abbrev pub decreases-loop-b : goal.decreases-loop-b
decreases-loop-b l = length l.part - l.w.at
