-- The invariant: n sample entries before the walk's place, and nothing broken there.
use Prim.Native.Nat.{◌-◌}
use Rattle.rule_lists.proofs.Totals.{Counted}
use Rattle.rule_lists.specs.Five.{MOST}
use lib.ListN.{length}
use Rattle.rule_lists.proofs.total.over_most.Given as goal

abbrev pub invariant-loop-b : goal.invariant-loop-b
invariant-loop-b l = Counted MOST l.part l.base l.n l.w.at

abbrev pub decreases-loop-b : goal.decreases-loop-b
decreases-loop-b l = length l.part - l.w.at
