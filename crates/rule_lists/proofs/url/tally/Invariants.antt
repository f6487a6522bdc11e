-- The invariant: the boxes before the walk's place are plain, and each is a `url `.
use Prim.Native.Nat.{◌-◌}
use lib.ListN.{length}
use Rattle.rule_lists.proofs.Urls.{Referred}
use Rattle.rule_lists.proofs.url.tally.Given as goal

abbrev pub invariant-loop-b : goal.invariant-loop-b
invariant-loop-b l = Referred l.part l.n l.w.at

abbrev pub decreases-loop-b : goal.decreases-loop-b
decreases-loop-b l = length l.part - l.w.at
