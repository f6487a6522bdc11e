-- The invariant: every box before the walk's place is a `url `.
use Prim.Native.Nat.{◌-◌}
use Rattle.boxes.specs.Boxes.{boxes}
use Rattle.rule_lists.specs.Nine.{url_at, urls_from}
use Rattle.rule.proofs.Traverse.{Found}
use lib.ListN.{length}
use Rattle.rule_lists.proofs.url.urls_from.Given as goal
use Rattle.rule.specs.Verdict.{Fine}

abbrev pub invariant-loop-b : goal.invariant-loop-b
invariant-loop-b l = Found url_at (λ q. Fine) l.part l.base (urls_from (boxes l.part) l.base) Fine l.w.at

abbrev pub decreases-loop-b : goal.decreases-loop-b
decreases-loop-b l = length l.part - l.w.at
