-- The cycle of calls {judge_box, judge_in}. At depth d the measures are 2d and 2d + 1.
use Prim.Native.Nat.{◌+◌, ◌-◌, ◌*◌}
use Rattle.boxes.specs.Boxes.{boxes}
use Rattle.judge.specs.Asked.{rule_by}
use Rattle.rule.proofs.Traverse.{Found}
use Rattle.rule.specs.Judge.{judge_box, judge_in}
use lib.ListN.{length}
use Rattle.judge.proofs.rules.+judge_box_judge_in.Given as goal
use Rattle.rule.specs.Verdict.{Fine}

abbrev pub decreases-judge_box : goal.decreases-judge_box
decreases-judge_box l = 2 * l.depth

abbrev pub decreases-judge_in : goal.decreases-judge_in
decreases-judge_in l = 2 * l.depth + 1

abbrev pub invariant-judge_in-loop-b : goal.invariant-judge_in-loop-b
invariant-judge_in-loop-b l = Found (judge_box (rule_by l.n (boxes l.file)) (judge_in (rule_by l.n (boxes l.file)) (l.depth - 1)) l.k) (λ p. Fine) l.part l.base (judge_in (rule_by l.n (boxes l.file)) l.depth l.k l.part l.home l.base) l.found l.w.at

abbrev pub decreases-judge_in-loop-b : goal.decreases-judge_in-loop-b
decreases-judge_in-loop-b l = length l.part - l.w.at
