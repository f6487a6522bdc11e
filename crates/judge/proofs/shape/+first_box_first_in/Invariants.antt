-- The cycle of calls {first_box, first_in}. At depth d the measures are 2d and 2d + 1.
use Prim.Native.Nat.{◌+◌, ◌-◌, ◌*◌}
use Rattle.boxes.specs.Boxes.{after}
use Rattle.judge.specs.Asked.{first_by, form_first}
use Rattle.rule.proofs.Traverse.{Found}
use Rattle.rule.specs.Judge.{judge_in}
use lib.ListN.{length, drop}
use mathlib.Core.Path.{◌≡◌}
use Rattle.judge.proofs.shape.+first_box_first_in.Given as goal
use Rattle.rule.specs.Verdict.{Fine}

abbrev pub decreases-first_box : goal.decreases-first_box
decreases-first_box l = 2 * l.depth

abbrev pub decreases-first_in : goal.decreases-first_in
decreases-first_in l = 2 * l.depth + 1

abbrev pub invariant-first_in-loop-b : goal.invariant-first_in-loop-b
invariant-first_in-loop-b l =
    Found (form_first l.n (l.depth - 1) l.k) ((first_by l.n).end (after l.part)) l.part l.base (judge_in (first_by l.n) l.depth l.k l.part l.home l.base) Fine l.w.at
    × (after l.part ≡ after (drop l.w.at l.part))

abbrev pub decreases-first_in-loop-b : goal.decreases-first_in-loop-b
decreases-first_in-loop-b l = length l.part - l.w.at
