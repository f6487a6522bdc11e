-- The cycle of calls {put_box, put_list}. At depth d the measures are 2 (17 - d) and one more.
use Prim.Native.Nat.{◌+◌, ◌-◌, ◌*◌, ◌≤◌}
use lib.ListN.{length}
use Rattle.wire.specs.Writing.{Rest}
use Rattle.outline.specs.Lines.{printed}
use Rattle.outline.specs.Outline.{wherever, list_lines, rounds_at}
use Rattle.outline.proofs.Rounds.{from}
use Rattle.outline.proofs.list.+put_box_put_list.Given as goal

abbrev pub decreases-put_box : goal.decreases-put_box
decreases-put_box l = 2 * (17 - l.depth)

abbrev pub decreases-put_list : goal.decreases-put_list
decreases-put_list l = 2 * (17 - l.depth) + 1

abbrev pub invariant-put_list-loop-b : goal.invariant-put_list-loop-b
invariant-put_list-loop-b l =
    let whole = printed (list_lines wherever (rounds_at l.depth) l.k l.depth l.place l.part) in
    (l.w.at ≤ length l.part) × Rest whole (printed (from wherever (rounds_at l.depth - 1) l.k l.depth l.place l.part l.w.at)) l.initial.out l.from l.out l.at × (l.at ≤ l.from + 40 * l.w.at)

abbrev pub decreases-put_list-loop-b : goal.decreases-put_list-loop-b
decreases-put_list-loop-b l = length l.part - l.w.at
