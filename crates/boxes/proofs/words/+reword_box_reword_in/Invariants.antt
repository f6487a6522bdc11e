-- The cycle of calls {reword_box, reword_in}. At depth d the measures are 2d and 2d + 1.
use Prim.Native.Nat.{◌+◌, ◌-◌, ◌*◌}
use Rattle.boxes.specs.Rewrite.{edit_box, edit_in, Looped}
use Rattle.boxes.specs.Words.{moved, reword_each}
use Rattle.wire.specs.Numbers.{Bytes}
use lib.ListN.{length}
use Rattle.boxes.proofs.words.+reword_box_reword_in.Given as goal

abbrev pub decreases-reword_box : goal.decreases-reword_box
decreases-reword_box l = 2 * l.depth

abbrev pub decreases-reword_in : goal.decreases-reword_in
decreases-reword_in l = 2 * l.depth + 1

abbrev pub invariant-reword_in-loop-b : goal.invariant-reword_in-loop-b
invariant-reword_in-loop-b l = Looped (edit_box (reword_each l.ts (moved l.by)) (edit_in (reword_each l.ts (moved l.by)) (l.depth - 1)) l.k) l.initial.part l.part l.w.at × Bytes l.part

abbrev pub decreases-reword_in-loop-b : goal.decreases-reword_in-loop-b
decreases-reword_in-loop-b l = length l.part - l.w.at
