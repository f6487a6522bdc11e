-- The invariant: the numbers of the first i are rewritten.
use Prim.Native.Nat.{◌*◌}
use Rattle.boxes.specs.Words.{moved, Worded}
use Rattle.boxes.proofs.words.reword_all.Given as goal

abbrev pub invariant-loop-i : goal.invariant-loop-i
invariant-loop-i l = Worded (moved l.by) l.initial.table l.table (4 * l.i)
