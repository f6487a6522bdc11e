-- The invariant: no rule before this one is broken.
use Prim.Native.Nat.{◌≤◌}
use Rattle.boxes.specs.Containers.{LONGEST}
use Rattle.judge.proofs.Order.{Passed}
use lib.ListN.{length}
use Rattle.judge.proofs.judge_from.Given as goal

abbrev pub invariant-loop-number : goal.invariant-loop-number
invariant-loop-number l = Passed l.file l.number × (length l.file ≤ LONGEST)
