-- The invariant: all bytes but the first i are put, and those are the last of m.
use Rattle.wire.proofs.Putting.{Behind}
use Rattle.wire.proofs.pen.put_number.Given as goal

abbrev pub invariant-loop-i : goal.invariant-loop-i
invariant-loop-i l = Behind l.initial.out l.at l.width l.n l.out l.i l.m
