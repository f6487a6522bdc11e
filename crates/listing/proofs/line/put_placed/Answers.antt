-- The parts of the second half.
use Rattle.listing.specs.Lines.{entry_placed}
use Rattle.wire.proofs.Writing.{pen_then}
use native.Mathlib.Omega.{arith}
use Rattle.listing.proofs.line.put_placed.Goals as goal

pub returns : goal.returns
unfolding entry_placed
returns c =
    (pen_then (pen_then c.put_labelled-a.ensures.0 c.put_labelled-b.ensures.0) c.put_part.ensures, omega arith)
