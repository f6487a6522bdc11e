-- The parts of the first half.
use Rattle.listing.specs.Lines.{entry_named}
use Rattle.wire.proofs.Writing.{pen_then}
use native.Mathlib.Omega.{arith}
use Rattle.listing.proofs.line.put_named.Goals as goal

pub returns : goal.returns
unfolding entry_named
returns c =
    (pen_then (pen_then (pen_then c.put_labelled-a.ensures.0 c.put_labelled-b.ensures.0) c.put_part-d.ensures) c.put_code.ensures.0, omega arith)
