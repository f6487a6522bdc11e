-- The parts of the line, one after the other.
use Rattle.listing.specs.Lines.{track_line}
use Rattle.wire.proofs.Writing.{pen_then}
use native.Mathlib.Omega.{arith}
use Rattle.listing.proofs.line.put_track.Goals as goal

pub returns : goal.returns
unfolding track_line
returns c =
    (pen_then (pen_then (pen_then (pen_then (pen_then c.put_labelled-a.ensures.0 c.put_part-b.ensures) c.put_handler-c.ensures.0) c.put_labelled-d.ensures.0) c.put_labelled-e.ensures.0) c.put_part.ensures, omega arith)
