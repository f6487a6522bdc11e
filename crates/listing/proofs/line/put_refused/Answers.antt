-- The parts of the line.
use Rattle.listing.specs.Lines.{refused_line}
use Rattle.wire.proofs.Writing.{pen_then}
use Rattle.listing.proofs.line.put_refused.Goals as goal

pub returns : goal.returns
unfolding refused_line
returns c =
    pen_then (pen_then c.put_labelled-a.ensures.0 c.put_labelled-b.ensures.0) c.put_part.ensures
