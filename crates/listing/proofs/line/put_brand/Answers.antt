-- The parts of the line.
use Rattle.listing.specs.Lines.{brand_line}
use Rattle.wire.proofs.Writing.{pen_then}
use native.Mathlib.Omega.{arith}
use Rattle.listing.proofs.line.put_brand.Goals as goal

pub returns : goal.returns
unfolding brand_line
returns c = (pen_then (pen_then c.put_part-a.ensures c.put_number-b.ensures.0) c.put_yes.ensures.0, omega arith)
