-- Four lines, one after the other.
use Rattle.listing.specs.Listing.{brand_lines}
use Rattle.wire.proofs.Writing.{pen_then}
use native.Mathlib.Omega.{arith}
use Rattle.listing.proofs.lines.put_brands.Goals as goal

pub returns : goal.returns
unfolding brand_lines
returns c =
    (pen_then (pen_then (pen_then c.put_brand-a.ensures.0 c.put_brand-b.ensures.0) c.put_brand-c.ensures.0) c.put_brand.ensures.0, omega arith)
