-- The first line, the tracks, the entries and the brands.
use Rattle.listing.specs.Listing.{accepted_lines}
use Rattle.wire.proofs.Writing.{pen_then}
use native.Mathlib.Omega.{arith}
use Rattle.listing.proofs.lines.put_accepted.Goals as goal

pub returns : goal.returns
unfolding accepted_lines
returns c = (
  pen_then (pen_then (pen_then c.put_part-a.ensures c.put_tracks-b.ensures.0) c.put_entries-c.ensures.0) c.put_brands.ensures.0,
  omega (
    arith,
    c.put_part-a.ensures.next,
    c.put_tracks-b.ensures.1,
    c.put_entries-c.ensures.1,
    c.put_brands.ensures.1,
  ),
)
