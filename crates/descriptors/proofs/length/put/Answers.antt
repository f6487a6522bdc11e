-- The bytes with their top bits set, and then the last.
use native.Mathlib.Omega.{arith}
use Rattle.descriptors.proofs.Shortest.{put_last}
use Rattle.descriptors.proofs.length.put.Goals as goal

pub returns : goal.returns
returns c =
    (put_last _ c.least_more.ensures.0 c.put_more-m.ensures.0 c.put_byte.ensures, omega (arith, c.put_byte.ensures.next))
