-- Both halves of the line.
use Rattle.listing.proofs.Listed.{found_line}
use mathlib.Core.Path.{refl}
use native.Mathlib.Omega.{arith}
use Rattle.listing.proofs.lines.put_found.Goals as goal

pub returns : goal.returns
returns c =
    (found_line _ _ _ _ _ c.requires.0 refl c.word32-code.ensures.0 c.put_named-a.ensures.0 c.put_placed.ensures.0, omega arith)
