-- The parts of the line.
use Rattle.outline.specs.Lines.{broken_text}
use Rattle.wire.proofs.Writing.{pen_then}
use native.Mathlib.Omega.{arith}
use Rattle.outline.proofs.line.put_broken.Goals as goal

pub returns : goal.returns
unfolding broken_text
returns c =
    (pen_then c.put_labelled-a.ensures.0 c.put_part.ensures, omega arith)
