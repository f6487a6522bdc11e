-- The parts of the line.
use native.Mathlib.Omega.{arith}
use Rattle.wire.proofs.Writing.{pen_then}
use Rattle.outline.specs.Lines.{box_text}
use Rattle.outline.proofs.line.put_box.Goals as goal

pub returns : goal.returns
unfolding box_text
returns c =
    let place = pen_then (pen_then c.put_part-a.ensures c.put_code-b.ensures.0) c.put_labelled-d.ensures.0 in
    (pen_then (pen_then (pen_then place c.put_labelled-e.ensures.0) c.put_labelled-f.ensures.0) c.put_part.ensures, omega arith)
