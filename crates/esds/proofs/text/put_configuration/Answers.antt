-- Its five numbers, one after the other.
use native.Mathlib.Omega.{arith}
use Rattle.wire.proofs.Writing.{pen_then}
use Rattle.esds.specs.Texts.{configuration_text}
use Rattle.esds.proofs.text.put_configuration.Goals as goal

pub returns : goal.returns
unfolding configuration_text
returns c =
    let u = pen_then (pen_then c.put_number-a.ensures.0 c.put_number-b.ensures.0) c.put_number-c.ensures.0 in
    (pen_then (pen_then u c.put_number-d.ensures.0) c.put_number.ensures.0, omega arith)
