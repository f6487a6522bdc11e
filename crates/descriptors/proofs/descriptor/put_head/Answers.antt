-- The tag, and then the length.
use native.Mathlib.Omega.{arith}
use Rattle.wire.proofs.Writing.{pen_then}
use Rattle.descriptors.specs.Texts.{head_text}
use Rattle.descriptors.proofs.descriptor.put_head.Goals as goal

pub returns : goal.returns
unfolding head_text
returns c =
    (pen_then c.put_number-m.ensures.0 c.put.ensures.0, omega arith)
