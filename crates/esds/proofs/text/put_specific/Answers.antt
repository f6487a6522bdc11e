-- Nothing, or its descriptor.
use native.Mathlib.Omega.{arith}
use mathlib.Core.Path.{refl}
use Rattle.wire.proofs.Writing.{pen_none, pen_is}
use Rattle.descriptors.specs.Parts.{SPECIFIC}
use Rattle.esds.proofs.Texts.{specific_none, specific_given, pen_text}
use Rattle.esds.proofs.text.put_specific.Goals as goal

pub returns-then-v-eq0 : goal.returns-then-v-eq0
returns-then-v-eq0 c = (pen_is (specific_none _ _ c.if-v-eq0.true) (pen_none _ _), omega arith)

pub returns : goal.returns
returns c = (
  pen_is (specific_given _ _ c.if-v-eq0.false) (pen_text SPECIFIC refl c.put_head-a.ensures.0 c.put_part.ensures),
  omega (arith, c.put_part.ensures.next),
)
