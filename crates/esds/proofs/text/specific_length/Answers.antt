-- No bytes where it isn't there, else those of its descriptor.
use native.Mathlib.Omega.{arith}
use mathlib.Core.Path.{ap, refl, ◌∙◌}
use lib.ListN.{length}
use Rattle.esds.proofs.Texts.{text_around, specific_none, specific_given}
use Rattle.descriptors.specs.Parts.{SPECIFIC}
use Rattle.esds.proofs.text.specific_length.Goals as goal

pub returns-then-v-eq0 : goal.returns-then-v-eq0
returns-then-v-eq0 c = (ap length (specific_none _ _ c.if-v-eq0.true), omega arith)

pub returns : goal.returns
returns c = (text_around SPECIFIC _ refl c.around.ensures.0 ∙ ap length (specific_given _ _ c.if-v-eq0.false), omega arith)
