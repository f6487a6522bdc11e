-- The header of the box, four zero bytes, and the ES descriptor.
use mathlib.Core.Path.{◌∙◌}
use Rattle.wire.proofs.Writing.{pen_then}
use Rattle.descriptors.specs.Parts.{ES}
use Rattle.esds.specs.Texts.{es_text, esds_text}
use Rattle.esds.proofs.Texts.{pen_text, length_esds}
use Rattle.esds.proofs.text.put_esds.Goals as goal

pub returns : goal.returns
unfolding esds_text es_text
returns c =
    let z = c.requires.2 in
    pen_then (pen_then (rw (z.whole ∙ length_esds _ _) at c.header-a.ensures.0) c.put_number-b.ensures.0)
    (pen_text ES z.es c.put_head-c.ensures.0 c.put_es.ensures)
