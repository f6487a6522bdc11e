-- The ES number and the flags, the decoder configuration around the specific information, and the SL configuration.
use mathlib.Core.Path.{sym}
use Rattle.wire.proofs.Numbers.{length_bytes_lem}
use Rattle.wire.proofs.Writing.{pen_then}
use Rattle.descriptors.specs.Parts.{CONFIGURATION, SL}
use Rattle.esds.specs.Texts.{configuration_body, es_body}
use Rattle.esds.proofs.Texts.{pen_text}
use Rattle.esds.proofs.text.put_es.Goals as goal

pub returns : goal.returns
unfolding es_body configuration_body
returns c =
    let e = c.requires.3 in
    pen_then (pen_then (pen_then c.put_number-a.ensures.0 c.put_number-b.ensures.0)
    (pen_text CONFIGURATION e c.put_head-c.ensures.0 (pen_then c.put_configuration-d.ensures.0 c.put_specific-e.ensures.0)))
    (pen_text SL (sym (length_bytes_lem 1 2)) c.put_head-f.ensures.0 c.put_number.ensures.0)
