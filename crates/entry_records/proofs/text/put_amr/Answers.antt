-- `text::put_amr` meets its contract. Assumes nothing.
use Rattle.entry_records.specs.Texts.{amr_text}
use Rattle.wire.proofs.Writing.{pen_then}
use Rattle.entry_records.proofs.text.put_amr.Goals as goal

pub returns : goal.returns
unfolding amr_text
returns c =
    pen_then (pen_then (pen_then (pen_then (pen_then (pen_then (rw c.code.ensures at c.put_audio-a.ensures.0) c.header-b.ensures.0) c.put_number-c.ensures.0) c.put_number-d.ensures.0) c.put_number-e.ensures.0) c.put_number-g.ensures.0) c.put_number.ensures.0
