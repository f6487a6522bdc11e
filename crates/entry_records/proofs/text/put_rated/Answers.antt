-- `text::put_rated` meets its contract. Assumes nothing.
use Rattle.entry_records.specs.Texts.{rated_text}
use Rattle.wire.proofs.Writing.{pen_then}
use Rattle.entry_records.proofs.text.put_rated.Goals as goal

pub returns : goal.returns
unfolding rated_text
returns c =
    pen_then (pen_then (pen_then c.put_plain-a.ensures.0 c.header-b.ensures.0) c.put_number-c.ensures.0) c.put_number.ensures.0
