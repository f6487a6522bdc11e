-- `text::put_plain` meets its contract. Assumes nothing.
use Rattle.entry_records.specs.Texts.{plain_text}
use Rattle.wire.proofs.Writing.{pen_then}
use Rattle.wire.specs.Numbers.{bytes_on, bytes}
use native.Mathlib.Omega.{arith}
use Rattle.entry_records.proofs.text.put_plain.Goals as goal

pub returns : goal.returns
unfolding plain_text bytes bytes_on
returns c =
    (pen_then (pen_then (pen_then (pen_then (pen_then c.put_visual-a.ensures.0 c.header-b.ensures.0) c.put_number-c.ensures.0) c.put_number-d.ensures.0) c.put_number-e.ensures.0) c.put_number.ensures.0, omega arith)
