-- The mark, and then the digits.
use Rattle.wire.proofs.Writing.{pen_then}
use Rattle.dates.proofs.put_marked.Goals as goal

pub returns : goal.returns
returns c = pen_then c.put_byte-a.ensures c.put_two.ensures
