-- The three targets are the three kinds of header.
use Rattle.edit_shift.proofs.headers.Goals as goal

pub returns : goal.returns
returns c = rw (c.times.ensures, c.times-2.ensures, c.times-3.ensures)
