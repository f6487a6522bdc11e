-- Each number is read where its box stands.
use Rattle.layout.proofs.every.told.Goals as goal

pub returns : goal.returns
returns c = rw (c.word32-3.ensures.0, c.bytes-3.ensures, c.word32-2.ensures.0, c.bytes-2.ensures, c.word32.ensures.0, c.bytes.ensures)
