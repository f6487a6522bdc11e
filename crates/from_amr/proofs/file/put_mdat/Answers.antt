-- The bytes, and then the header.
use Rattle.from_amr.proofs.Writing.{pen_close}
use Rattle.from_amr.proofs.file.put_mdat.Goals as goal

pub returns : goal.returns
returns c = pen_close _ c.put_part-r.ensures c.put_header.ensures
