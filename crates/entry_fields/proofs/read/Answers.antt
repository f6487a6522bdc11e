-- `read` meets its contract. Assumes nothing.
use Rattle.entry_fields.proofs.Answering.{read_some, read_none}
use Rattle.entry_fields.proofs.read.Goals as goal

pub returns-in-Some-Speech : goal.returns-in-Some-Speech
returns-in-Some-Speech c = read_some _ _ _ c.read.ensures _ (rw c.in-Some-Speech.field-0-is at c.in-Some-Speech.is) c.put_amr.ensures

pub returns-in-Some-Picture : goal.returns-in-Some-Picture
returns-in-Some-Picture c = read_some _ _ _ c.read.ensures _ (rw c.in-Some-Picture.field-0-is at c.in-Some-Picture.is) c.put_h263.ensures

pub returns-in-None : goal.returns-in-None
returns-in-None c = read_none _ _ _ c.read.ensures c.in-None.is
