-- `write` meets its contract. Assumes nothing.
use Rattle.entry_fields.proofs.Answering.{write_as}
use Rattle.entry_fields.proofs.write.Goals as goal

pub returns-in-Ok : goal.returns-in-Ok
returns-in-Ok c = write_as _ _ _ c.record_of.ensures c.write.ensures c.in-Ok.is

pub returns-in-Err-BadFields : goal.returns-in-Err-BadFields
returns-in-Err-BadFields c = write_as _ _ _ c.record_of.ensures c.write.ensures (rw c.in-Err-BadFields.field-0-is at c.in-Err-BadFields.is)

pub returns-in-Err-TooShort : goal.returns-in-Err-TooShort
returns-in-Err-TooShort c = write_as _ _ _ c.record_of.ensures c.write.ensures (rw c.in-Err-TooShort.field-0-is at c.in-Err-TooShort.is)
