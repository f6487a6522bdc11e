-- Number by number.
use Rattle.esds.proofs.Values.{values_said}
use Rattle.esds.proofs.value.values_by.Goals as goal

pub returns : goal.returns
returns c =
    values_said _ _ _ _ c.word16.ensures.0 c.byte.ensures.0 c.byte-2.ensures.0 c.word24.ensures.0
    c.word32.ensures.0 c.word32-2.ensures.0
