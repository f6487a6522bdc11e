-- The own bytes of the three parts, found one by the other.
use Rattle.esds.proofs.Opening.{fixed_read}
use Rattle.esds.proofs.value.fixed.Goals as goal

pub returns : goal.returns
returns c =
    fixed_read _ _ c.held-held.ensures _ _ c.own.ensures c.own-2.ensures c.after.ensures
    c.own-3.ensures c.fixed_by.ensures
