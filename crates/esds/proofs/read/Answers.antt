-- The ten numbers, or the refusal.
use Rattle.esds.proofs.Reading.{opened_gives, opened_refuses}
use Rattle.esds.proofs.read.Goals as goal

pub returns : goal.returns
returns c =
    opened_gives c.open.ensures _ _ c.in_ok-e.was c.put.ensures

pub returns-in_err-e : goal.returns-in_err-e
returns-in_err-e c = opened_refuses c.open.ensures _ _ c.in_err-e.was c.from_residual.ensures.1
