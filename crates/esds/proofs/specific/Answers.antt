-- What the call gives tells the part.
use Rattle.esds.proofs.Reading.{part_given, part_refused}
use Rattle.esds.proofs.specific.Goals as goal

pub returns-in-Ok : goal.returns-in-Ok
returns-in-Ok c =
    part_given c.open.ensures _ _ c.in-Ok.is c.rest.ensures c.front.ensures

pub returns-in-Err : goal.returns-in-Err
returns-in-Err c = part_refused c.open.ensures _ _ _ c.in-Err.is
