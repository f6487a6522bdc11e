use Rattle.boxes.proofs.Placing.{past_whole, past_torn}
use Rattle.boxes.proofs.seek.past.Goals as goal

pub returns-in-Ok : goal.returns-in-Ok
returns-in-Ok c = past_whole _ c.ends.ensures c.in-Ok.is

pub returns-in-Err : goal.returns-in-Err
returns-in-Err c = past_torn _ c.ends.ensures _ c.in-Err.is
