use Rattle.rule.proofs.Places.{sooner_right, sooner_left, sooner_least}
use Rattle.rule.proofs.sooner.Goals as goal

pub returns-in-Ok : goal.returns-in-Ok
returns-in-Ok c = sooner_right _ _ c.in-Ok.is

pub returns-in-Ok-v : goal.returns-in-Ok-v
returns-in-Ok-v c = sooner_left _ _ c.in-Err.is c.in-Ok-v.is

pub returns-in-Err-v : goal.returns-in-Err-v
returns-in-Err-v c = sooner_least _ _ c.in-Err.is c.in-Err-v.is c.min.ensures
