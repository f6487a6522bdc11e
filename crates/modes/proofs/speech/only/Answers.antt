-- As many are of the two kinds as there are entries.
use Rattle.modes.proofs.Described.{only_is}
use Rattle.modes.proofs.speech.only.Goals as goal

pub returns : goal.returns
returns c = only_is _ c.count-2.ensures.0 c.count-3.ensures.0 c.count.ensures.0
