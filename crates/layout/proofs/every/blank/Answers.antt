-- Nine slots that stand nowhere.
use Rattle.layout.proofs.every.blank.Goals as goal

pub returns : goal.returns
returns c = rw c.none-none.ensures
