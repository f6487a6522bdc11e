-- One after the other.
use Rattle.brands.proofs.conditions.asked.Goals as goal

pub returns : goal.returns
returns c = record { isom = cc; base = cc; early = cc; few = cc; ready = cc }
