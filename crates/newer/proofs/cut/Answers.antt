use Rattle.newer.proofs.cut.Goals as goal

pub returns : goal.returns
returns c = cc
