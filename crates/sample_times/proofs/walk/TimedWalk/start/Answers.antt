use Rattle.sample_times.proofs.walk.TimedWalk.start.Goals as goal

pub returns : goal.returns
returns c = cc
