-- 20, or the walk at its start over the track's tables.
use Rattle.judge.proofs.Exact.{accepted_meets}
use Rattle.read_tracks.proofs.Reading.{numbered_at, numbered_none}
use Rattle.read_samples.specs.Stands.{StoodAs}
use Rattle.read_samples.proofs.Standing.{stand_none, stand_starts}
use Rattle.read_samples.proofs.stand.start_in.Goals as goal

pub numbered_track-requires : goal.numbered_track-requires
unfolding StoodAs
numbered_track-requires c = accepted_meets _ c.requires

pub returns : goal.returns
unfolding StoodAs
returns c =
    stand_starts _ _ c.requires (numbered_at _ _ _ c.numbered_track.ensures c.in-Some.is) c.start.ensures

pub returns-in_default : goal.returns-in_default
unfolding StoodAs
returns-in_default c =
    stand_none _ _ c.requires (numbered_none _ _ _ c.numbered_track.ensures c.in_default.is)
