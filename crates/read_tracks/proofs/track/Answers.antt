-- The track call: the judgement, and then what an accepted file gives.
use mathlib.Core.Path.{refl}
use Rattle.judge.proofs.Calls.{met, result_accepted, result_passed}
use Rattle.read_tracks.specs.Reads.{track_result}
use Rattle.read_tracks.proofs.track.Goals as goal

pub track_in-requires : goal.track_in-requires
unfolding track_result
track_in-requires c = let a = c.in_ok-tracks.ensures in (met _ refl a.0, a.1)

pub returns : goal.returns
unfolding track_result
returns c = result_accepted _ refl _ _ _ c.in_ok-tracks.ensures.0 c.track_in.ensures

pub returns-in_err-tracks : goal.returns-in_err-tracks
unfolding track_result
returns-in_err-tracks c = result_passed _ refl _ _ _ _ c.in_err-tracks.ensures c.from_residual.ensures.1
