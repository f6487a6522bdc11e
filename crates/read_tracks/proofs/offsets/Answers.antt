-- The call for chunk offsets: the judgement, and then what an accepted file gives.
use Rattle.judge.proofs.Calls.{met, result_accepted, result_passed}
use Rattle.read_tracks.specs.Reads.{offsets_result}
use Rattle.read_tracks.proofs.offsets.Goals as goal

pub offsets_in-requires : goal.offsets_in-requires
unfolding offsets_result
offsets_in-requires c = met _ c.judge.ensures c.in_ok-judge.was

pub returns : goal.returns
unfolding offsets_result
returns c = result_accepted _ c.judge.ensures _ _ _ c.in_ok-judge.was c.offsets_in.ensures

pub returns-in_err-judge : goal.returns-in_err-judge
unfolding offsets_result
returns-in_err-judge c = result_passed _ c.judge.ensures _ _ _ _ c.in_err-judge.was c.from_residual.ensures.1
