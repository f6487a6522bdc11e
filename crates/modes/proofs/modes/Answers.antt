-- The call: the judgement, and then what an accepted file gives.
use Rattle.judge.proofs.Calls.{met, result_accepted, result_passed}
use Rattle.modes.specs.Track.{modes_result}
use Rattle.modes.proofs.modes.Goals as goal

pub modes_in-requires : goal.modes_in-requires
unfolding modes_result
modes_in-requires c = met _ c.judge.ensures c.in_ok-judge.was

pub returns : goal.returns
unfolding modes_result
returns c =
    result_accepted _ c.judge.ensures _ _ _ c.in_ok-judge.was c.modes_in.ensures

pub returns-in_err-judge : goal.returns-in_err-judge
unfolding modes_result
returns-in_err-judge c = result_passed _ c.judge.ensures _ _ _ _ c.in_err-judge.was c.from_residual.ensures.1
