-- The call for samples: the judgement, and then what an accepted file gives.
use Rattle.judge.proofs.Calls.{met, result_accepted, result_passed}
use Rattle.read_samples.specs.Reads.{samples_result}
use Rattle.read_samples.proofs.samples.Goals as goal

pub samples_in-requires : goal.samples_in-requires
unfolding samples_result
samples_in-requires c = met _ c.judge.ensures c.in_ok-judge.was

pub returns : goal.returns
unfolding samples_result
returns c =
    result_accepted _ c.judge.ensures _ _ _ c.in_ok-judge.was c.samples_in.ensures

pub returns-in_err-judge : goal.returns-in_err-judge
unfolding samples_result
returns-in_err-judge c = result_passed _ c.judge.ensures _ _ _ _ c.in_err-judge.was c.from_residual.ensures.1
