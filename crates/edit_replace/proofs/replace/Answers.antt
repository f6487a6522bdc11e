-- The judgement, and then the replacement in an accepted file.
use Rattle.judge.proofs.Calls.{met, result_accepted, result_passed}
use Rattle.edit_replace.specs.Replace.{replace_result}
use Rattle.edit_replace.specs.Fitting.{entry_result}
use Rattle.edit_replace.proofs.replace.Goals as goal

pub replace_accepted-requires : goal.replace_accepted-requires
unfolding replace_result entry_result
replace_accepted-requires c = met _ c.judge.ensures c.in_ok-judge.was

pub returns : goal.returns
unfolding replace_result entry_result
returns c = result_accepted _ c.judge.ensures _ _ _ c.in_ok-judge.was c.replace_accepted.ensures

pub returns-in_err-judge : goal.returns-in_err-judge
unfolding replace_result entry_result
returns-in_err-judge c = result_passed _ c.judge.ensures _ _ _ _ c.in_err-judge.was c.from_residual.ensures.1
