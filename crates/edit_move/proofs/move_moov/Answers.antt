-- The judgement, and then the move of an accepted file.
use Rattle.judge.proofs.Calls.{met, result_accepted, result_passed}
use Rattle.edit_move.specs.Moving.{move_result}
use Rattle.edit_move.proofs.move_moov.Goals as goal

pub move_accepted-requires : goal.move_accepted-requires
unfolding move_result
move_accepted-requires c = met _ c.judge.ensures c.in_ok-judge.was

pub returns : goal.returns
unfolding move_result
returns c = result_accepted _ c.judge.ensures _ _ _ c.in_ok-judge.was c.move_accepted.ensures

pub returns-in_err-judge : goal.returns-in_err-judge
unfolding move_result
returns-in_err-judge c = result_passed _ c.judge.ensures _ _ _ _ c.in_err-judge.was c.from_residual.ensures.1
