-- The judgement, and then the count of tracks.
use mathlib.Core.Path.{ap}
use Rattle.judge.proofs.Calls.{answer_accepted, answer_passed}
use Rattle.read_tracks.specs.Reads.{tracks_answer}
use Rattle.read_tracks.proofs.tracks.Goals as goal
use Rattle.rule.specs.Answers.{Done}

pub returns : goal.returns
unfolding tracks_answer
returns c = answer_accepted _ c.judge.ensures _ c.in_ok-judge.was (ap Done c.tracks.ensures.0)

pub returns-in_err-judge : goal.returns-in_err-judge
unfolding tracks_answer
returns-in_err-judge c = answer_passed _ c.judge.ensures _ _ c.in_err-judge.was c.from_residual.ensures.1
