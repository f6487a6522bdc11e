-- The judgement, and then the brand of an accepted file.
use Rattle.judge.proofs.Calls.{met, answer_accepted, answer_passed}
use Rattle.brands.specs.Calls.{brand_answer}
use Rattle.wire.proofs.Clauses.{told}
use mathlib.Core.Path.{ap, refl}
use Rattle.brands.proofs.brand.Goals as goal
use Rattle.rule.specs.Answers.{Done}

pub brand_of-requires : goal.brand_of-requires
unfolding brand_answer
brand_of-requires c = let a = c.in_ok-tracks.ensures in (met _ refl a.0, a.1)

pub returns : goal.returns
unfolding brand_answer
returns c = answer_accepted _ refl _ c.in_ok-tracks.ensures.0 (ap Done (told c.from.ensures c.brand_of.ensures))

pub returns-in_err-tracks : goal.returns-in_err-tracks
unfolding brand_answer
returns-in_err-tracks c = answer_passed _ refl _ _ c.in_err-tracks.ensures c.from_residual.ensures.1
