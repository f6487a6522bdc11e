-- The judgement, and then the sheet of an accepted file.
use mathlib.Core.Path.{refl}
use Rattle.judge.proofs.Calls.{met, result_accepted, result_passed}
use Rattle.sheet.specs.Reader.{sheet_result}
use Rattle.rule.proofs.Results.{test_all}
use Rattle.sheet.proofs.Accepted.{accepted_fits}
use Rattle.sheet.proofs.sheet.Goals as goal

pub sheet_of-requires : goal.sheet_of-requires
unfolding sheet_result
sheet_of-requires c = let a = c.in_ok-tracks.ensures in (accepted_fits _ (met _ refl a.0), a.1)

pub returns : goal.returns
unfolding sheet_result
returns c = result_accepted _ refl _ _ _ c.in_ok-tracks.ensures.0 (test_all _ _ c.sheet_of.ensures)

pub returns-in_err-tracks : goal.returns-in_err-tracks
unfolding sheet_result
returns-in_err-tracks c = result_passed _ refl _ _ _ _ c.in_err-tracks.ensures c.from_residual.ensures.1
