-- The judgement, the minutes, and then the shift by their zone.
use mir.Syntax.{w64}
use mir.ValLaws.{to_z-of_z}
use Rattle.clocks.proofs.Signed.{zone_found}
use Rattle.judge.proofs.Calls.{met, result_passed}
use Rattle.edit_shift.specs.Shift.{shift_result}
use Rattle.edit_shift.proofs.Answering.{shift_far, shift_near}
use Rattle.edit_shift.proofs.shift.Goals as goal

pub shift_accepted-requires : goal.shift_accepted-requires
unfolding shift_result
shift_accepted-requires c =
    let b = to_z-of_z w64 c.args.minutes c.ranges.minutes in
    ((zone_found c.args.minutes (rw b at c.zone_of.ensures) _ c.in-Some.is).2, met _ c.judge.ensures c.in_ok-judge.was)

pub returns-in-Some : goal.returns-in-Some
unfolding shift_result
returns-in-Some c =
    let b = to_z-of_z w64 c.args.minutes c.ranges.minutes in
    shift_near c.args.minutes _ _ c.judge.ensures c.in_ok-judge.was (rw b at c.zone_of.ensures) (λ i. (c.type_inv.file i).fits) _ c.in-Some.is c.shift_accepted.ensures

pub returns-in-None : goal.returns-in-None
unfolding shift_result
returns-in-None c =
    let b = to_z-of_z w64 c.args.minutes c.ranges.minutes in
    shift_far c.args.minutes _ _ c.judge.ensures c.in_ok-judge.was (rw b at c.zone_of.ensures) c.in-None.is

pub returns-in_err-judge : goal.returns-in_err-judge
unfolding shift_result
returns-in_err-judge c = result_passed _ c.judge.ensures _ _ _ _ c.in_err-judge.was c.from_residual.ensures.1
