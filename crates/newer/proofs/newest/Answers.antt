-- The first file is judged, then the second, and then the two are compared.
use mir.Syntax.{w64}
use mir.ValLaws.{to_z-of_z}
use Rattle.judge.proofs.Calls.{met}
use Rattle.newer.proofs.Answering.{file_first, file_second, file_both}
use Rattle.newer.proofs.newest.Goals as goal

pub zoned-requires : goal.zoned-requires
zoned-requires c = ((met _ c.judge.ensures c.in_default.is).most, (met _ c.judge-2.ensures c.in_default-judge.is).most)

pub returns : goal.returns
returns c =
    let b = to_z-of_z w64 c.args.y c.ranges.y in
    let d = to_z-of_z w64 c.args.z c.ranges.z in
    file_both _ c.args.y _ c.args.z _ c.judge.ensures c.in_default.is c.judge-2.ensures c.in_default-judge.is (rw (b, d) at c.zoned.ensures)

pub returns-in-Err-judge : goal.returns-in-Err-judge
returns-in-Err-judge c = file_second _ _ _ _ _ c.judge.ensures c.in_default.is c.judge-2.ensures c.in-Err-judge.is

pub returns-in-Err : goal.returns-in-Err
returns-in-Err c = file_first _ _ _ _ _ c.judge.ensures c.in-Err.is
