-- As the judgement; where it is sure of all rules the tracks are at hand.
use native.Mathlib.Omega.{arith}
use mathlib.Core.Path.{sym}
use Rattle.judge.proofs.Order.{passed_all, too_short, too_long}
use Rattle.judge.proofs.AtOnce.{sure_passed}
use Rattle.judge.proofs.judge_tracks.Goals as goal

pub returns-then-file-lt8 : goal.returns-then-file-lt8
returns-then-file-lt8 c = sym (too_short _ (omega arith))

pub returns-then-file-gt-LONGEST : goal.returns-then-file-gt-LONGEST
returns-then-file-gt-LONGEST c = sym (too_long _ (omega arith))

pub returns : goal.returns
returns c = let s = c.sure_tracks-s.ensures in
    (sym (passed_all _ _ (sure_passed _ (omega arith) (omega arith) s.0) (omega arith)), s.1.tracks (omega arith))
