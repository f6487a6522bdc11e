-- Rule 1, and then the rules that are in doubt.
use native.Mathlib.Omega.{arith}
use Rattle.judge.proofs.Order.{too_short, too_long}
use Rattle.judge.proofs.judge.Goals as goal

pub returns-then-file-lt8 : goal.returns-then-file-lt8
returns-then-file-lt8 c = too_short _ (omega arith)

pub returns-then-file-gt-LONGEST : goal.returns-then-file-gt-LONGEST
returns-then-file-gt-LONGEST c = too_long _ (omega arith)

pub sure_before-requires : goal.sure_before-requires
sure_before-requires c = omega arith

pub judge_from-requires : goal.judge_from-requires
judge_from-requires c = (omega arith, omega arith, c.sure_before.ensures)

pub returns : goal.returns
returns c = c.judge_from.ensures
