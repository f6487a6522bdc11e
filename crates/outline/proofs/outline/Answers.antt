-- Refusal 1, and then the lines.
use native.Mathlib.Omega.{arith}
use Rattle.rule.proofs.Results.{test_not, test_so, test_all, too_short, too_long, length_fine_lem}
use Rattle.outline.specs.Outline.{outline_result}
use Rattle.outline.proofs.outline.Goals as goal

pub returns-then-file-lt8 : goal.returns-then-file-lt8
unfolding outline_result
returns-then-file-lt8 c = test_not _ _ _ _ _ (too_short c.args.file.now (omega arith))

pub returns-then-file-gt-LONGEST : goal.returns-then-file-gt-LONGEST
unfolding outline_result
returns-then-file-gt-LONGEST c = test_not _ _ _ _ _ (too_long c.args.file.now (omega arith))

pub returns : goal.returns
unfolding outline_result
returns c =
    test_so _ _ _ _ _ (length_fine_lem c.args.file.now (omega arith) (omega arith)) (test_all _ _ c.print.ensures)
