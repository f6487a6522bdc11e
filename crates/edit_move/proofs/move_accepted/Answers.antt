-- 23, 25, or the file is written with its `moov` second.
use native.Mathlib.Omega.{arith}
use mathlib.Core.Path.{sym, ◌∙◌}
use Rattle.rule.proofs.Results.{exact_short, exact_wrote, test_not, test_so, test_all}
use Rattle.edit_move.proofs.Calls.{move_length}
use Rattle.edit_move.proofs.move_accepted.Goals as goal

pub returns-then-not-editable : goal.returns-then-not-editable
returns-then-not-editable c = test_not _ _ _ _ _ (sym c.editable.ensures ∙ c.if-not-editable.true)

pub returns-then-out-file : goal.returns-then-out-file
returns-then-out-file c = test_so _ _ _ _ _ (sym c.editable.ensures ∙ c.if-not-editable.false) (test_all _ _ (exact_short _ _ (rw (move_length _ c.requires (λ i. (c.type_inv.file i).fits)) (omega arith))))

pub returns : goal.returns
returns c = test_so _ _ _ _ _ (sym c.editable.ensures ∙ c.if-not-editable.false) (test_all _ _ (exact_wrote _ _ (rw (move_length _ c.requires (λ i. (c.type_inv.file i).fits)) (omega arith)) c.write_moved.ensures))
