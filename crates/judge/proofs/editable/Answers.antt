-- One walk over each container says yes, or the traversal says which.
use mathlib.Core.Path.{sym, ◌∙◌}
use Rattle.judge.proofs.Edits.{editable_is}
use Rattle.judge.proofs.editable.Goals as goal

pub returns-then-edits_hold : goal.returns-then-edits_hold
returns-then-edits_hold c = c.if-edits_hold.true ∙ sym (c.edits_hold.ensures.holds c.if-edits_hold.true)

pub returns-else-edits_hold : goal.returns-else-edits_hold
returns-else-edits_hold c = c.is_ok.ensures.value ∙ editable_is _ c.first.ensures
