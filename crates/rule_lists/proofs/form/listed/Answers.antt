-- Where a clause fails it is 0, and where both hold the count.
use mathlib.Core.Path.{◌∙◌}
use Rattle.rule_lists.proofs.Forms.{listed_short, listed_not, listed_is}
use native.Mathlib.Omega.{arith}
use Rattle.rule_lists.proofs.form.listed.Goals as goal

pub returns-then-body-lt-FRONT : goal.returns-then-body-lt-FRONT
returns-then-body-lt-FRONT c = listed_short _ (omega arith)

pub returns-then-word32_in-ne0 : goal.returns-then-word32_in-ne0
returns-then-word32_in-ne0 c = listed_not _ (λ e. c.if-word32_in-ne0.true (c.word32_in.ensures.0 ∙ e))

pub returns : goal.returns
returns c = c.word32_in-2.ensures.0 ∙ listed_is _ (omega arith) (omega arith)
