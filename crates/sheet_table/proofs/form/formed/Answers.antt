-- The clauses in their order, each asked where those before it hold.
use borrow.Author.Rules.{rules}
use native.Mathlib.Omega.{arith}
use Rattle.sheet_table.proofs.Forming.{form_none, form_over, form_unlike, form_skips, form_last}
use Rattle.sheet_table.proofs.form.formed.Goals as goal

pub returns-then-n-eq0 : goal.returns-then-n-eq0
returns-then-n-eq0 c = form_none _ (omega arith)

pub returns-then-n-gt-SLOTS : goal.returns-then-n-gt-SLOTS
returns-then-n-gt-SLOTS c = form_over _ (omega arith)

pub returns-then-not-made : goal.returns-then-not-made
returns-then-not-made c = form_unlike _ (search rules)

pub returns-then-not-steps : goal.returns-then-not-steps
returns-then-not-steps c = form_skips _ record { count = c.byte-n.ensures.0; slots = c.rest-slots.ensures; bodies = c.bodies-bodies.ensures }
    c.steps.ensures c.if-not-steps.true

pub returns : goal.returns
returns c = form_last _ record { count = c.byte-n.ensures.0; slots = c.rest-slots.ensures; bodies = c.bodies-bodies.ensures } c.steps.ensures
    (omega arith) (omega arith) c.made.ensures (search rules) c.if-not-steps.false c.all_meet.ensures
