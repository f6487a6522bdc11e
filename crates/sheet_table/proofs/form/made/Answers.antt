-- The front is made again over zeros and compared; then the bodies must end where the sheet does.
use Rattle.wire.specs.Clauses.{is_eq}
use borrow.Author.Rules.{rules}
use mathlib.Core.Path.{refl}
use native.Mathlib.Omega.{arith}
use Rattle.sheet_table.proofs.Opening.{made_bad, made_good}
use Rattle.sheet_table.proofs.form.made.Goals as goal

pub returns-then-ne : goal.returns-then-ne
returns-then-ne c = made_bad _ record { count = c.requires.0; slots = c.rest-slots.ensures; bodies = c.bodies-bodies.ensures }
    (omega arith) c.bodies_at-k.ensures.0 c.put_front.ensures
    c.front.ensures c.front-2.ensures refl (search rules)

pub returns : goal.returns
unfolding is_eq
returns c = made_good _ record { count = c.requires.0; slots = c.rest-slots.ensures; bodies = c.bodies-bodies.ensures }
    (omega arith) c.bodies_at-k.ensures.0 c.put_front.ensures
    c.front.ensures c.front-2.ensures refl (search rules) c.size.ensures.0 refl
