use mathlib.Core.Path.{sym, ap, ◌∙◌}
use Rattle.threegp.specs.Answers.{packed}
use Rattle.threegp.proofs.pack.Goals as goal

pub returns-in-Ok : goal.returns-in-Ok
returns-in-Ok c = c.pair.ensures ∙ ap packed (sym c.in-Ok.is)

pub returns-in-Err : goal.returns-in-Err
returns-in-Err c = c.pair-in-Err.ensures ∙ ap packed (sym c.in-Err.is)
