use mathlib.Core.Path.{sym, ap, ◌∙◌}
use Rattle.threegp.specs.Answers.{judge_answer}
use Rattle.threegp.proofs.threegp_judge.Goals as goal

pub returns-in-Ok : goal.returns-in-Ok
returns-in-Ok c = c.pair.ensures ∙ ap judge_answer (sym c.in-Ok.is ∙ c.judge.ensures)

pub returns-in-Err : goal.returns-in-Err
returns-in-Err c = c.pair-in-Err.ensures ∙ ap judge_answer (sym c.in-Err.is ∙ c.judge.ensures)
