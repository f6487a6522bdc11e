use Rattle.sample_times.proofs.Walks.{walk_part, clock_part, asked, answer_found, answer_ticking, answer_end}
use mathlib.Core.Path.{sym, ◌∙◌}
use Rattle.sample_times.proofs.walk.TimedWalk.step.Goals as goal

pub step-requires : goal.step-requires
step-requires c = let p = c.requires in (p.0.walk, walk_part _ _ _ p.0 _ p.1)

pub turn-requires : goal.turn-requires
turn-requires c = let p = c.requires in
    let a = asked _ _ _ p.0 _ p.1 _ _ (sym c.in-Some.is ∙ c.step.ensures) in
    (p.0.clock, clock_part _ _ _ p.0 _ p.1, p.1.item, a.0, a.1)

pub returns-in-At : goal.returns-in-At
returns-in-At c = let p = c.requires in
    answer_found _ _ _ p.0 _ p.1 _ _ (sym c.in-Some.is ∙ c.step.ensures) _ (sym c.in-At.is ∙ c.turn.ensures)

pub returns-in-Behind : goal.returns-in-Behind
returns-in-Behind c = let p = c.requires in
    answer_ticking _ _ _ p.0 _ p.1 _ _ (sym c.in-Some.is ∙ c.step.ensures) _ (sym c.in-Behind.is ∙ c.turn.ensures)

pub returns-in-None : goal.returns-in-None
returns-in-None c = let p = c.requires in
    answer_end _ _ _ p.0 _ p.1 (sym c.in-None.is ∙ c.step.ensures)
