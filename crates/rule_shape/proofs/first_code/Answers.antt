use Rattle.boxes.proofs.Walking.{ran, ended, broke}
use Rattle.rule_shape.proofs.Shape.{first_found, first_none}
use Rattle.rule_shape.proofs.first_code.Goals as goal

pub returns-in-Found : goal.returns-in-Found
returns-in-Found c = first_found _ (ran _ _ _ _ _ c.step.ensures c.in-Found.is)

pub returns-in-End : goal.returns-in-End
returns-in-End c = first_none _ (ended _ _ _ c.step.ensures c.in-End.is).0

pub returns-in-Broken : goal.returns-in-Broken
returns-in-Broken c = first_none _ (broke _ _ _ _ c.step.ensures c.in-Broken.is).0
