-- The layout of an accepted file.
use Rattle.rule_shape.proofs.Descent.{tracks_few}
use Rattle.brands.proofs.brand_of.Goals as goal

pub asked-requires : goal.asked-requires
asked-requires c = let p = c.requires in (p.1, c.lay-l.ensures, (tracks_few _ p.0.three).1)

pub returns : goal.returns
returns c = c.brand_holds.ensures
