-- `seek::tiles` answers whether anything stands past the last whole box.
use mathlib.Core.Path.{◌∙◌}
use Rattle.boxes.proofs.Placing.{was_tiled}
use Rattle.boxes.proofs.seek.tiles.Goals as goal

pub returns : goal.returns
returns c = c.is_ok.ensures.value ∙ was_tiled _ c.ends.ensures
