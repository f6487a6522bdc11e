-- The numbers are those of the way.
use Rattle.boxes.specs.Way.{turns}
use mathlib.Core.Path.{refl}
use Rattle.edit_replace.proofs.write.way_to.Goals as goal

pub returns : goal.returns
unfolding turns
returns c = refl
