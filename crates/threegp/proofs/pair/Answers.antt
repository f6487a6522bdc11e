use mathlib.Core.Path.{refl}
use Rattle.threegp.specs.Answers.{pair}
use Rattle.threegp.proofs.pair.Goals as goal

pub returns : goal.returns
unfolding pair
returns c = refl
