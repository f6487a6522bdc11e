-- What is past its end, or nothing.
use mathlib.Core.Path.{refl, sym, ◌∙◌}
use Rattle.descriptors.specs.Trees.{after_first}
use Rattle.descriptors.proofs.Trees.{tree_end}
use Rattle.descriptors.proofs.Firsts.{after_first_lem, not_there}
use Rattle.descriptors.proofs.first.after.Goals as goal

pub returns-in-Some : goal.returns-in-Some
returns-in-Some c k = after_first_lem k _ c.read.ensures c.in-Some.is c.rest.ensures

pub returns-in-None : goal.returns-in-None
returns-in-None c k = tree_end k _ refl ∙ sym (not_there k _ c.read.ensures c.in-None.is after_first refl)
