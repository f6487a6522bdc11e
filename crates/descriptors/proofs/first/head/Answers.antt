-- That of the one at the front, or 0.
use native.Mathlib.Omega.{arith}
use mathlib.Core.Path.{refl, sym}
use Rattle.descriptors.specs.Trees.{first_head}
use Rattle.descriptors.proofs.Firsts.{first_ends, first_head_lem, not_there}
use Rattle.descriptors.proofs.first.head.Goals as goal

pub returns-in-Some : goal.returns-in-Some
returns-in-Some c = ((λ k. first_head_lem k _ c.read.ensures c.in-Some.is), (first_ends 0 _ c.read.ensures c.in-Some.is).most)

pub returns-in-None : goal.returns-in-None
returns-in-None c = ((λ k. sym (not_there k _ c.read.ensures c.in-None.is first_head refl)), omega arith)
