-- Its part decides; none holds nothing.
use native.Mathlib.Omega.{arith}
use mathlib.Core.Path.{refl, sym, ◌∙◌}
use Rattle.descriptors.specs.Trees.{first_held}
use Rattle.descriptors.proofs.Trees.{tree_end}
use Rattle.descriptors.proofs.Firsts.{first_ends, first_held_lem, not_there}
use Rattle.descriptors.proofs.first.held.Goals as goal

pub slice_bounds-held-count : goal.slice_bounds-held-count
slice_bounds-held-count c = let s = first_ends 0 _ c.read.ensures c.in-Some.is in omega (arith, s.inside, s.last)

pub slice_bounds-held-start : goal.slice_bounds-held-start
slice_bounds-held-start c = let s = first_ends 0 _ c.read.ensures c.in-Some.is in omega (arith, s.inside, s.last)

pub slice_bounds-held-end : goal.slice_bounds-held-end
slice_bounds-held-end c = let s = first_ends 0 _ c.read.ensures c.in-Some.is in omega (arith, s.inside, s.last)

pub returns-in-Some : goal.returns-in-Some
returns-in-Some c = first_held_lem _ _ c.read.ensures c.in-Some.is c.part_in.ensures c.held.ensures.0

pub returns-in-None : goal.returns-in-None
returns-in-None c = tree_end _ _ refl ∙ sym (not_there _ _ c.read.ensures c.in-None.is first_held refl)
