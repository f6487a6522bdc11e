-- Its part decides; none has nothing.
use native.Mathlib.Omega.{arith}
use mathlib.Core.Path.{refl, sym}
use Rattle.descriptors.specs.Trees.{first_own}
use Rattle.descriptors.proofs.Firsts.{first_ends, first_own_lem, not_there}
use Rattle.descriptors.proofs.first.own.Goals as goal

pub slice_bounds-own-count : goal.slice_bounds-own-count
slice_bounds-own-count c = let s = first_ends 0 _ c.read.ensures c.in-Some.is in omega (arith, s.inside, s.last)

pub slice_bounds-own-start : goal.slice_bounds-own-start
slice_bounds-own-start c = let s = first_ends 0 _ c.read.ensures c.in-Some.is in omega (arith, s.inside, s.last)

pub slice_bounds-own-end : goal.slice_bounds-own-end
slice_bounds-own-end c = let s = first_ends 0 _ c.read.ensures c.in-Some.is in omega (arith, s.inside, s.last)

pub returns-in-Some : goal.returns-in-Some
returns-in-Some c = first_own_lem _ _ c.read.ensures c.in-Some.is c.part_in.ensures c.own.ensures

pub returns-in-None : goal.returns-in-None
returns-in-None c = sym (not_there _ _ c.read.ensures c.in-None.is first_own refl)
