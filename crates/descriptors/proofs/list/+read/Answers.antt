-- The descriptors before the rest are read, each with those that it holds: what it holds has fewer bytes.
use Rattle.std.proofs.Common.{rules}
use native.Mathlib.Omega.{arith}
use mathlib.Core.Path.{refl, sym, ap, ◌∙◌}
use lib.ListN.{length, length-drop}
use Rattle.descriptors.proofs.Fronts.{ends}
use Rattle.descriptors.proofs.Trees.{contents_less}
use Rattle.descriptors.proofs.Readings.{read_more, read_loose, read_all}
use Rattle.descriptors.proofs.list.+read.Goals as goal

pub loop-rest-init : goal.loop-rest-init
loop-rest-init t c = (omega arith, refl)

pub slice_bounds-contents-count : goal.slice_bounds-contents-count
slice_bounds-contents-count t c = let s = ends c.loop-rest.rest.now c.in-Some.d (sym c.read.ensures ∙ c.in-Some.is) in omega (arith, s.inside)

pub slice_bounds-contents-start : goal.slice_bounds-contents-start
slice_bounds-contents-start t c = let s = ends c.loop-rest.rest.now c.in-Some.d (sym c.read.ensures ∙ c.in-Some.is) in omega (arith, s.inside, s.last)

pub slice_bounds-contents-end : goal.slice_bounds-contents-end
slice_bounds-contents-end t c = let s = ends c.loop-rest.rest.now c.in-Some.d (sym c.read.ensures ∙ c.in-Some.is) in omega (arith, s.last)

pub read-r-requires : goal.read-r-requires
read-r-requires t c = let s = ends c.loop-rest.rest.now c.in-Some.d (sym c.read.ensures ∙ c.in-Some.is) in (omega (arith, contents_less s, c.held.ensures.1, c.loop-rest.invariant.0, c.decreases), tt)

pub loop-rest-smaller : goal.loop-rest-smaller
loop-rest-smaller t c = let s = ends c.loop-rest.rest.now c.in-Some.d (sym c.read.ensures ∙ c.in-Some.is) in omega (arith, ap length c.rest-rest.ensures, length-drop c.in-Some.d.span c.loop-rest.rest.now, s.least, s.inside, s.last)

pub loop-rest-preserved : goal.loop-rest-preserved
loop-rest-preserved t c =
    let i = c.loop-rest.invariant in
    let e = read_more c.args.k c.loop-rest.rest.now c.loop-rest.r (sym c.read.ensures ∙ c.in-Some.is) c.part_in-j.ensures c.own.ensures c.met-r.ensures c.held.ensures.0 c.read-r.ensures in
    rw c.rest-rest.ensures (omega (arith, i.0, length-drop c.in-Some.d.span c.loop-rest.rest.now), i.1 ∙ e)

pub returns-in-None : goal.returns-in-None
returns-in-None t c = read_loose _ c.loop-rest.rest.now c.loop-rest.r (search rules) (sym c.read.ensures ∙ c.in-None.is) ∙ sym c.loop-rest.invariant.1

pub returns : goal.returns
returns t c = read_all _ c.loop-rest.rest.now c.loop-rest.r (search rules) ∙ sym c.loop-rest.invariant.1
