use native.Mathlib.Omega.{arith}
use Rattle.wire.proofs.Lists.{tail_is}
use Rattle.from_amr.proofs.Sizing.{sizing_none, sizing_more, sizing_last}
use Rattle.from_amr.proofs.table.put_sizes.Goals as goal

pub loop-size-init : goal.loop-size-init
loop-size-init c = sizing_none _ _ _ _

pub slice_bounds-front-count : goal.slice_bounds-front-count
slice_bounds-front-count c = omega (arith, c.loop-size.invariant.inside)

pub slice_bounds-front-start : goal.slice_bounds-front-start
slice_bounds-front-start c = omega (arith, c.loop-size.invariant.inside)

pub shape_of-out : goal.shape_of-out
shape_of-out c = c.loop-size.invariant.same

pub returns : goal.returns
returns c =
    sizing_last c.loop-size.invariant _ _ (tail_is _ _ c.loop-size.invariant.inside) c.front.ensures.size c.in_default.is

pub put_word-to-requires : goal.put_word-to-requires
put_word-to-requires c = omega (arith, c.loop-size.invariant.left)

pub overflow_add-i : goal.overflow_add-i
overflow_add-i c =
    let h = sizing_more c.loop-size.invariant _ _ (tail_is _ _ c.loop-size.invariant.inside) c.front.ensures.size c.in-Some.is
    c.put_word-to.ensures.0 c.put_word-to.ensures.1 in
    omega (arith, h.inside)

pub loop-size-smaller : goal.loop-size-smaller
loop-size-smaller c =
    let h = sizing_more c.loop-size.invariant _ _ (tail_is _ _ c.loop-size.invariant.inside) c.front.ensures.size c.in-Some.is
    c.put_word-to.ensures.0 c.put_word-to.ensures.1 in
    omega (arith, h.inside, c.in-Some.ensures.inside)

pub loop-size-preserved : goal.loop-size-preserved
loop-size-preserved c =
    sizing_more c.loop-size.invariant _ _ (tail_is _ _ c.loop-size.invariant.inside) c.front.ensures.size c.in-Some.is
    c.put_word-to.ensures.0 c.put_word-to.ensures.1
