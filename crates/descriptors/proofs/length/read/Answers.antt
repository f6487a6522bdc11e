-- Each byte with its top bit set leaves the length of what follows; one without says it.
use Prim.Native.Nat.{◌%◌}
use native.Mathlib.Omega.{arith}
use mathlib.Core.Path.{sym, ◌∙◌}
use Rattle.descriptors.proofs.Lengths.{length_none, length_says, length_more, length_broken, more_fits, third_fits}
use Rattle.descriptors.proofs.length.read.Goals as goal

pub loop-k-init : goal.loop-k-init
loop-k-init c = (omega arith, length_none _)

pub overflow_mul-result : goal.overflow_mul-result
overflow_mul-result c = let l = c.loop-k in omega (arith, c.min-k-end.ensures, third_fits l.n l.k l.invariant.0 (omega (arith, c.min-k-end.ensures)))

pub returns-then-b-lt128 : goal.returns-then-b-lt128
returns-then-b-lt128 c =
    let l = c.loop-k in
    length_says _ l.n l.k c.byte-b.ensures.0 (omega (arith, c.min-k-end.ensures)) (omega (arith, c.min-k-end.ensures)) c.if-b-lt128.true ∙ sym l.invariant.1

pub loop-k-preserved : goal.loop-k-preserved
loop-k-preserved c =
    let l = c.loop-k in
    let e = length_more _ l.n l.k c.byte-b.ensures.0 (omega (arith, c.min-k-end.ensures)) (omega (arith, c.min-k-end.ensures)) (omega arith) in
    (more_fits l.n l.k (c.byte-b.result % 128) l.invariant.0 (omega arith), l.invariant.1 ∙ e)

pub returns : goal.returns
returns c = let l = c.loop-k in length_broken _ l.n l.k (omega (arith, c.min-k-end.ensures)) ∙ sym l.invariant.1
