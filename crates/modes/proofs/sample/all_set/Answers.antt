use Rattle.wire.proofs.Lists.{tail_is}
use Rattle.modes.proofs.Bits.{setting_none, setting_all, setting_less, setting_not, setting_more}
use Rattle.modes.proofs.sample.all_set.Goals as goal

pub loop-size-init : goal.loop-size-init
loop-size-init c = setting_none _ _ _

pub returns : goal.returns
returns c = let s = c.loop-size.invariant in setting_all s _ _ (tail_is _ _ s.inside) c.front.ensures.size c.in_default.is

pub returns-then-not-bit_set : goal.returns-then-not-bit_set
returns-then-not-bit_set c =
    let s = c.loop-size.invariant in
    setting_not s _ _ (tail_is _ _ s.inside) c.front.ensures.size c.in-Some.is _ c.byte.ensures.0
    c.bit_set.ensures c.if-not-bit_set.true

pub loop-size-smaller : goal.loop-size-smaller
loop-size-smaller c =
    let s = c.loop-size.invariant in
    setting_less s _ _ (tail_is _ _ s.inside) c.front.ensures.size c.in-Some.is

pub loop-size-preserved : goal.loop-size-preserved
loop-size-preserved c =
    let s = c.loop-size.invariant in
    setting_more s _ _ (tail_is _ _ s.inside) c.front.ensures.size c.in-Some.is _ c.byte.ensures.0
    c.bit_set.ensures c.if-not-bit_set.false
