-- The three parts, found one in the other; their headers tell the place.
use Rattle.esds.proofs.Opening.{esds_plain, esds_given}
use Rattle.esds.proofs.value.read.Goals as goal

pub returns-then-head-eq0 : goal.returns-then-head-eq0
returns-then-head-eq0 c =
    esds_plain _ _ c.held-held.ensures _ c.held-specific.ensures _ _ c.head-head.ensures.0 c.own-es.ensures c.own-own.ensures c.if-head-eq0.true c.values_by.ensures

pub returns : goal.returns
returns c =
    esds_given _ _ c.held-held.ensures _ c.held-specific.ensures _ _ c.head-head.ensures.0 c.own-es.ensures c.own-own.ensures c.if-head-eq0.false c.values_by-2.ensures
    c.head.ensures.0 c.head-2.ensures.0 c.own.ensures
