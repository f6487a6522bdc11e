-- The tests in their order, the parts read before and after.
use Rattle.esds.proofs.Opening.{fails_so, holds_so, loose_tree, unwanted_tree, wrong_tree, right_tree}
use Rattle.esds.proofs.open_tree.Goals as goal

pub returns-then-not-r : goal.returns-then-not-r
returns-then-not-r c = loose_tree _ _ _ c.read-r.ensures (fails_so _ c.if-not-r.true)

pub returns-then-r-ne-SL : goal.returns-then-r-ne-SL
returns-then-r-ne-SL c = unwanted_tree _ _ _ c.read-r.ensures (holds_so _ c.if-not-r.false) c.if-r-ne-SL.true

pub returns-then-not-fixed : goal.returns-then-not-fixed
returns-then-not-fixed c =
    wrong_tree _ _ _ c.read-r.ensures (holds_so _ c.if-not-r.false) c.if-r-ne-SL.false c.read-e.ensures c.fixed.ensures c.if-not-fixed.true

pub returns : goal.returns
returns c =
    right_tree _ _ _ c.read-r.ensures (holds_so _ c.if-not-r.false) c.if-r-ne-SL.false c.read-e.ensures c.fixed.ensures c.if-not-fixed.false
