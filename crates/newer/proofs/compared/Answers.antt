-- The entry of the later file, by the order of the two modification times.
use Rattle.newer.proofs.Answering.{order_earlier, order_same, order_later}
use Rattle.newer.proofs.compared.Goals as goal

pub returns-in-Earlier : goal.returns-in-Earlier
returns-in-Earlier c = order_earlier _ _ _ _ _ c.modified.ensures.0 c.modified-2.ensures.0 c.compare-order.ensures c.in-Earlier.is c.entry_in.ensures

pub returns-in-Same : goal.returns-in-Same
returns-in-Same c = order_same _ _ _ _ _ c.modified.ensures.0 c.modified-2.ensures.0 c.compare-order.ensures c.in-Same.is c.entry_in-in-Same.ensures

pub returns-in-Later : goal.returns-in-Later
returns-in-Later c = order_later _ _ _ _ _ c.modified.ensures.0 c.modified-2.ensures.0 c.compare-order.ensures c.in-Later.is c.entry_in-in-Later.ensures
