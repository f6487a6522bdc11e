-- The array is the table of the definition.
use Rattle.dates.proofs.Years.{month_is}
use Rattle.dates.proofs.calendar.month_days.Goals as goal

pub returns : goal.returns
returns c = month_is c.args.y c.args.m c.leap_days-february.ensures.0
