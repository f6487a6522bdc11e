-- The date is made of where its day falls.
use Rattle.dates.proofs.Years.{year_short}
use Rattle.dates.proofs.Dates.{date_is}
use Rattle.dates.proofs.date_of.Goals as goal

pub fall_in_months-m-requires : goal.fall_in_months-m-requires
fall_in_months-m-requires c = year_short c.fall_in_years-y.ensures.0

pub returns : goal.returns
returns c = date_is _ c.fall_in_years-y.ensures.0 c.fall_in_months-m.ensures
