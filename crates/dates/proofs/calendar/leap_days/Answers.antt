-- The test is that of the definition.
use Rattle.std.proofs.Common.{arith}
use Rattle.std.proofs.lemmas.Grind.{common_steps}
use Rattle.std.specs.Int.{from_bool}
use Rattle.wire.specs.Tests.{if_eq}
use Rattle.dates.specs.Calendar.{leap_days}
use Rattle.dates.proofs.calendar.leap_days.Goals as goal

pub returns : goal.returns
unfolding leap_days if_eq
returns c = grind (arith, common_steps)
