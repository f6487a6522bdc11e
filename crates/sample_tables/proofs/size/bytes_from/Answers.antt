-- Of the listed sizes those past the end are 0.
use Rattle.sample_tables.proofs.Sizes.{bytes_inside}
use mathlib.Core.Path.{◌∙◌}
use native.Mathlib.Omega.{arith}
use Rattle.sample_tables.proofs.size.bytes_from.Goals as goal

pub bytes_in-requires : goal.bytes_in-requires
bytes_in-requires c = record { few = omega arith; listed = λ z. omega arith }

pub returns-then-word32-eq0 : goal.returns-then-word32-eq0
returns-then-word32-eq0 c = (c.bytes_in.ensures.0 ∙ bytes_inside _ (omega arith) _ _ c.inside.ensures, omega arith)

pub bytes_in-requires-2 : goal.bytes_in-requires-2
bytes_in-requires-2 c = record { few = omega arith; listed = λ z. absurd (omega arith) }
