-- By the length behind the tag, and by the end.
use mathlib.Core.Path.{◌∙◌}
use native.Mathlib.Omega.{arith}
use Rattle.descriptors.proofs.Lengths.{says_fits}
use Rattle.descriptors.proofs.Fronts.{front_broken, front_cut, front_found}
use Rattle.descriptors.proofs.descriptor.read.Goals as goal

pub returns-in_err-length : goal.returns-in_err-length
returns-in_err-length c = c.from_residual.ensures ∙ front_broken _ c.rest.ensures c.read.ensures c.in_err-length.was

pub overflow_add-head : goal.overflow_add-head
overflow_add-head c = omega (arith, says_fits _ c.read.ensures c.in_ok-length.was)

pub overflow_add-span : goal.overflow_add-span
overflow_add-span c = omega (arith, says_fits _ c.read.ensures c.in_ok-length.was)

pub returns-then-part-span : goal.returns-then-part-span
returns-then-part-span c = front_cut _ c.rest.ensures c.read.ensures c.in_ok-length.was c.if-part-span.true

pub returns : goal.returns
returns c = front_found _ c.rest.ensures c.read.ensures c.in_ok-length.was c.if-part-span.false c.byte.ensures.0
