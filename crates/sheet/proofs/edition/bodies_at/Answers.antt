-- Past the slots, of which no edition has more than the second.
use borrow.Author.Rules.{rules}
use native.Mathlib.Omega.{arith}
use mathlib.Core.Path.{ap}
use Rattle.sheet.specs.Sheet.{bodies_at}
use Rattle.sheet.proofs.Editions.{edition_suits}
use Rattle.sheet.proofs.edition.bodies_at.Goals as goal

pub overflow_mul-result : goal.overflow_mul-result
overflow_mul-result c = search (rules, edition_suits _ c.of_count-e.ensures)

pub overflow_add-result : goal.overflow_add-result
overflow_add-result c = search (rules, edition_suits _ c.of_count-e.ensures)

pub returns : goal.returns
returns c = (ap bodies_at c.of_count-e.ensures, omega (arith, edition_suits _ c.of_count-e.ensures))
