-- The first edition up to its slots, and then the second.
use native.Mathlib.Omega.{arith}
use Rattle.sheet.proofs.Editions.{edition_first, edition_second}
use Rattle.sheet.proofs.edition.of_count.Goals as goal

pub returns-then-n-le8 : goal.returns-then-n-le8
returns-then-n-le8 c = edition_first _ (omega arith)

pub returns : goal.returns
returns c = edition_second _ (omega arith)
