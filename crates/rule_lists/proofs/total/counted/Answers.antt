-- The count of the `stsd` of a `trak`, and none of another box.
use Rattle.movie.specs.Movie.{sample_table}
use Rattle.wire.proofs.Tests.{eq_yea, eq_nay}
use mathlib.Core.Path.{refl}
use native.Mathlib.Omega.{arith}
use Rattle.rule_lists.proofs.total.counted.Goals as goal

pub returns-then-code-ne-TRAK : goal.returns-then-code-ne-TRAK
unfolding sample_table
returns-then-code-ne-TRAK c = (eq_nay _ _ _ _ _ (omega arith) refl, omega arith)

pub returns : goal.returns
unfolding sample_table
returns c = (eq_yea _ _ _ _ _ (omega arith) (rw (c.word32.ensures.0, c.table.ensures.0)), c.word32.ensures.1)
