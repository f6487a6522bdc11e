-- Only `moov` is asked.
use Rattle.rule_entries.specs.Ten.{ten_at}
use Rattle.wire.proofs.Tests.{eq_yea, eq_nay}
use mathlib.Core.Path.{refl}
use native.Mathlib.Omega.{arith}
use Rattle.rule_entries.proofs.ten_at.Goals as goal

pub returns-then-k-ne-MOOV : goal.returns-then-k-ne-MOOV
unfolding ten_at
returns-then-k-ne-MOOV c = eq_nay _ _ _ _ _ c.if-k-ne-MOOV.true refl

pub returns : goal.returns
unfolding ten_at
returns c = eq_yea _ _ _ _ _ (omega arith) (rw c.of_file.ensures at c.movie_entries.ensures)
