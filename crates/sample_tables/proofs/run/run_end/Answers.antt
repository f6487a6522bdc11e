-- Past the last run all chunks stand before its end.
use Rattle.sample_tables.specs.Runs.{run_start}
use Rattle.wire.proofs.Tests.{lt_yea, lt_nay}
use mathlib.Core.Path.{refl}
use native.Mathlib.Omega.{arith}
use Rattle.sample_tables.proofs.run.run_end.Goals as goal

pub overflow_sub-start_of : goal.overflow_sub-start_of
unfolding run_start
overflow_sub-start_of c = omega (arith, c.requires.1.rise c.args.i (omega arith))

pub returns-then-i-items : goal.returns-then-i-items
unfolding run_start
returns-then-i-items c = lt_yea _ _ _ _ _ (omega arith) (omega arith)

pub returns : goal.returns
unfolding run_start
returns c = lt_nay _ _ _ _ _ (omega arith) refl
