use Rattle.sample_tables.proofs.LastRun.{run_inside, run_moves, run_stays}
use native.Mathlib.Omega.{arith}
use Rattle.sample_tables.proofs.run.run_after.Goals as goal

pub overflow_add-run : goal.overflow_add-run
overflow_add-run c = let p = c.requires in omega (arith, run_inside _ p.1 p.4 _ _ p.2)

pub returns-then-start_of-k : goal.returns-then-start_of-k
returns-then-start_of-k c = let p = c.requires in
    run_moves _ p.1 p.4 _ _ p.2 (omega arith) (omega arith)

pub returns-then-run-items : goal.returns-then-run-items
returns-then-run-items c = let p = c.requires in
    run_stays _ p.1 p.4 _ _ p.2 (λ i. omega arith)

pub returns : goal.returns
returns c = let p = c.requires in run_stays _ p.1 p.4 _ _ p.2 (λ i. omega arith)
