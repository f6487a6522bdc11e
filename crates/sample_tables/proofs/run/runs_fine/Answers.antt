use borrow.Author.Rules.{rules}
use Rattle.sample_tables.proofs.Runs.{runs_none, runs_more, runs_fail}
use Rattle.sample_tables.specs.Tables.{items}
use mathlib.Core.Path.{◌≡◌, sym}
use native.Mathlib.Omega.{arith}
use Rattle.sample_tables.proofs.run.runs_fine.Goals as goal

pub loop-i-init : goal.loop-i-init
loop-i-init c = (search rules, search rules, runs_none _ _ _)

pub returns-then-not-run_fine : goal.returns-then-not-run_fine
returns-then-not-run_fine c = let a = c.args in sym (runs_fail a.stsc.now a.chunks a.descriptions _ c.loop-i.i (omega arith) (search rules))

pub loop-i-preserved : goal.loop-i-preserved
loop-i-preserved c = (search rules, search rules, runs_more _ _ _ _ c.loop-i.invariant.2 (search rules))

pub returns : goal.returns
returns c = let e : c.loop-i.i ≡ items c.args.stsc.now = omega arith in rw e at (sym c.loop-i.invariant.2)
