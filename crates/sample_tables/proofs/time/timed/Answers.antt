use borrow.Author.Rules.{rules}
use Rattle.sample_tables.proofs.Times.{timed_none, timed_more}
use mathlib.Core.Path.{◌≡◌}
use native.Mathlib.Omega.{arith}
use Rattle.sample_tables.proofs.time.timed.Goals as goal

pub loop-i-init : goal.loop-i-init
loop-i-init c = (search rules, search rules, timed_none _, search rules)

pub loop-i-preserved : goal.loop-i-preserved
loop-i-preserved c = (search rules, search rules, rw timed_more (omega arith), omega arith)

pub returns : goal.returns
returns c = let e : c.loop-i.i ≡ c.items-n.result = omega arith in cc
