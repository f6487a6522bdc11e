use borrow.Author.Rules.{rules}
use Rattle.sample_tables.proofs.Sizes.{bytes_none, listed_more}
use mathlib.Core.Path.{◌≡◌}
use native.Mathlib.Omega.{arith}
use Rattle.sample_tables.proofs.size.few_from.Goals as goal

pub loop-i-init : goal.loop-i-init
loop-i-init c = (search rules, bytes_none _ _, search rules)

pub loop-i-preserved : goal.loop-i-preserved
loop-i-preserved c = (search rules, listed_more _ c.requires.0 _ _ c.loop-i.invariant.1 c.word32_in-sum.ensures.0, search rules)

pub returns : goal.returns
returns c = let e : c.loop-i.i ≡ c.args.n = omega arith in (cc, omega arith)
