-- 25, or the four numbers.
use lib.ListN.{length-set}
use native.Mathlib.Omega.{arith}
use Rattle.rule.proofs.Results.{exact_short}
use Rattle.threegp.proofs.Packing.{part_fits}
use Rattle.threegp.proofs.put_part.Goals as goal

pub returns-then-out-lt4 : goal.returns-then-out-lt4
returns-then-out-lt4 c = exact_short _ _ (omega arith)

pub bounds-out-1 : goal.bounds-out-1
bounds-out-1 c = simp length-set (omega arith)

pub bounds-out-2 : goal.bounds-out-2
bounds-out-2 c = simp length-set (omega arith)

pub bounds-out-3 : goal.bounds-out-3
bounds-out-3 c = simp length-set (omega arith)

pub returns : goal.returns
returns c = part_fits c.args.f _ c.from.ensures (omega arith)
