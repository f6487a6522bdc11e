-- A run into no room tells the length; then 25, or the line is written.
use Rattle.rule.proofs.Telling.{told_short, told_wrote}
use native.Mathlib.Omega.{arith}
use Rattle.listing.proofs.list_refused.Goals as goal

pub returns-then-out-m : goal.returns-then-out-m
returns-then-out-m c = told_short _ c.args.out.now c.put_refused-m.ensures (omega arith)

pub returns : goal.returns
returns c =
    told_wrote _ c.args.out.now c.put_refused-m.ensures c.put_refused.ensures (omega arith)
