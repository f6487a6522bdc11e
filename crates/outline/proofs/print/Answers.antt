-- A run into no room tells the length; then 25, or the lines are written.
use native.Mathlib.Omega.{arith}
use Rattle.rule.proofs.Telling.{told_short, told_wrote}
use Rattle.outline.proofs.print.Goals as goal

pub returns-then-out-m : goal.returns-then-out-m
returns-then-out-m c =
    told_short _ c.args.out.now c.put_list-m.ensures.0 (omega arith)

pub returns : goal.returns
returns c =
    told_wrote _ c.args.out.now c.put_list-m.ensures.0 c.put_list.ensures.0 (omega arith)
