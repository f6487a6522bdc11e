-- Written at once where there is certainly room; else a run into no room tells the length, and then 25, or the lines are written.
use Rattle.listing.proofs.Listed.{few_tracks}
use Rattle.rule.proofs.Telling.{at_once, told_short, told_wrote}
use native.Mathlib.Omega.{arith}
use Rattle.listing.proofs.list_accepted.Goals as goal

pub asked-o-requires : goal.asked-o-requires
asked-o-requires c = let p = c.requires in (p.1, c.lay-l.ensures, few_tracks p.0)

pub count-requires : goal.count-requires
count-requires c = let p = c.requires in (c.lay-l.ensures, few_tracks p.0, p.0.most)

pub returns-then-count-out : goal.returns-then-count-out
returns-then-count-out c = let p = c.put_accepted.ensures in at_once _ _ p.0 (omega (arith, p.1, c.count.ensures.0))

pub returns-then-out-m : goal.returns-then-out-m
returns-then-out-m c = told_short _ c.args.out.now c.put_accepted-m.ensures.0 (omega arith)

pub returns : goal.returns
returns c = told_wrote _ c.args.out.now c.put_accepted-m.ensures.0 c.put_accepted-2.ensures.0 (omega arith)
