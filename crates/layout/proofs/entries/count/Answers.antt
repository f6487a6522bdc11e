use native.Mathlib.Omega.{arith}
use Rattle.layout.proofs.Entering.{list_of}
use Rattle.layout.proofs.Tallying.{tally_none, tally_fits, tally_more, tally_end}
use Rattle.layout.proofs.entries.count.Goals as goal

pub loop-t-init : goal.loop-t-init
loop-t-init c = tally_none _

pub overflow_add-sum : goal.overflow_add-sum
overflow_add-sum c = let p = c.requires in
    let a = list_of p.0 c.loop-t.t (omega (arith, p.0.tracks, p.1)) in
    let f = tally_fits c.loop-t.invariant a p.2 (omega (arith, p.0.tracks, p.1)) in
    rw c.list_slot-sum.ensures (omega arith)

pub loop-t-preserved : goal.loop-t-preserved
loop-t-preserved c = let p = c.requires in
    let a = list_of p.0 c.loop-t.t (omega (arith, p.0.tracks, p.1)) in
    rw c.list_slot-sum.ensures (tally_more c.loop-t.invariant a p.2 (omega (arith, p.0.tracks)))

pub returns : goal.returns
returns c = let p = c.requires in
    let i = c.loop-t.invariant in
    (tally_end i (omega (arith, p.0.tracks)), omega (arith, i.few, i.most, p.1))
