use native.Mathlib.Omega.{arith}
use Rattle.movie.proofs.Naming.{named_in}
use Rattle.layout.proofs.Entering.{left_none, left_more, left_in, left_end, list_of}
use Rattle.layout.proofs.entries.entry.Goals as goal

pub loop-t-init : goal.loop-t-init
loop-t-init c = left_none _ _

pub entry_in-requires : goal.entry_in-requires
entry_in-requires c = let p = c.requires in
    let a = list_of p.0 c.loop-t.t (omega (arith, p.0.tracks, p.1)) in
    (rw c.list_slot-s.ensures a, omega arith, omega (arith, p.0.tracks, p.1), p.2)

pub returns-then-left-s : goal.returns-then-left-s
returns-then-left-s c = let p = c.requires in
    let a = list_of p.0 c.loop-t.t (omega (arith, p.0.tracks, p.1)) in
    named_in _ (λ j. (c.type_inv.file j).fits)
    (left_in c.loop-t.invariant (omega (arith, p.0.tracks)) {n = c.list_slot-s.result.n} (rw
    c.list_slot-s.ensures a.counted) (omega arith)) _ c.entry_in.ensures

pub loop-t-preserved : goal.loop-t-preserved
loop-t-preserved c = let p = c.requires in
    let a = list_of p.0 c.loop-t.t (omega (arith, p.0.tracks, p.1)) in
    left_more c.loop-t.invariant (omega (arith, p.0.tracks)) {n = c.list_slot-s.result.n}
    (rw c.list_slot-s.ensures a.counted) (omega arith)

pub returns : goal.returns
returns c = let p = c.requires in left_end c.loop-t.invariant (omega (arith, p.0.tracks))
