use Rattle.boxes.proofs.Walking.{ran, ended, broke}
use Rattle.layout.proofs.Gathering.{walked_none, walked_fits, walked_more, walked_whole, walked_torn}
use native.Mathlib.Omega.{arith}
use Rattle.layout.proofs.gather.wanted.Goals as goal

pub loop-x-init : goal.loop-x-init
loop-x-init c = let p = c.requires in let n = c.none-none.ensures in walked_none c.bytes-part.ensures p.0 (omega arith) (p.1, p.2, p.3, p.4, p.5) (n, n, n, n, n)

pub note-i-requires : goal.note-i-requires
note-i-requires c = let r = ran _ _ _ _ _ c.step.ensures c.in-Found.is in let i = c.loop-x.invariant in walked_fits i r i.first

pub note-j-requires : goal.note-j-requires
note-j-requires c = let r = ran _ _ _ _ _ c.step.ensures c.in-Found.is in let i = c.loop-x.invariant in walked_fits i r i.second

pub note-k-requires : goal.note-k-requires
note-k-requires c = let r = ran _ _ _ _ _ c.step.ensures c.in-Found.is in let i = c.loop-x.invariant in walked_fits i r i.third

pub note-l-requires : goal.note-l-requires
note-l-requires c = let r = ran _ _ _ _ _ c.step.ensures c.in-Found.is in let i = c.loop-x.invariant in walked_fits i r i.fourth

pub note-m-requires : goal.note-m-requires
note-m-requires c = let r = ran _ _ _ _ _ c.step.ensures c.in-Found.is in let i = c.loop-x.invariant in walked_fits i r i.fifth

pub loop-x-smaller : goal.loop-x-smaller
loop-x-smaller c = let r = ran _ _ _ _ _ c.step.ensures c.in-Found.is in omega arith

pub loop-x-preserved : goal.loop-x-preserved
loop-x-preserved c =
    walked_more c.loop-x.invariant (ran _ _ _ _ _ c.step.ensures c.in-Found.is)
    (c.note-i.ensures, c.note-j.ensures, c.note-k.ensures, c.note-l.ensures, c.note-m.ensures)
    c.shut_past-shut.ensures

pub returns-in-End : goal.returns-in-End
returns-in-End c = let o = ended _ _ _ c.step.ensures c.in-End.is in walked_whole c.loop-x.invariant o.0 o.1

pub returns-in-Broken : goal.returns-in-Broken
returns-in-Broken c = let o = broke _ _ _ _ c.step.ensures c.in-Broken.is in walked_torn c.loop-x.invariant o.0
