use Rattle.boxes.proofs.Walking.{ran}
use Rattle.mdat.proofs.Starts.{start_front, start_next}
use mathlib.Core.Path.{refl, ◌∙◌}
use native.Mathlib.Omega.{arith}
use Rattle.mdat.proofs.index.fill.Goals as goal

pub loop-b-init : goal.loop-b-init
loop-b-init c = (start_front _ 1, refl, λ h. omega arith, c.requires.1)

pub note-j-requires : goal.note-j-requires
note-j-requires c = let l = c.loop-b in
    let s = ran _ _ _ _ _ c.step.ensures c.in-Found.is in
    (omega (arith, l.invariant.1, c.requires.0), λ h. omega (arith, l.invariant.2 h, s.start))

pub loop-b-smaller : goal.loop-b-smaller
loop-b-smaller c = let s = ran _ _ _ _ _ c.step.ensures c.in-Found.is in
    omega arith

pub loop-b-preserved : goal.loop-b-preserved
loop-b-preserved c = let l = c.loop-b in
    let s = ran _ _ _ _ _ c.step.ensures c.in-Found.is in
    let n = c.note-j.ensures in
    (start_next l.invariant.0 s, n.same ∙ l.invariant.1, λ h. n.past (omega (arith, n.same)), n.kept _ (rw s.start l.invariant.0) l.invariant.3)

pub returns-in-End : goal.returns-in-End
returns-in-End c = let l = c.loop-b in (l.invariant.1, l.invariant.3)

pub returns-in-Broken : goal.returns-in-Broken
returns-in-Broken c = let l = c.loop-b in (l.invariant.1, l.invariant.3)
