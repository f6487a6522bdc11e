use Rattle.boxes.proofs.PlainWalking.{plain_ran, plain_ended}
use Rattle.layout.proofs.Gathering.{walked_none, walked_fits, walked_plain, walked_whole}
use Prim.Native.Nat.{ℕ}
use mathlib.Core.Path.{◌≡◌}
use native.Mathlib.Omega.{arith}
use Rattle.layout.proofs.plain.one.Goals as goal

pub loop-x-init : goal.loop-x-init
loop-x-init c =
    let p = c.requires in
    let n = c.none-none.ensures in
    walked_none c.bytes-part.ensures p.0 (omega arith) (p.1, p.1, p.1, p.1, p.1) (n, n, n, n, n)

pub note-i-requires : goal.note-i-requires
note-i-requires c =
    let i = c.loop-x.invariant in
    walked_fits i (plain_ran _ _ _ _ _ c.plain_step.ensures c.in-Found.is).0 i.first

pub loop-x-smaller : goal.loop-x-smaller
loop-x-smaller c =
    let r = (plain_ran _ _ _ _ _ c.plain_step.ensures c.in-Found.is).0 in
    omega arith

pub loop-x-preserved : goal.loop-x-preserved
loop-x-preserved c =
    let r = plain_ran _ _ _ _ _ c.plain_step.ensures c.in-Found.is in
    walked_plain c.loop-x.invariant r.0
    (c.note-i.ensures, c.note-i.ensures, c.note-i.ensures, c.note-i.ensures, c.note-i.ensures) r.1

pub returns-in-End : goal.returns-in-End
returns-in-End c z =
    let o = plain_ended _ _ _ c.plain_step.ensures c.in-End.is in
    walked_whole c.loop-x.invariant o.0 o.1

pub returns-in-Broken : goal.returns-in-Broken
returns-in-Broken c z = let y : ◌≡◌ {A = ℕ} 0 1 = cc in absurd (omega arith)
