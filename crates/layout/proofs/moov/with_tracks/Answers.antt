use Rattle.wire.specs.Tests.{pick}
use Prim.Native.Nat.{ℕ}
use Rattle.boxes.proofs.PlainWalking.{plain_ran, plain_ended}
use Rattle.layout.proofs.Gathering.{walked_none, walked_fits, walked_plain, walked_whole}
use Rattle.layout.specs.Slots.{Gathered}
use mathlib.Core.Path.{◌≡◌, refl, sym, ap, subst, ◌∙◌}
use native.Mathlib.Omega.{arith}
use Rattle.layout.proofs.moov.with_tracks.Goals as goal

pub loop-x-init : goal.loop-x-init
loop-x-init c = let p = c.requires in
    walked_none c.bytes-part.ensures p.0 (omega arith) (p.1, omega arith, omega arith, omega arith, omega arith) (c.none-i.ensures, refl, refl, refl, refl)

pub note-i-requires : goal.note-i-requires
note-i-requires c = let r = (plain_ran _ _ _ _ _ c.plain_step.ensures c.in-Found.is).0 in let i = c.loop-x.invariant in walked_fits i r i.first

pub more-f-requires : goal.more-f-requires
more-f-requires c = let r = (plain_ran _ _ _ _ _ c.plain_step.ensures c.in-Found.is).0 in let i = c.loop-x.invariant in walked_fits i r i.second

pub loop-x-smaller : goal.loop-x-smaller
loop-x-smaller c = let r = (plain_ran _ _ _ _ _ c.plain_step.ensures c.in-Found.is).0 in omega arith

pub loop-x-preserved : goal.loop-x-preserved
loop-x-preserved c = let r = plain_ran _ _ _ _ _ c.plain_step.ensures c.in-Found.is in
    let m = c.more-f.ensures in
    walked_plain c.loop-x.invariant r.0 (c.note-i.ensures, m.one, m.two, m.three, m.four) r.1

pub returns-in-End : goal.returns-in-End
returns-in-End c z = let o = plain_ended _ _ _ c.plain_step.ensures c.in-End.is in
    subst (Gathered _ _ _ _ _ _ _) (sym c.found.ensures) (walked_whole c.loop-x.invariant o.0 o.1)

pub returns-in-Broken : goal.returns-in-Broken
returns-in-Broken c z = let y : ◌≡◌ {A = ℕ} 0 1 = ap (λ t. pick t 1 0) (sym (ap (λ g. g.tiled) c.found-in-Broken.ensures) ∙ z) in absurd (omega arith)
