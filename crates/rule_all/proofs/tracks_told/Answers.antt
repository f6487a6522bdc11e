use Prim.Native.Nat.{◌<◌}
use native.Mathlib.Omega.{arith}
use Rattle.layout.proofs.Filling.{filled_none, filled_more, filled_all}
use Rattle.rule_all.proofs.Judging.{inside}
use Rattle.rule_all.proofs.Running.{run_none, run_end}
use Rattle.rule_all.proofs.Steps.{track_lies, step, step_told, untold}
use Rattle.rule_all.proofs.tracks_told.Goals as goal

pub loop-i-init : goal.loop-i-init
loop-i-init c = (run_none _, filled_none _ c.blanks-found.ensures c.requires.0.tracks)

pub lay-requires : goal.lay-requires
lay-requires c = let p = c.requires in track_lies p.0 (omega (arith, p.0.tracks, p.2)) c.track_slot.ensures

pub returns-in_default : goal.returns-in_default
returns-in_default c = untold c.doubted.ensures

pub judge-requires : goal.judge-requires
judge-requires c = let p = c.requires in (inside c.in-Some.ensures.1, p.3, p.0.mdat)

pub joined-p-requires : goal.joined-p-requires
joined-p-requires c = (c.loop-i.invariant.0.few, c.judge.ensures.small)

pub returns-then-p-lt10 : goal.returns-then-p-lt10
returns-then-p-lt10 c = untold c.doubted-then-p-lt10.ensures

pub told-requires : goal.told-requires
told-requires c = let h = c.in-Some.ensures.1 in (h.hdlr.lies, h.mdhd.lies, h.tkhd.lies)

pub loop-i-preserved : goal.loop-i-preserved
loop-i-preserved c =
    let p = c.requires in
    let k = c.loop-i in
    let h : k.i < 4 = omega (arith, p.0.tracks, p.2) in
    let s = c.track_slot.ensures in
    let l = c.in-Some.ensures in (
      step p.0 h s (omega (arith, p.0.tracks)) l.1 l.0 p.2 k.invariant.0
          c.judge.ensures c.joined-p.ensures (omega (arith, c.if-p-lt10)),
      filled_more k.invariant.1 (omega (arith, p.0.tracks)) h
          (step_told p.0 h s (omega (arith, p.0.tracks)) l.1 p.1 l.2 c.told.ensures) c.with_track-found.ensures,
    )

pub returns : goal.returns
returns c = let p = c.requires.0.tracks in
    (run_end c.loop-i.invariant.0 (omega arith), record { tracks = λ z. filled_all c.loop-i.invariant.1 (omega arith) })
