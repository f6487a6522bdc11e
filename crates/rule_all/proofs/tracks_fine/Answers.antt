use native.Mathlib.Omega.{arith}
use Rattle.rule_all.proofs.Judging.{inside}
use Rattle.rule_all.proofs.Running.{run_none, run_end, run_broken}
use Rattle.rule_all.proofs.Steps.{track_lies, step}
use Rattle.rule_all.proofs.tracks_fine.Goals as goal

pub loop-i-init : goal.loop-i-init
loop-i-init c = run_none _

pub lay-requires : goal.lay-requires
lay-requires c = let p = c.requires in track_lies p.0 (omega (arith, p.0.tracks, p.1)) c.track_slot.ensures

pub returns-in_default : goal.returns-in_default
returns-in_default c = run_broken _

pub judge-requires : goal.judge-requires
judge-requires c = let p = c.requires in (inside c.in-Some.ensures.1, p.2, p.0.mdat)

pub joined-p-requires : goal.joined-p-requires
joined-p-requires c = (c.loop-i.invariant.few, c.judge.ensures.small)

pub returns-then-p-lt10 : goal.returns-then-p-lt10
returns-then-p-lt10 c = run_broken _

pub loop-i-preserved : goal.loop-i-preserved
loop-i-preserved c =
    let p = c.requires in
    step p.0 (omega (arith, p.0.tracks, p.1)) c.track_slot.ensures (omega (arith, p.0.tracks)) c.in-Some.ensures.1 c.in-Some.ensures.0 p.1
    c.loop-i.invariant c.judge.ensures c.joined-p.ensures (omega (arith, c.if-p-lt10))

pub returns : goal.returns
returns c = let p = c.requires.0.tracks in run_end c.loop-i.invariant (omega arith)
