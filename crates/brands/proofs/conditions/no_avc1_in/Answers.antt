use Rattle.brands.proofs.Counting.{plain_none, plain_more, plain_fails}
use Rattle.movie.specs.Movie.{tracks}
use mathlib.Core.Path.{◌≡◌, refl, sym}
use native.Mathlib.Omega.{arith}
use Rattle.brands.proofs.conditions.no_avc1_in.Goals as goal

pub loop-t-init : goal.loop-t-init
loop-t-init c = let p = c.requires in (p.0.tracks, omega arith, plain_none _)

pub no_avc1-requires : goal.no_avc1-requires
no_avc1-requires c = let p = c.requires in (p.0, omega (arith, c.loop-t.invariant.0, p.1))

pub returns-then-not-no_avc1 : goal.returns-then-not-no_avc1
returns-then-not-no_avc1 c = (plain_fails _ _ refl _ (omega (arith, c.loop-t.invariant.0)) c.no_avc1.ensures c.if-not-no_avc1.true)

pub loop-t-preserved : goal.loop-t-preserved
loop-t-preserved c = let i = c.loop-t.invariant in (i.0, omega arith, plain_more _ _ refl c.no_avc1.ensures c.if-not-no_avc1.false i.2)

pub returns : goal.returns
returns c = let i = c.loop-t.invariant in
    let e : c.loop-t.t ≡ tracks c.args.file.now = omega arith in sym (rw e at i.2)
