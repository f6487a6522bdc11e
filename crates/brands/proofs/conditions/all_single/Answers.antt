use Rattle.brands.proofs.Counting.{single_none, single_more, single_fails}
use Rattle.movie.specs.Movie.{tracks}
use mathlib.Core.Path.{◌≡◌, refl, sym}
use native.Mathlib.Omega.{arith}
use Rattle.brands.proofs.conditions.all_single.Goals as goal

pub loop-t-init : goal.loop-t-init
loop-t-init c = let p = c.requires in (p.0.count, omega arith, single_none _)

pub single-requires : goal.single-requires
single-requires c = let p = c.requires in (p.0, p.1, omega (arith, c.loop-t.invariant.0, p.2))

pub returns-then-not-single : goal.returns-then-not-single
returns-then-not-single c = (single_fails _ _ refl _ (omega (arith, c.loop-t.invariant.0)) c.single.ensures c.if-not-single.true)

pub loop-t-preserved : goal.loop-t-preserved
loop-t-preserved c = let i = c.loop-t.invariant in (i.0, omega arith, single_more _ _ refl c.single.ensures c.if-not-single.false i.2)

pub returns : goal.returns
returns c = let i = c.loop-t.invariant in
    let e : c.loop-t.t ≡ tracks c.args.file.now = omega arith in sym (rw e at i.2)
