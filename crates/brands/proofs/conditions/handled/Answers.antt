use Rattle.brands.proofs.Counting.{handled_none, handled_more, bool_most}
use lib.Dec.{eqb}
use Rattle.brands.specs.Brands.{handled_to}
use Rattle.movie.specs.Movie.{tracks}
use mathlib.Core.Path.{◌≡◌, refl, ap, ◌∙◌}
use native.Mathlib.Omega.{arith}
use Rattle.brands.proofs.conditions.handled.Goals as goal

pub loop-t-init : goal.loop-t-init
loop-t-init c = let p = c.requires in (p.0.count, omega arith, omega arith, handled_none _ _)

pub handler-requires : goal.handler-requires
handler-requires c = let p = c.requires in (p.0, omega (arith, c.loop-t.invariant.0, p.1))

pub loop-t-preserved : goal.loop-t-preserved
loop-t-preserved c = let i = c.loop-t.invariant in (i.0, omega arith, omega (arith, c.from-sum.ensures, bool_most (eqb c.handler.result c.args.h)), handled_more _ _ _ i.3 refl c.handler.ensures c.from-sum.ensures)

pub returns : goal.returns
returns c = let i = c.loop-t.invariant in let a = c.args in
    let e : c.loop-t.t ≡ tracks a.file.now = omega arith in i.3 ∙ ap (handled_to a.h a.file.now) e
