use borrow.Author.Rules.{rules}
use Prim.Native.Nat.{◌+◌, ◌*◌, ◌/◌, ◌%◌}
use Rattle.sample_tables.proofs.Sizes.{bytes_none, bytes_join, listed_four}
use Rattle.sample_tables.specs.Sizes.{bytes_from}
use mathlib.Core.Path.{◌≡◌, ap, ◌∙◌}
use native.Mathlib.Omega.{arith}
use Rattle.sample_tables.proofs.size.many_from.Goals as goal

pub loop-i-init : goal.loop-i-init
loop-i-init c = (search rules, bytes_none _ _, search rules)

pub loop-i-preserved : goal.loop-i-preserved
loop-i-preserved c =
    let e : 4 * c.loop-i.i + 4 ≡ 4 * (c.loop-i.i + 1) = omega arith in
    (omega arith, rw e at (listed_four _ c.requires.0 _ (4 * c.loop-i.i) c.loop-i.invariant.1 c.four-sum.ensures.0), omega arith)

pub few_from-requires : goal.few_from-requires
few_from-requires c = (c.requires.0, omega arith, omega arith)

pub returns : goal.returns
returns c = let a = c.args in
    let i : 4 * c.loop-i.i ≡ a.n / 4 * 4 = omega arith in
    let e : a.n / 4 * 4 + a.n % 4 ≡ a.n = omega arith in
    (omega (arith, rw i at c.loop-i.invariant.1, bytes_join a.stsz.now a.first (a.n / 4 * 4) (a.n % 4) ∙ ap (bytes_from a.stsz.now a.first) e), omega arith)
