-- Five walks over plain boxes, each over a container that one before it found alone.
use native.Mathlib.Omega.{arith}
use mathlib.Core.Path.{sym, ◌∙◌}
use Rattle.wire.proofs.Clauses.{clause}
use Rattle.layout.proofs.Laying.{all_laid}
use Rattle.layout.proofs.track.lay.Goals as goal

pub three-m-requires : goal.three-m-requires
three-m-requires c = let g = c.two-t.ensures (clause 0 _ (sym c.alone.ensures ∙ c.if-not-alone.false)) in (g.second.lies, omega arith, omega arith, omega arith)

pub two-i-requires : goal.two-i-requires
two-i-requires c = let g = c.three-m.ensures (clause 0 _ (sym c.alone-2.ensures ∙ c.if-not-alone-2.false)) in (g.third.lies, omega arith, omega arith)

pub five-s-requires : goal.five-s-requires
five-s-requires c = let g = c.two-i.ensures (clause 0 _ (sym c.alone-3.ensures ∙ c.if-not-alone-3.false)) in (g.second.lies, omega arith, omega arith, omega arith, omega arith, omega arith)

pub one-d-requires : goal.one-d-requires
one-d-requires c = let g = c.two-i.ensures (clause 0 _ (sym c.alone-3.ensures ∙ c.if-not-alone-3.false)) in (g.first.lies, omega arith)

pub returns : goal.returns
returns c =
    let t = sym c.alone.ensures ∙ c.if-not-alone.false in
    let m = sym c.alone-2.ensures ∙ c.if-not-alone-2.false in
    let i = sym c.alone-3.ensures ∙ c.if-not-alone-3.false in
    let s = sym c.alone-4.ensures ∙ c.if-not-alone-4.false in
    let d = sym c.alone-5.ensures ∙ c.if-not-alone-5.false in
    all_laid (c.two-t.ensures (clause 0 _ t)) (c.three-m.ensures (clause 0 _ m)) (c.two-i.ensures (clause 0 _ i)) (c.five-s.ensures (clause 0 _ s))
    (c.one-d.ensures (clause 0 _ d)) t m i s d
