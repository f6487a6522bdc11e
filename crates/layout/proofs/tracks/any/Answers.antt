-- One walk over the file, one over the `moov` that it found, whatever the forms of their boxes.
use mathlib.Core.Path.{ap}
use native.Mathlib.Omega.{arith}
use Rattle.layout.specs.declared.gather.Want.{Want}
use Rattle.layout.proofs.Gathering.{gathered_as}
use Rattle.layout.proofs.LayingOut.{laid_out, spread}
use Rattle.layout.proofs.tracks.any.Goals as goal

pub wanted-f-requires : goal.wanted-f-requires
wanted-f-requires c =
    let f = ap (λ (w : Want). w.code) c.first.ensures in
    let m = ap (λ (w : Want). w.code) c.first-2.ensures in
    let d = ap (λ (w : Want). w.code) c.first-last.ensures in
    (c.whole.ensures.1, omega arith, omega arith, omega arith, omega arith, omega arith)

pub wanted-m-requires : goal.wanted-m-requires
wanted-m-requires c =
    let m = ap (λ (w : Want). w.code) c.first-3.ensures in
    let a = ap (λ (w : Want). w.code) c.nth.ensures in
    let b = ap (λ (w : Want). w.code) c.nth-2.ensures in
    let d = ap (λ (w : Want). w.code) c.nth-3.ensures in
    let e = ap (λ (w : Want). w.code) c.nth-4.ensures in
    (c.wanted-f.ensures.second.lies, omega arith, omega arith, omega arith, omega arith, omega arith)

pub returns : goal.returns
returns c =
    let d = c.first-last.ensures in
    let f = gathered_as (c.first.ensures, c.first-2.ensures, d, d, d) c.wanted-f.ensures in
    let m = gathered_as (
      c.first-3.ensures,
      c.nth.ensures,
      c.nth-2.ensures,
      c.nth-3.ensures,
      c.nth-4.ensures,
    ) c.wanted-m.ensures in
    let e = c.whole.ensures.0 in
    (laid_out e f m c.framed.ensures, spread e f m _)
