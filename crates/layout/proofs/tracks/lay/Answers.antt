-- One walk over the file, one over the `moov` that it found, both over plain boxes.
use native.Mathlib.Omega.{arith}
use mathlib.Core.Path.{refl, sym, ◌∙◌}
use Rattle.std.proofs.lemmas.Bool.{not-false}
use Rattle.layout.proofs.LayingOut.{laid_out, spread}
use Rattle.layout.proofs.tracks.lay.Goals as goal

pub with_tracks-m-requires : goal.with_tracks-m-requires
with_tracks-m-requires c = let f = c.three-f.ensures (not-false _ c.if-not-f.false) in (f.second.lies, omega arith)

pub returns : goal.returns
returns c =
    let f = c.three-f.ensures (not-false _ c.if-not-f.false) in
    let m = c.with_tracks-m.ensures (not-false _ c.if-not-m.false) in
    (refl, laid_out c.whole.ensures.0 f m (sym c.if-not-framed.false ∙ c.framed.ensures), spread c.whole.ensures.0 f m _)
