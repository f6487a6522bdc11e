-- A track that is there is found.
use Rattle.boxes.proofs.Cutting.{cut_as, none_as, cut_payload}
use Rattle.codes.specs.Codes.{TRAK}
use Rattle.edit_replace.proofs.Finding.{moov_as}
use native.Mathlib.Omega.{arith}
use Rattle.edit_replace.proofs.place.in_moov.Goals as goal

pub in_track-requires : goal.in_track-requires
in_track-requires c = let a = c.args in let k = cut_as a.moov.now TRAK a.t _ c.nth.ensures _ c.in_ok-k.was in
    (k.least, k.inside, rw (cut_payload a.moov.now TRAK a.t _ k) c.requires.1)

pub returns : goal.returns
returns c = let a = c.args in moov_as a.moov.now _ a.t a.n (cut_as a.moov.now TRAK a.t _ c.nth.ensures _ c.in_ok-k.was) _ c.in_track.ensures

pub returns-in_err-k : goal.returns-in_err-k
returns-in_err-k c = absurd (omega (arith, c.requires.0, none_as c.args.moov.now TRAK c.args.t _ c.nth.ensures c.in_err-k.was))
