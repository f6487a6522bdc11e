-- The starts on the way, and the place at its end, add up.
use Rattle.movie.proofs.Finding.{place_is, place_few}
use native.Mathlib.Omega.{arith}
use Rattle.movie.proofs.stsd_place.Goals as goal

pub overflow_add-result : goal.overflow_add-result
overflow_add-result c = let h = place_few _ c.payload-mdia.ensures c.payload-minf.ensures c.payload-stbl.ensures in omega (arith, h.0, h.1)

pub overflow_add-result-2 : goal.overflow_add-result-2
overflow_add-result-2 c = let h = place_few _ c.payload-mdia.ensures c.payload-minf.ensures c.payload-stbl.ensures in omega (arith, h.0, h.1, h.2)

pub returns : goal.returns
returns c = let h = place_few _ c.payload-mdia.ensures c.payload-minf.ensures c.payload-stbl.ensures in
    (place_is _ c.payload-mdia.ensures c.payload-minf.ensures c.payload-stbl.ensures c.start.ensures.0 c.start-2.ensures.0 c.start-3.ensures.0 c.place.ensures.0, omega (arith, h.0, h.1, h.2))
