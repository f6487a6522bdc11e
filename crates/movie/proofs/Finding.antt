-- What is found in what was found. Assumes nothing.
use Prim.Native.Nat.{ℕ, ◌+◌, ◌≤◌}
use native.Mathlib.Omega.{arith}
use mathlib.Core.Path.{◌≡◌, ◌∙◌}
use mathlib.Core.List.{List}
use lib.ListN.{length}
use Rattle.codes.specs.Codes.{MOOV, TRAK, TKHD, MDIA, MDHD, HDLR, MINF, STBL, STSD, DINF, DREF}
use Rattle.wire.specs.Numbers.{word}
use Rattle.boxes.specs.Boxes.{boxes}
use Rattle.boxes.specs.Seek.{count, nth, find, place_in, start_in}
use Rattle.boxes.proofs.Numbered.{found_short}
use Rattle.movie.specs.Ways.{to_stsd, follow, start_along, place_along}
use Rattle.movie.specs.Movie.{tracks, track, sample_table, references, handler, scale, movie_ticks}

module _ (xs : List ℕ) {moov : List ℕ} (e : moov ≡ find MOOV (boxes xs)) where
  pub tracks_are : {r : ℕ} → r ≡ count TRAK (boxes moov) → r ≤ length moov → (r ≡ tracks xs) × (r ≤ length xs)
  tracks_are f h = (rw (f, e), omega (arith, h, found_short _ _ _ e))

  pub track_is : (t : ℕ) {ys : List ℕ} → ys ≡ nth TRAK t (boxes moov) → (ys ≡ track xs t) × (length ys ≤ length xs)
  unfolding track
  track_is t f = (rw (f, e), omega (arith, found_short _ _ _ e, found_short _ _ _ f))

module _ (b : List ℕ) {mdia : List ℕ} (e : mdia ≡ find MDIA (boxes b)) where
  pub handler_is : {ys : List ℕ} {r : ℕ} → ys ≡ find HDLR (boxes mdia) → r ≡ word 4 ys 8 → r ≡ handler b
  unfolding handler
  handler_is f g = rw (g, f, e)

  pub scale_is : {ys : List ℕ} {r : ℕ} → ys ≡ find MDHD (boxes mdia) → r ≡ word 4 ys 12 → r ≡ scale b
  unfolding scale
  scale_is f g = rw (g, f, e)

  pub table_is : (c : ℕ) {minf ys zs : List ℕ} → minf ≡ find MINF (boxes mdia) → ys ≡ find STBL (boxes minf) → zs ≡ find c (boxes ys) → (zs ≡ sample_table c b) × (length zs ≤ length b)
  unfolding sample_table follow
  table_is c f g h = (rw (h, g, f, e), omega (arith, found_short _ _ _ e, found_short _ _ _ f, found_short _ _ _ g, found_short _ _ _ h))

  pub references_are : {minf dinf ys : List ℕ} {r : ℕ} → minf ≡ find MINF (boxes mdia) → dinf ≡ find DINF (boxes minf) → ys ≡ find DREF (boxes dinf) → r ≡ word 4 ys 4 → r ≡ references b
  unfolding references follow
  references_are f g h i = rw (i, h, g, f, e)

  -- where its `stsd` starts, and its payload, and no number on the way there is large
  module _ {minf stbl : List ℕ} (f : minf ≡ find MINF (boxes mdia)) (g : stbl ≡ find STBL (boxes minf)) where
    pub place_is : {i j k m : ℕ} → i ≡ start_in MDIA 0 (boxes b) → j ≡ start_in MINF 0 (boxes mdia) → k ≡ start_in STBL 0 (boxes minf) → m ≡ place_in STSD 0 (boxes stbl) → i + j + k + m ≡ place_along to_stsd b
    unfolding place_along
    place_is {i} {j} {k} {m} o p q r = let z : i + j + k + m ≡ i + (j + (k + m)) = omega arith in z ∙ rw (o, p, q, r, g, f, e)

    pub start_is : {i j k m : ℕ} → i ≡ start_in MDIA 0 (boxes b) → j ≡ start_in MINF 0 (boxes mdia) → k ≡ start_in STBL 0 (boxes minf) → m ≡ start_in STSD 0 (boxes stbl) → i + j + k + m ≡ start_along to_stsd b
    unfolding start_along
    start_is {i} {j} {k} {m} o p q r = let z : i + j + k + m ≡ i + (j + (k + (m + 0))) = omega arith in z ∙ rw (o, p, q, r, g, f, e)

    pub place_few : (length mdia ≤ length b) × (length minf ≤ length b) × (length stbl ≤ length b)
    place_few = let h = found_short MDIA 0 b e in let k = found_short MINF 0 mdia f in let l = found_short STBL 0 minf g in (h, omega arith, omega arith)

pub ticks_are : (b : List ℕ) {ys : List ℕ} {r : ℕ} → ys ≡ find TKHD (boxes b) → r ≡ word 4 ys 20 → r ≡ movie_ticks b
unfolding movie_ticks
ticks_are b f g = rw (g, f)
