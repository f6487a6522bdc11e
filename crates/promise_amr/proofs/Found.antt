-- What is found in the file that frames become: its movie, its one track, and what that track says. Assumes nothing.
use Prim.Native.Nat.{ℕ}
use mathlib.Core.Path.{◌≡◌, refl}
use mathlib.Core.List.{List}
use Rattle.wire.specs.Tests.{if_eq, if_le}
use Rattle.wire.specs.Numbers.{bytes_on, bytes, word}
use Rattle.codes.specs.Codes.{SOUN}
use Rattle.boxes.specs.Box.{header, write}
use Rattle.boxes.specs.Boxes.{boxes}
use Rattle.boxes.specs.Seek.{meant, count, nth, find}
use Rattle.movie.specs.Movie.{movie, tracks, track, mdia, sample_table, references, handler, scale}
use Rattle.movie.specs.Ways.{follow}
use Rattle.frames.specs.declared.codec.Codec.{Codec}
use Rattle.frames.specs.declared.codec.Codec.TheVariants.{Amr, Wideband}
use Rattle.from_amr.specs.Fields.{fields}
use Rattle.from_amr.specs.Boxes.{scale_by, mdhd, hdlr, dref}
use Rattle.from_amr.specs.File.{ticks_of, stbl_boxes, mdia_boxes, trak_boxes, moov_boxes, start, file_boxes, file_of}
use Rattle.promise_amr.proofs.Reading.{Reads}

scale_there : (k : Codec) (n : ℕ) → word 4 (mdhd (scale_by k) n) 12 ≡ scale_by k
unfolding mdhd fields bytes bytes_on word if_le
scale_there Amr n = refl
scale_there Wideband n = refl

one_reference : word 4 dref 4 ≡ 1
unfolding dref fields bytes bytes_on word if_le write header
one_reference = refl

module _ (k : Codec) (l : List (List ℕ)) (b : Reads k l) where
  abbrev trak : List ℕ
  trak = write (trak_boxes k l (start k l))

  -- ---- the movie and its track

  pub boxes_file : boxes (file_of k l) ≡ file_boxes k l
  unfolding file_of
  boxes_file = b.file.list

  pub movie_boxes : movie (file_of k l) ≡ moov_boxes k l (start k l)
  unfolding nth meant if_eq
  movie_boxes = rw boxes_file b.moov.list

  pub one_track : tracks (file_of k l) ≡ 1
  unfolding count meant if_eq
  one_track = rw movie_boxes

  pub track_is : track (file_of k l) 0 ≡ trak
  unfolding track nth meant if_eq
  track_is = rw movie_boxes

  -- ---- what the track says

  mdia_boxes_lem : mdia trak ≡ mdia_boxes k l (start k l)
  unfolding nth meant if_eq
  mdia_boxes_lem = rw b.trak.list b.mdia.list

  pub handler_is : handler trak ≡ SOUN
  unfolding handler nth meant if_eq hdlr fields bytes bytes_on word if_le
  handler_is = rw mdia_boxes_lem

  pub scale_is : scale trak ≡ scale_by k
  unfolding scale nth meant if_eq
  scale_is = rw mdia_boxes_lem (scale_there k (ticks_of k l))

  pub references_is : references trak ≡ 1
  unfolding references follow nth meant if_eq
  references_is = rw (b.trak.list, b.mdia.list, b.minf.list, b.dinf.list) one_reference

  pub table_is : (c : ℕ) → sample_table c trak ≡ find c (stbl_boxes k l (start k l))
  unfolding sample_table follow nth meant if_eq
  table_is c = rw (b.trak.list, b.mdia.list, b.minf.list, b.stbl.list)
