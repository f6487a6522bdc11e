-- The one entry, by its place, of the file that frames become, and that `3gp6` answers yes. Assumes nothing.
use Prim.Native.Nat.{ℕ}
use mathlib.Core.Path.{◌≡◌, refl}
use mathlib.Core.Bool.{true}
use mathlib.Core.List.{List, [], ◌∷◌}
use Rattle.wire.specs.Tests.{if_eq, if_le}
use Rattle.wire.specs.Clauses.{is_eq, is_le, is_lt, every, either, one_if}
use Rattle.wire.specs.Numbers.{bytes_on, bytes, word}
use Rattle.wire.specs.Sums.{sum_to, all_to}
use Rattle.codes.specs.Codes.{GP6}
use Rattle.boxes.specs.Box.{write}
use Rattle.boxes.specs.Seek.{meant, count, nth, place_by, start_in}
use Rattle.movie.specs.Stsds.{stsds_from, stsds}
use Rattle.movie.specs.Entries.{entries_from, entries_of, entries_in, entries}
use Rattle.movie.specs.Named.{list_in}
use Rattle.movie.specs.Ways.{to_stsd, start_along}
use Rattle.frames.specs.declared.codec.Codec.{Codec}
use Rattle.frames.specs.Modes.{mode_set}
use Rattle.release.specs.Compatible.{times_to, brand_listed}
use Rattle.brands.specs.Brands.{isom_or_avc1, beside_it, handled_to, one_entry, single, single_to, few, own_conditions, brand_holds}
use Rattle.from_amr.specs.Fields.{fields}
use Rattle.from_amr.specs.Boxes.{ftyp, mvhd, tkhd, mdhd, hdlr, smhd}
use Rattle.from_amr.specs.File.{trak_boxes, start, file_of}
use Rattle.from_amr.proofs.Lengths.{dinf_length}
use Rattle.promise_amr.specs.Made.{entry_of}
use Rattle.promise_amr.proofs.Reading.{Reads}
use Rattle.promise_amr.proofs.Found.{boxes_file, movie_boxes, one_track, track_is, handler_is}
use Rattle.promise_amr.proofs.Described.{one_entry_lem, entry_bytes}
use Rattle.promise_amr.proofs.Listed.{stsd_there}

module _ (k : Codec) (l : List (List ℕ)) (b : Reads k l) where
  abbrev trak : List ℕ
  trak = write (trak_boxes k l (start k l))

  -- ---- the entry

  entry_start : start_along to_stsd trak ≡ 241
  unfolding start_along start_in place_by nth meant if_eq tkhd mdhd hdlr smhd fields bytes bytes_on
  entry_start = rw (b.trak.list, b.mdia.list, b.minf.list, b.stbl.list, dinf_length k l (start k l))

  pub entries_are : entries (file_of k l) ≡ entry_of k l ∷ []
  unfolding entries entries_in entries_of entries_from stsds stsds_from start_in place_by meant if_eq ftyp mvhd fields bytes bytes_on
  entries_are = rw (movie_boxes k l b, boxes_file k l b, entry_start, stsd_there k l b, one_entry_lem k (mode_set l), entry_bytes k (mode_set l))

  -- ---- `3gp6`

  listed : (brand_listed GP6 ftyp ≡ true) × (beside_it GP6 ftyp ≡ true)
  unfolding brand_listed beside_it isom_or_avc1 times_to sum_to one_if either is_eq is_lt if_eq ftyp fields bytes bytes_on word if_le
  listed = (refl, refl)

  few_tracks : few (file_of k l) ≡ true
  unfolding few every is_le is_eq if_eq one_if handled_to single_to single one_entry list_in sum_to all_to count meant
  few_tracks = rw (one_track k l b, track_is k l b, handler_is k l b, stsd_there k l b, one_entry_lem k (mode_set l))

  pub newest : brand_holds GP6 (file_of k l) ≡ true
  unfolding brand_holds every own_conditions nth meant if_eq
  newest = rw (boxes_file k l b, listed.0, listed.1, few_tracks)
