-- An accepted file's own sheet has the form, and the tables written from it are the file's, under plain headers. Assumes nothing.
use Prim.Native.Nat.{ℕ, ◌-◌, ◌≤◌, ◌<◌}
use native.Mathlib.Omega.{arith}
use mathlib.Core.Path.{◌≡◌, sym, ◌∙◌}
use mathlib.Core.Bool.{true}
use mathlib.Core.List.{List, []}
use mathlib.Core.Logic.{◌⊎◌, ⊎_elim}
use lib.ListN.{length}
use Rattle.codes.specs.Codes.{STSD}
use Rattle.wire.specs.Numbers.{Bytes}
use Rattle.boxes.specs.declared.walk.Form.TheVariants.{Plain}
use Rattle.boxes.specs.Containers.{LONGEST}
use Rattle.boxes.specs.Way.{box_by}
use Rattle.boxes.proofs.Whole.{head_least}
use Rattle.boxes.proofs.Turning.{length_box_by}
use Rattle.movie.specs.Movie.{tracks, track, sample_table}
use Rattle.movie.specs.Stsds.{stsds, standing}
use Rattle.movie.specs.Entries.{entries}
use Rattle.movie.specs.Named.{stsd_at}
use Rattle.movie.proofs.Stsds.{standing_at}
use Rattle.rule_shape.proofs.Descent.{tracks_few}
use Rattle.judge.specs.Acceptance.{Meets}
use Rattle.sheet.specs.Reader.{sheet_of}
use Rattle.sheet.proofs.Accepted.{accepted_fits}
use Rattle.sheet_table.specs.Form.{unsheet, formed}
use Rattle.sheet_table.specs.Table.{own_entries, table, track_table}
use Rattle.sheet_table.proofs.RoundTrip.{AllSmall, unsheet_sheet, formed_sheet}
use Rattle.promise_trips.proofs.Track.{stsd_form, at_place, described_at, all_described}
use Rattle.promise_trips.proofs.Tracks.{length_stsds, all_steps, all_meet_lem, all_some}
use Rattle.promise_trips.proofs.Small.{all_small}
use Rattle.promise_trips.proofs.Own.{not_after, not_there, own_at}

module _ (xs : List ℕ) (m : Meets xs) (v : Bytes xs) where
  entries_small : AllSmall (entries xs)
  unfolding entries
  entries_small = all_small (all_described xs m v) (omega (arith, m.most))

  -- the sheet that is read from an accepted file has the form
  pub own_formed : formed (sheet_of xs) ≡ true
  unfolding sheet_of entries
  own_formed =
      let d = all_described xs m v in
      let k = tracks_few xs m.three in
      let n = length_stsds xs in
      formed_sheet (entries xs) (all_some d (omega (arith, k.0))) (accepted_fits xs m).few entries_small (all_steps d (omega (arith, k.1))) (all_meet_lem d)

  pub own_unsheet : unsheet (sheet_of xs) ≡ entries xs
  unfolding sheet_of
  own_unsheet = unsheet_sheet (entries xs) (accepted_fits xs m).few entries_small

  -- track 0 has no entry, nor has one above the last
  pub own_none : (t : ℕ) → (t ≡ 0) ⊎ (tracks xs < t) → own_entries t (entries xs) ≡ []
  unfolding entries
  own_none t h = let n = length_stsds xs in ⊎_elim (λ e. not_after t (all_described xs m v) (omega arith)) (λ k. not_there t (all_described xs m v) (omega arith)) h

  module _ (t : ℕ) (h : 1 ≤ t) (k : t ≤ tracks xs) where
    own_t : (1 ≤ length (own_entries t (entries xs))) × (table (own_entries t (entries xs)) ≡ standing xs (stsds xs) (t - 1))
    unfolding entries
    own_t = let n = length_stsds xs in own_at (t - 1) t (all_described xs m v) (omega arith) (omega arith)

    pub own_some : 1 ≤ length (own_entries t (entries xs))
    own_some = own_t.0

    -- the table that is written from it is what stands in the file as the payload of that track's `stsd`, under a plain header
    pub table_returns : track_table (sheet_of xs) t ≡ standing xs (stsds xs) (t - 1)
    unfolding track_table
    table_returns = rw own_unsheet own_t.1

    -- and that is the box
    pub standing_box : standing xs (stsds xs) (t - 1) ≡ box_by Plain STSD (sample_table STSD (track xs (t - 1)))
    unfolding sample_table
    standing_box =
        standing_at xs (t - 1) (omega arith) ∙ rw (described_at xs m v (t - 1) (omega arith)).lies.is

    -- the very bytes at its place, where its own header is plain
    pub standing_plain : stsd_form (track xs (t - 1)) ≡ Plain → standing xs (stsds xs) (t - 1) ≡ at_place xs (stsd_at xs (t - 1))
    unfolding sample_table
    standing_plain e = standing_box ∙ sym (rw (e, length_box_by) at (described_at xs m v (t - 1) (omega arith)).whole.is)

    -- no longer than the file
    pub standing_short : length (standing xs (stsds xs) (t - 1)) ≤ LONGEST
    unfolding sample_table
    standing_short =
        let b = track xs (t - 1) in
        let w = rw length_box_by at (described_at xs m v (t - 1) (omega arith)).whole.inside in
        rw (standing_box, length_box_by) (omega (arith, m.most, head_least (stsd_form b)))
