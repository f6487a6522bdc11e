-- What the rules say of each `stsd` of an accepted file. Assumes nothing.
use Prim.Native.Nat.{ℕ, ◌+◌, ◌<◌}
use native.Mathlib.Omega.{arith}
use mathlib.Core.Path.{◌≡◌, refl, ap}
use mathlib.Core.Bool.{true}
use mathlib.Core.List.{List}
use lib.ListN.{length, take, drop}
use Rattle.wire.specs.Tests.{if_eq}
use Rattle.codes.specs.Codes.{MDIA, MINF, STBL, STSD}
use Rattle.wire.specs.Numbers.{Bytes}
use Rattle.wire.proofs.Tests.{both}
use Rattle.boxes.specs.declared.walk.Form.{Form}
use Rattle.boxes.specs.Boxes.{HEAD, FRONT, boxes}
use Rattle.boxes.specs.Seek.{find, form_in}
use Rattle.boxes.specs.Way.{box_by}
use Rattle.boxes.proofs.Numbered.{nth_there}
use Rattle.boxes.proofs.Lying.{Lies, bytes_lies, lies_in, lies_found, lies_whole}
use Rattle.movie.specs.Ways.{to_stsd, follow, place_along}
use Rattle.movie.specs.Movie.{movie, tracks, track, mdia, minf}
use Rattle.movie.specs.Stsds.{Stsd, stsds_from, stsds}
use Rattle.movie.specs.Entries.{entries_of}
use Rattle.movie.specs.Named.{stsd_at}
use Rattle.movie.proofs.Naming.{bytes_follow, lies_track, stsd_lies}
use Rattle.movie.proofs.Stsds.{Each, each_from, each_at, each_stsd}
use Rattle.movie.proofs.Stsds.Each.{none, more}
use Rattle.release.specs.declared.Release.{Release}
use Rattle.release.specs.Releases.{release_of}
use Rattle.rule_shape.proofs.Descent.{node_met, in_moov}
use Rattle.rule_lists.specs.Five.{Listed}
use Rattle.rule_entries.specs.Ten.{around_of, entries_fine, stsds_fine, ten_in, ten_rule}
use Rattle.judge.specs.Acceptance.{Meets}
use Rattle.judge.proofs.Tables.{file_met}
use Rattle.sheet.proofs.Accepted.{listed_at}
use Rattle.sheet_table.specs.Form.{all_meet}
use Rattle.promise_trips.proofs.Alone.{from_meet}

-- the form of the `stsd` of a track whose payload is b
abbrev pub stsd_form : List ℕ → Form
stsd_form b = form_in STSD 0 (boxes (find STBL (minf b)))

-- as many bytes of the file at the place of an `stsd` as it takes under a plain header
abbrev pub at_place : List ℕ → Stsd → List ℕ
at_place xs s = take (HEAD + length s.body) (drop s.place xs)

-- it has the form of rule 5, each of its entries meets rule 10 alone, and it stands in the file: its payload at its start, and at its place header and all
pub record Described (xs : List ℕ) (s : Stsd) : Type 0 where
  pub listed : Listed s.body
  pub meet : all_meet (entries_of s) ≡ true
  pub filled : Bytes s.body
  pub lies : Lies s.body xs s.start
  pub whole : Lies (box_by (stsd_form s.trak) STSD s.body) xs s.place

-- ---- where it stands

-- the box at the end of the way to it
whole_along : (b : List ℕ) → Bytes b → 0 < length (follow to_stsd b) → Lies (box_by (stsd_form b) STSD (follow to_stsd b)) b (place_along to_stsd b)
unfolding follow place_along
whole_along b v h =
    let l = lies_found MDIA 0 b v in
    let u = bytes_lies l v in
    let m = lies_found MINF 0 (find MDIA (boxes b)) u in
    let w = bytes_lies m u in
    let n = lies_found STBL 0 (find MINF (mdia b)) w in
    let s = find STBL (minf b) in
    let t = nth_there STSD 0 (boxes s) (λ e. omega (arith, ap length e)) in
    lies_in l (lies_in m (lies_in n (lies_whole STSD (λ z. omega arith) 0 s (bytes_lies n w) t)))

-- ---- rule 10

abbrev Fine : Release → Stsd → Type 0
Fine release s = entries_fine (around_of s.trak) release (drop FRONT s.body) ≡ true

fine_each : (release : Release) {t : ℕ} {l : List Stsd} → Each (λ s. s.track ≡ s.track) t l → stsds_fine release l ≡ true → Each (Fine release) t l
unfolding stsds_fine
fine_each release none q = none
fine_each release (more {s = s} {l = l} e h a) q = let w = both (entries_fine (around_of s.trak) release (drop FRONT s.body)) (stsds_fine release l) q in more e w.0 (fine_each release a w.1)

module _ (xs : List ℕ) (m : Meets xs) where
  fine_at : (n : ℕ) → n < tracks xs → entries_fine (around_of (track xs n)) (release_of (boxes xs)) (drop FRONT (follow to_stsd (track xs n))) ≡ true
  unfolding ten_in track if_eq
  fine_at n k =
      let q : stsds_fine (release_of (boxes xs)) (stsds_from 0 (movie xs) 0) ≡ true = node_met (in_moov (file_met xs m (ten_rule (release_of (boxes xs))) m.ten)) in
      each_at (Fine (release_of (boxes xs))) n (movie xs) 0 0 (fine_each (release_of (boxes xs)) (each_from (λ s. s.track ≡ s.track) (movie xs) 0 0 (λ i h. refl)) q) k

  -- ---- each of them

  module _ (v : Bytes xs) where
    pub described_at : (n : ℕ) → n < tracks xs → Described xs (stsd_at xs n)
    unfolding entries_of entries_fine
    described_at n k =
        let g = listed_at xs m n k in
        record {
          listed = g;
          meet = from_meet (around_of (track xs n)) (release_of (boxes xs)) (n + 1) (boxes (drop FRONT (follow to_stsd (track xs n)))) _ (fine_at n k);
          filled = bytes_follow to_stsd (track xs n) (bytes_lies (lies_track xs n v) v);
          lies = stsd_lies xs n v;
          whole = let l = lies_track xs n v in lies_in l (whole_along (track xs n) (bytes_lies l v) (omega (arith, g.room)));
        }

    pub all_described : Each (Described xs) 0 (stsds xs)
    all_described = each_stsd (Described xs) xs described_at
