-- A file that is made of good frames: it meets each rule, and is what it is said to be. Assumes nothing.
use Prim.Native.Nat.{ℕ, ◌≤◌}
use native.Mathlib.Omega.{arith}
use mathlib.Core.Path.{◌≡◌, refl, ◌∙◌}
use mathlib.Core.List.{List}
use lib.ListN.{length}
use Rattle.wire.specs.Tests.{if_eq, if_le}
use Rattle.wire.specs.Clauses.{is_eq, is_lt, every, one_if}
use Rattle.wire.specs.Numbers.{Bytes, bytes_on, bytes, word}
use Rattle.wire.specs.Sums.{sum_to}
use Rattle.wire.proofs.Clauses.{is_eq_lem}
use Rattle.boxes.specs.Boxes.{boxes}
use Rattle.boxes.specs.Containers.{LONGEST}
use Rattle.boxes.specs.Seek.{meant, nth}
use Rattle.release.specs.declared.Release.TheVariants.{Release6}
use Rattle.release.specs.Compatible.{times_to, brand_listed, brand_missing}
use Rattle.release.specs.Releases.{release_in, release_of}
use Rattle.entry_heads.specs.Kinds.{SamrKind, SawbKind}
use Rattle.entry_rules.proofs.Modes.{modes_is}
use Rattle.frames.specs.declared.codec.Codec.{Codec}
use Rattle.frames.specs.declared.codec.Codec.TheVariants.{Amr, Wideband}
use Rattle.frames.specs.Frames.{joined, EachGood}
use Rattle.frames.specs.Modes.{mode_set}
use Rattle.frames.proofs.Modes.{modes_fit, modes_amr, modes_wide}
use Rattle.judge.specs.Acceptance.{Meets}
use Rattle.judge.specs.Calls.{when_accepted, answer_on}
use Rattle.judge.proofs.Exact.{meets_accepted}
use Rattle.brands.specs.Calls.{brand_answer}
use Rattle.from_amr.specs.Fields.{fields}
use Rattle.from_amr.specs.Boxes.{ftyp}
use Rattle.from_amr.specs.File.{start, file_of}
use Rattle.from_amr.proofs.Lengths.{length_file}
use Rattle.promise_amr.specs.Made.{Recording}
use Rattle.promise_amr.proofs.Reading.{Reads, reads}
use Rattle.promise_amr.proofs.Shaped.{two, three, takes_edits}
use Rattle.promise_amr.proofs.Headed.{four, nine}
use Rattle.promise_amr.proofs.Found.{boxes_file, one_track, track_is, scale_is}
use Rattle.promise_amr.proofs.Described.{OwnModes, entry_reads}
use Rattle.promise_amr.proofs.Listed.{five, ten}
use Rattle.promise_amr.proofs.Tabled.{six, seven, eight}
use Rattle.promise_amr.proofs.Sampled.{samples_of_lem}
use Rattle.promise_amr.proofs.Filled.{file_filled}
use Rattle.promise_amr.proofs.Entered.{entries_are, newest}
use Rattle.promise_amr.proofs.Timed.{media_is, movie_is}

-- the modes of good frames are the codec's
own_modes : (k : Codec) (l : List (List ℕ)) → EachGood k l → OwnModes k (mode_set l)
unfolding if_eq
own_modes Amr l g = record { fits = modes_fit l; own = modes_is SamrKind (mode_set l) ∙ is_eq_lem _ _ (modes_amr l g) }
own_modes Wideband l g = record { fits = modes_fit l; own = modes_is SawbKind (mode_set l) ∙ is_eq_lem _ _ (modes_wide l g) }

start_least : (k : Codec) (l : List (List ℕ)) → 8 ≤ start k l
unfolding start
start_least k l = omega arith

module _ (k : Codec) (l : List (List ℕ)) (g : EachGood k l) (f : length l ≤ 65536) (s : length (file_of k l) ≤ LONGEST) where
  b : Reads k l
  b = reads k l s

  release_is : release_of (boxes (file_of k l)) ≡ Release6
  unfolding release_in every brand_listed brand_missing times_to sum_to one_if is_eq is_lt nth meant if_eq ftyp fields bytes bytes_on word if_le
  release_is = rw (boxes_file k l b)

  pub meets : Meets (file_of k l)
  meets =
      let z = length_file k l in
      record {
        least = omega (arith, start_least k l);
        most = s;
        two = two k l b;
        three = three k l b;
        four = four k l b;
        five = five k l b;
        six = six k l b f (omega arith);
        seven = seven k l b f (omega arith);
        eight = eight k l b f (omega arith) (omega arith);
        nine = nine k l b;
        ten = rw release_is (ten k l b (own_modes k l g));
      }

  pub made : Bytes (joined l) → Recording k l (file_of k l)
  unfolding brand_answer answer_on when_accepted one_if
  made v =
      let z = length_file k l in
      let a = meets_accepted (file_of k l) meets in
      record {
        accepted = a;
        editable = takes_edits k l b;
        bytes = file_filled k l v;
        tracks = one_track k l b;
        samples = samples_of_lem k l b (omega arith) (omega arith) (omega arith);
        scale = rw (track_is k l b) (scale_is k l b);
        media = media_is k l b (omega arith);
        movie = movie_is k l b f;
        entry = entries_are k l b;
        reads = entry_reads (mode_set l) k (own_modes k l g);
        brand = rw (a, newest k l b);
      }
