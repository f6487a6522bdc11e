-- A file meets rule 10 of its release where the entries of each of its tracks meet the narrower one. Assumes nothing.
use Prim.Native.Nat.{ℕ, ◌<◌}
use mathlib.Core.Path.{◌≡◌, refl}
use mathlib.Core.Bool.{true}
use mathlib.Core.List.{List}
use lib.ListN.{drop}
use Rattle.wire.specs.Tests.{if_eq}
use Rattle.codes.specs.Codes.{MOOV, TRAK}
use Rattle.boxes.specs.Box.{Box}
use Rattle.boxes.specs.Boxes.{FRONT, boxes}
use Rattle.boxes.specs.Containers.{FILE, DEPTH}
use Rattle.boxes.specs.Seek.{count, nth}
use Rattle.movie.specs.Movie.{tracks, track}
use Rattle.movie.specs.Stsds.{Stsd}
use Rattle.movie.proofs.Stsds.{Each, each_from}
use Rattle.movie.proofs.Stsds.Each.{none as no_more, more}
use Rattle.layout.specs.Tracks.{Framed}
use Rattle.release.specs.declared.Release.{Release}
use Rattle.release.specs.declared.Release.TheVariants.{Release6}
use Rattle.release.specs.Releases.{release_of}
use Rattle.release.proofs.Releases.{most_narrower}
use Rattle.rule.specs.Rule.{all_in}
use Rattle.rule.proofs.Opened.{closed}
use Rattle.rule_shape.specs.Three.{needed}
use Rattle.rule_entries.specs.Ten.{around_of, entries_fine, stsds_fine, ten_in, ten_rule}
use Rattle.rule_entries.proofs.Widening.{entries_wider}
use Rattle.rule_all.specs.All.{rules_to_nine}
use Rattle.rule_all.specs.Track.{Good, EntriesMeet}
use Rattle.rule_all.proofs.All.{also_second}
use Rattle.rule_all.proofs.Within.{all_any, once, numbered, in_moov, in_file}

-- the entries of each `stsd` are fine
abbrev Fine : Release → Stsd → Type 0
Fine release s = entries_fine (around_of s.trak) release (drop FRONT s.body) ≡ true

stsds_good : (release : Release) {t : ℕ} {l : List Stsd} → Each (Fine release) t l → stsds_fine release l ≡ true
unfolding stsds_fine
stsds_good release no_more = refl
stsds_good release (more e h a) = rw h (stsds_good release a)

-- the tracks are good in a file with the boxes l
moov_ten : (l : List Box) (xs : List ℕ) → ((i : ℕ) → i < count TRAK (boxes xs) → Good l (nth TRAK i (boxes xs)))
    → ((i : ℕ) → i < count TRAK (boxes xs) → EntriesMeet (nth TRAK i (boxes xs))) → all_in (ten_rule (release_of l)) 5 MOOV xs ≡ true
unfolding ten_in if_eq
moov_ten l xs each meet =
    closed (ten_rule (release_of l)) 4 MOOV xs (record {
      node = stsds_good (release_of l) (each_from (Fine (release_of l)) (boxes xs) 0 0 (λ i k. entries_wider Release6 (release_of l) (most_narrower (release_of l)) _ _ (meet i k)));
      leaves = all_any (λ x z. refl) (boxes xs);
      inside = in_moov (ten_rule (release_of l)) 4 xs (numbered (ten_rule (release_of l)) 4 xs (λ i k. also_second (rules_to_nine l) (ten_rule (release_of l)) 4 TRAK _ (each i k)));
      end = refl;
    })

pub file_ten : (l : List Box) (xs : List ℕ) → Framed xs → ((i : ℕ) → i < tracks xs → Good l (track xs i)) → ((i : ℕ) → i < tracks xs → EntriesMeet (track xs i))
    → all_in (ten_rule (release_of l)) DEPTH FILE xs ≡ true
unfolding ten_in track needed if_eq
file_ten l xs h each meet =
    closed (ten_rule (release_of l)) 5 FILE xs (record {
      node = refl;
      leaves = all_any (λ x z. refl) (boxes xs);
      inside = in_file (ten_rule (release_of l)) 5 xs (once (ten_rule (release_of l)) 5 xs h.file MOOV refl (moov_ten l _ each meet));
      end = refl;
    })
