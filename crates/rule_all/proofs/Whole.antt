-- A file meets rules 2 to 9 where its headers do, and each of its tracks. Assumes nothing.
use Prim.Native.Nat.{ℕ, zero, suc, ◌+◌, ◌≤◌, ◌<◌}
use native.Mathlib.Omega.{arith}
use mathlib.Core.Path.{◌≡◌, refl, ap}
use mathlib.Core.Bool.{true}
use mathlib.Core.List.{List, [], ◌∷◌}
use Rattle.wire.specs.Tests.{if_eq}
use Rattle.wire.specs.Sums.{sum_to}
use Rattle.wire.specs.Clauses.{is_le}
use Rattle.wire.proofs.Clauses.{is_le_lem}
use Rattle.wire.proofs.Sums.{sum_same}
use Rattle.codes.specs.Codes.{FTYP, MOOV, MVHD, TRAK}
use Rattle.boxes.specs.Box.{Box, size}
use Rattle.boxes.specs.Boxes.{boxes}
use Rattle.boxes.specs.Containers.{FILE, DEPTH}
use Rattle.boxes.specs.Seek.{count, find, nth}
use Rattle.boxes.proofs.Every.{all_map}
use Rattle.boxes.proofs.Meaning.{meant_or, count_hit, count_miss, nth_hit, nth_next, nth_miss}
use Rattle.movie.specs.Ways.{to_stsd, follow}
use Rattle.movie.specs.Movie.{movie, tracks, track, stored_count}
use Rattle.movie.specs.Stsds.{stsds_from}
use Rattle.movie.proofs.Boxed.{stsds_hit, stsds_miss}
use Rattle.layout.specs.Track.{Has}
use Rattle.layout.specs.Tracks.{Framed}
use Rattle.release.specs.Releases.{release_of}
use Rattle.rule.specs.Rule.{all_in}
use Rattle.rule.proofs.Opened.{closed}
use Rattle.rule_shape.specs.Three.{needed}
use Rattle.rule_headers.specs.Forms.{form}
use Rattle.rule_headers.specs.Identities.{different}
use Rattle.rule_headers.specs.Four.{tracks_fine}
use Rattle.rule_lists.specs.Five.{MOST, counted_in}
use Rattle.rule_tracks.specs.Seven.{seven_in}
use Rattle.rule_tracks.specs.Eight.{eight_in}
use Rattle.rule_entries.specs.Ten.{ten_rule}
use Rattle.rule_all.specs.All.{rules_to_nine}
use Rattle.rule_all.specs.Track.{Good}
use Rattle.rule_all.specs.Tracks.{entries_on}
use Rattle.rule_all.proofs.All.{also_first}
use Rattle.rule_all.proofs.Held.{leaf_file, leaf_moov}
use Rattle.rule_all.proofs.Within.{sole_each, once, numbered, in_moov, in_file}

-- ---- the tracks by number

-- a sum from its first term
sum_first : (f : ℕ → ℕ) (n : ℕ) → sum_to f (suc n) ≡ f 0 + sum_to (λ i. f (suc i)) n
unfolding sum_to
sum_first f zero = omega arith
sum_first f (suc n) = rw (sum_first f n) (omega arith)

abbrev counts : List Box → ℕ → ℕ
counts l i = stored_count (follow to_stsd (nth TRAK i l))

no_tracks : count TRAK [] ≡ 0
unfolding count
no_tracks = refl

-- the total of the `stsd`s is that of the tracks
total_is : (l : List Box) (t p : ℕ) → counted_in (stsds_from t l p) ≡ sum_to (counts l) (count TRAK l)
unfolding stsds_from counted_in sum_to
total_is [] t p = rw no_tracks
total_is (x ∷ l) t p =
    meant_or TRAK x.code
    (λ e.
    let n : count TRAK (x ∷ l) ≡ suc (count TRAK l) = omega (arith, count_hit TRAK x l e) in
    let same = sum_same (λ i. counts (x ∷ l) (suc i)) (counts l) (count TRAK l)
    (λ i k. ap (λ (b : List ℕ). stored_count (follow to_stsd b)) (nth_next TRAK x l e i)) in
    rw (stsds_hit x e l t p, n, sum_first (counts (x ∷ l)) (count TRAK l), nth_hit TRAK x l e, total_is l (t + 1) (p + size x), same))
    (λ e.
    let same = sum_same (counts (x ∷ l)) (counts l) (count TRAK l) (λ i k. ap (λ (b : List ℕ). stored_count (follow to_stsd b)) (nth_miss TRAK x l e i)) in
    rw (stsds_miss x e l t p, count_miss TRAK x l e, same) (total_is l t (p + size x)))

-- ---- the `moov` and the file

module _ (l : List Box) {xs : List ℕ} (h : Has MOOV xs) (head : form MOOV MVHD (find MVHD (boxes xs)) ≡ true)
    (each : (i : ℕ) → i < count TRAK (boxes xs) → Good l (nth TRAK i (boxes xs))) (differ : different (boxes xs) ≡ true)
    (few : sum_to (counts (boxes xs)) (count TRAK (boxes xs)) ≤ MOST) where
  total_few : is_le (counted_in (stsds_from 0 (boxes xs) 0)) MOST ≡ true
  total_few = is_le_lem _ _ (rw (total_is (boxes xs) 0 0) few)

  moov_nine : all_in (rules_to_nine l) 5 MOOV xs ≡ true
  unfolding needed tracks_fine seven_in eight_in if_eq
  moov_nine =
      closed (rules_to_nine l) 4 MOOV xs (record {
        node = rw (h.shut, h.three, differ, total_few);
        leaves = all_map (λ x p z. leaf_moov l x.code x.body p) (sole_each h MVHD refl (λ b. form MOOV MVHD b ≡ true) head);
        inside = in_moov (rules_to_nine l) 4 xs (numbered (rules_to_nine l) 4 xs (λ i k. also_first (rules_to_nine l) (ten_rule (release_of l)) 4 TRAK _ (each i k)));
        end = rw h.two;
      })

pub file_nine : (l : List Box) (xs : List ℕ) → Framed xs → form FILE FTYP (find FTYP (boxes xs)) ≡ true → form MOOV MVHD (find MVHD (movie xs)) ≡ true
    → ((i : ℕ) → i < tracks xs → Good l (track xs i)) → different (movie xs) ≡ true → sum_to (entries_on xs) (tracks xs) ≤ MOST
    → all_in (rules_to_nine l) DEPTH FILE xs ≡ true
unfolding needed tracks_fine seven_in eight_in track if_eq
file_nine l xs h front head each differ few =
    closed (rules_to_nine l) 5 FILE xs (record {
      node = rw (h.file.shut, h.file.three);
      leaves = all_map (λ x p z. leaf_file l x.code x.body p) (sole_each h.file FTYP refl (λ b. form FILE FTYP b ≡ true) front);
      inside = in_file (rules_to_nine l) 5 xs (once (rules_to_nine l) 5 xs h.file MOOV refl (moov_nine l h.moov head each differ few));
      end = rw h.file.two;
    })
