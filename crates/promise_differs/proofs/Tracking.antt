-- What differs in a track, by what differs in the file. Assumes nothing.
use Prim.Native.Nat.{ℕ}
use native.Mathlib.Omega.{arith}
use mathlib.Core.Path.{◌≡◌, refl}
use mathlib.Core.List.{List, []}
use Rattle.wire.specs.Tests.{if_eq}
use Rattle.codes.specs.Codes.{MOOV, TRAK, STSD}
use Rattle.boxes.specs.Boxes.{boxes}
use Rattle.boxes.specs.Containers.{FILE, DEPTH, parent, kind_in}
use Rattle.boxes.specs.Seek.{nth}
use Rattle.boxes.specs.Kin.{Leaf, Kin}
use Rattle.boxes.specs.Kin.All2.{nil as no_boxes}
use Rattle.boxes.proofs.Kin.{kin_child}
use Rattle.movie.specs.Movie.{track, sample_table}
use Rattle.movie.specs.Stsds.{stsds_from, stsds}
use Rattle.movie.proofs.Kept.{kin_stsd}
use Rattle.movie.proofs.Stsds.{Pairs, kin_stsds}
use Rattle.movie.proofs.Stsds.Pairs.{nil}
use Rattle.promise_differs.specs.Differs.{TRACK, OnlyOffsets}

-- related files have related tracks
pub track_kin : (G : Leaf) (xs ys : List ℕ) → Kin G DEPTH FILE xs ys → (u : ℕ) → Kin G TRACK TRAK (track xs u) (track ys u)
unfolding track kind_in parent if_eq boxes nth
track_kin G xs ys a u =
    let none : Kin G TRACK TRAK [] [] = (no_boxes, refl) in
    kin_child G 5 FILE xs ys a MOOV (λ z. omega arith) (λ b b'. Kin G TRACK TRAK (nth TRAK u (boxes b)) (nth TRAK u (boxes b'))) none (λ z. omega arith)
    (λ b b' r. kin_child G 4 MOOV b b' r TRAK (λ z. omega arith) (Kin G TRACK TRAK) none (λ z. omega arith) (λ b b' q. q) u) 0

-- in lists of as many `stsd`s
pub stsds_kin : (G : Leaf) (xs ys : List ℕ) → Kin G DEPTH FILE xs ys → Pairs (Kin G TRACK TRAK) (stsds xs) (stsds ys)
unfolding stsds stsds_from kind_in parent if_eq boxes nth
stsds_kin G xs ys a =
    kin_child G 5 FILE xs ys a MOOV (λ z. omega arith)
    (λ b b'. (p q : ℕ) → Pairs (Kin G TRACK TRAK) (stsds_from 0 (boxes b) p) (stsds_from 0 (boxes b') q)) (λ p q. nil) (λ z. omega arith)
    (kin_stsds (Kin G TRACK TRAK) G TRACK (λ b b' r. r)) 0 _ _

-- ---- where only chunk offsets differ

-- a track has the same sample entries
pub track_stsd : (b b' : List ℕ) → Kin OnlyOffsets TRACK TRAK b b' → sample_table STSD b ≡ sample_table STSD b'
unfolding sample_table
track_stsd = kin_stsd OnlyOffsets (λ b b'. b ≡ b') (λ b. refl) (λ b b' r. r.rest (λ o. omega (arith, o.1))) TRACK

pub same_stsd : (xs ys : List ℕ) → Kin OnlyOffsets DEPTH FILE xs ys → (t : ℕ) → sample_table STSD (track xs t) ≡ sample_table STSD (track ys t)
same_stsd xs ys a t = track_stsd (track xs t) (track ys t) (track_kin OnlyOffsets xs ys a t)
