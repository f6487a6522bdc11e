-- Rule 8 and a track's samples, kept where every chunk offset is relocated. Assumes nothing.
use Prim.Native.Nat.{ℕ, zero, suc, ◌+◌, ◌≤◌, ◌<◌}
use native.Mathlib.Omega.{arith}
use mathlib.Core.Path.{◌≡◌, refl, sym, ap, ◌∙◌}
use mathlib.Core.Bool.{true}
use mathlib.Core.List.{List, [], ◌∷◌, ◌++◌, append-nil}
use lib.ListN.{take, drop}
use lib.Seq.{take-take, drop-drop}
use Rattle.wire.specs.Numbers.{Bytes}
use Rattle.boxes.specs.Box.{Box, write}
use Rattle.boxes.specs.Boxes.{boxes, after}
use Rattle.boxes.proofs.Reading.{write_boxes}
use Rattle.sample_tables.specs.Tables.{items}
use Rattle.sample_tables.specs.Sizes.{size_at, bytes_from}
use Rattle.sample_tables.specs.Chunks.{samples_in, first_sample, offset_at, chunk_at, extent_of}
use Rattle.sample_tables.proofs.Sizes.{sample_within}
use Rattle.sample_walk.proofs.Joins.{join_same}
use Rattle.mdat.specs.Payloads.{mdats}
use Rattle.mdat.specs.Relocate.{Relocated}
use Rattle.mdat.specs.Rules.{chunk_in, chunks_lie}
use Rattle.mdat.specs.Samples.{samples_of}
use Rattle.mdat.proofs.Cutting.{chunk_cut, samples_cut}
use Rattle.mdat.proofs.Inside.{lies_at}
use Rattle.mdat.proofs.Eight.{eight_at, eight_of, chunk_in_lem}
use Rattle.mdat.proofs.Relocating.{relocate_in, relocate_bytes}

-- ---- parts of bytes

-- a part of the first n bytes
part_of : (b s n : ℕ) (xs : List ℕ) → b + s ≤ n → take s (drop b (take n xs)) ≡ take s (drop b xs)
part_of zero s n xs h = take-take s n xs (omega arith)
part_of (suc b) s zero xs h = absurd (omega arith)
part_of (suc b) s (suc n) [] h = refl
part_of (suc b) s (suc n) (x ∷ xs) h = part_of b s n xs (omega arith)

-- a part of the n bytes from o on
part_at : (o b s n : ℕ) (xs : List ℕ) → b + s ≤ n → take s (drop (o + b) xs) ≡ take s (drop b (take n (drop o xs)))
part_at o b s n xs h = rw (← drop-drop b o xs) (sym (part_of b s n (drop o xs) h))

-- ---- one chunk, where its bytes are the same

module _ (xs ys stsc stsz o p : List ℕ) (k : ℕ) where
  abbrev bytes_in : ℕ
  bytes_in = bytes_from stsz (first_sample stsc k) (samples_in stsc k)

  chunk_same : take bytes_in (drop (offset_at o k) xs) ≡ take bytes_in (drop (offset_at p k) ys) → chunk_cut xs stsz (chunk_at stsc o k) ≡ chunk_cut ys stsz (chunk_at stsc p k)
  unfolding chunk_at
  chunk_same e = join_same _ _ (samples_in stsc k) (λ j h. ap (λ (b : List ℕ). b ∷ []) (go j (sample_within stsz (first_sample stsc k) j (samples_in stsc k) h)))
    where
      go : (j : ℕ) → bytes_from stsz (first_sample stsc k) j + size_at stsz (first_sample stsc k + j) ≤ bytes_in
          → take (size_at stsz (first_sample stsc k + j)) (drop (offset_at o k + bytes_from stsz (first_sample stsc k) j) xs)
          ≡ take (size_at stsz (first_sample stsc k + j)) (drop (offset_at p k + bytes_from stsz (first_sample stsc k) j) ys)
      go j h = rw (part_at (offset_at o k) _ _ bytes_in xs h, part_at (offset_at p k) _ _ bytes_in ys h, e)

-- ---- a track

module _ (l m : List Box) (same : mdats l ≡ mdats m) (stsc stsz o p : List ℕ) (r : Relocated l m o p) where
  pub eight_kept : chunks_lie l stsc stsz o ≡ true → chunks_lie m stsc stsz p ≡ true
  unfolding chunk_in extent_of chunk_at
  eight_kept e =
      eight_of m stsc stsz p (λ k h.
      let n : k < items o = omega (arith, r.same) in
      rw (r.offsets k n) (lies_at m _ _ ∙ relocate_in l m same _ _ (chunk_in_lem l stsc stsz o k (eight_at l stsc stsz o e k n))))

  pub samples_kept : chunks_lie l stsc stsz o ≡ true → samples_of (write l) stsc stsz o ≡ samples_of (write m) stsc stsz p
  unfolding extent_of chunk_at
  samples_kept e =
      rw (samples_cut (write l) stsc stsz o, samples_cut (write m) stsc stsz p, r.same) (join_same _ _ (items o) (λ k h.
      chunk_same (write l) (write m) stsc stsz o p k (rw (r.offsets k h) (relocate_bytes l m same _ _ (chunk_in_lem l stsc stsz o k (eight_at l stsc stsz o e k h))))))

-- ---- files that boxes tile

pub tiled : (xs : List ℕ) → Bytes xs → after xs ≡ [] → write (boxes xs) ≡ xs
tiled xs v e = sym (append-nil (write (boxes xs))) ∙ ap (λ (z : List ℕ). write (boxes xs) ++ z) (sym e) ∙ write_boxes xs v

pub file_samples_kept : (xs ys : List ℕ) → Bytes xs → Bytes ys → after xs ≡ [] → after ys ≡ [] → mdats (boxes xs) ≡ mdats (boxes ys)
    → (stsc stsz o p : List ℕ) → Relocated (boxes xs) (boxes ys) o p → chunks_lie (boxes xs) stsc stsz o ≡ true → samples_of xs stsc stsz o ≡ samples_of ys stsc stsz p
file_samples_kept xs ys v w a b same stsc stsz o p r e =
    rw (tiled xs v a, tiled ys w b) at (samples_kept (boxes xs) (boxes ys) same stsc stsz o p r e)
