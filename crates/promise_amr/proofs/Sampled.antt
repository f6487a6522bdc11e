-- The samples of the file that frames become are the frames. Assumes nothing.
use Prim.Native.Nat.{ℕ, zero, suc, ◌≤◌, ◌<◌}
use native.Mathlib.Omega.{arith}
use native.Mathlib.Nat.{zero-add}
use mathlib.Core.Path.{◌≡◌, refl, sym, ap, ◌∙◌}
use mathlib.Core.List.{List, [], ◌∷◌, ◌++◌, append_assoc, append-nil}
use lib.ListN.{length, get_or, take, drop, length-append}
use lib.Seq.{drop-drop, drop_at, take_at, take-suc, take-length}
use Rattle.wire.specs.Tests.{if_eq, if_le}
use Rattle.wire.specs.Numbers.{bytes_on, bytes, word}
use Rattle.codes.specs.Codes.{MDAT, STSC, STSZ, STCO}
use Rattle.boxes.specs.Box.{Box, plain_box, header, write}
use Rattle.boxes.specs.Seek.{meant, nth}
use Rattle.boxes.proofs.Whole.{length_header}
use Rattle.boxes.proofs.Reading.{write_append}
use Rattle.sample_walk.specs.Samples.{join_to, sample_in, samples_at}
use Rattle.mdat.specs.Samples.{sample_bytes, samples_of}
use Rattle.mdat.proofs.Cutting.{chunk_cut, samples_cut}
use Rattle.sample_tables.specs.declared.chunk.Chunk.{Chunk}
use Rattle.sample_tables.specs.Chunks.{chunk_at}
use Rattle.frames.specs.declared.codec.Codec.{Codec}
use Rattle.frames.specs.Frames.{joined}
use Rattle.from_amr.specs.Fields.{fields}
use Rattle.from_amr.specs.Boxes.{one_for, stsz, stsc, stco}
use Rattle.from_amr.specs.File.{ftyp_box, moov_box, start, file_of}
use Rattle.from_amr.proofs.Lengths.{start_is}
use Rattle.promise_kept.specs.Samples.{samples}
use Rattle.promise_amr.proofs.Reading.{Reads}
use Rattle.promise_amr.proofs.Found.{track_is, table_is}
use Rattle.promise_amr.proofs.Sized.{joined_split, size_is, sizes_sum}
use Rattle.promise_amr.proofs.Agreed.{one_chunk}
use Rattle.promise_amr.proofs.Placed.{chunk_is}

write_one : (x : Box) → write (x ∷ []) ≡ header x ++ x.body
unfolding write
write_one x = ap (λ (t : List ℕ). header x ++ t) (append-nil x.body)

module _ (k : Codec) (l : List (List ℕ)) where
  abbrev file : List ℕ
  file = file_of k l

  abbrev front : List ℕ
  front = write (ftyp_box ∷ moov_box k l (start k l) ∷ []) ++ header (plain_box MDAT (joined l))

  front_length : length front ≡ start k l
  front_length = rw (length-append, length_header) (start_is k l (start k l))

  -- the payload of `mdat` is all that stands from the chunk's offset on
  file_is : file ≡ front ++ joined l
  unfolding file_of
  file_is =
      write_append (ftyp_box ∷ moov_box k l (start k l) ∷ []) (plain_box MDAT (joined l) ∷ [])
      ∙ ap (λ (t : List ℕ). write (ftyp_box ∷ moov_box k l (start k l) ∷ []) ++ t) (write_one (plain_box MDAT (joined l)))
      ∙ sym (append_assoc (write (ftyp_box ∷ moov_box k l (start k l) ∷ [])) (header (plain_box MDAT (joined l))) (joined l))

  pub media_is : drop (start k l) file ≡ joined l
  media_is = rw file_is (drop_at front (joined l) (start k l) front_length)

  module _ (s : length (joined l) < 4294967296) (c : Chunk) (o : c.offset ≡ start k l) (z : c.first ≡ 0) where
    sample_is : (j : ℕ) → j < length l → sample_bytes file (sample_in (stsz l) c j) ≡ get_or l j []
    sample_is j h =
        let after = joined (drop (suc j) l) in
        rw (
          o,
          z,
          zero-add j,
          size_is l s j h,
          sizes_sum l s j (omega arith),
          ← drop-drop,
          media_is,
          joined_split l j h,
          drop_at (joined (take j l)) (get_or l j [] ++ after) (length (joined (take j l))) refl,
        )
        (take_at (get_or l j []) after (length (get_or l j [])) refl)

    first_samples : (n : ℕ) → n ≤ length l → join_to (λ j. sample_bytes file (sample_in (stsz l) c j) ∷ []) n ≡ take n l
    unfolding join_to
    first_samples zero h = refl
    first_samples (suc n) h = rw (first_samples n (omega arith), sample_is n (omega arith)) (sym (take-suc l n [] (omega arith)))

    all_samples : c.samples ≡ length l → chunk_cut file (stsz l) c ≡ l
    all_samples n = ap (join_to (λ j. sample_bytes file (sample_in (stsz l) c j) ∷ [])) n ∙ first_samples (length l) (omega arith) ∙ take-length l

  module _ (h : length l ≡ 0 → ⊥) (f : length l < 4294967296) (s : length (joined l) < 4294967296) (g : start k l < 4294967296) where
    some_samples : samples_of file (stsc (length l)) (stsz l) (stco (length l) (start k l)) ≡ l
    unfolding join_to
    some_samples =
        let c = chunk_is k l h f s g in
        rw (samples_cut file (stsc (length l)) (stsz l) (stco (length l) (start k l)), (one_chunk k (length l) h f (start k l) g).0) (all_samples s (chunk_at (stsc (length l)) (stco (length l) (start k l)) 0) c.0 c.1 c.2)

pub samples_are : (k : Codec) (l : List (List ℕ)) → length l < 4294967296 → length (joined l) < 4294967296 → start k l < 4294967296
    → samples_of (file_of k l) (stsc (length l)) (stsz l) (stco (length l) (start k l)) ≡ l
unfolding samples_of samples_at join_to one_for if_eq fields bytes bytes_on word if_le
samples_are k [] f s g = refl
samples_are k (x ∷ l) f s g = some_samples k (x ∷ l) (λ e. omega arith) f s g

pub samples_of_lem : (k : Codec) (l : List (List ℕ)) → Reads k l → length l < 4294967296 → length (joined l) < 4294967296 → start k l < 4294967296
    → samples (file_of k l) 0 ≡ l
unfolding samples nth meant if_eq
samples_of_lem k l b f s g = rw (track_is k l b, table_is k l b STSC, table_is k l b STSZ, table_is k l b STCO) (samples_are k l f s g)
