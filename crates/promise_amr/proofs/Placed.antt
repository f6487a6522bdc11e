-- Rule 8 of the file that frames become: its one chunk is the payload of its `mdat`. Assumes nothing.
use Prim.Native.Nat.{ℕ, ◌+◌, ◌<◌}
use native.Mathlib.Omega.{arith}
use mathlib.Core.Path.{◌≡◌, refl}
use mathlib.Core.Bool.{true}
use mathlib.Core.List.{List, [], ◌∷◌}
use lib.ListN.{length}
use lib.Seq.{take-length}
use Rattle.wire.specs.Tests.{if_eq, if_le}
use Rattle.wire.specs.Clauses.{is_eq, every}
use Rattle.wire.specs.Numbers.{bytes_on, bytes, word}
use Rattle.wire.specs.Sums.{sum_to, all_to}
use Rattle.wire.proofs.Clauses.{is_le_lem}
use Rattle.boxes.specs.Box.{size, write}
use Rattle.boxes.proofs.Reading.{length_cons}
use Rattle.mdat.specs.Rules.{lies, chunk_in, chunks_in, chunks_lie}
use Rattle.sample_tables.specs.declared.chunk.Chunk.{Chunk}
use Rattle.sample_tables.specs.Chunks.{first_sample, chunk_at, extent_of}
use Rattle.frames.specs.declared.codec.Codec.{Codec}
use Rattle.frames.specs.Frames.{joined}
use Rattle.from_amr.specs.Fields.{fields}
use Rattle.from_amr.specs.Boxes.{one_for, stsz, stsc, stco}
use Rattle.from_amr.specs.File.{ftyp_box, moov_box, start, file_boxes}
use Rattle.from_amr.proofs.Lengths.{start_is}
use Rattle.promise_amr.proofs.Sized.{sizes_sum}
use Rattle.promise_amr.proofs.Agreed.{one_chunk, all_in_one}

module _ (k : Codec) (l : List (List ℕ)) where
  -- what stands before the payload of `mdat`
  before_mdat : 8 + (size ftyp_box + size (moov_box k l (start k l))) ≡ start k l
  unfolding write
  before_mdat =
      omega (arith, start_is k l (start k l), length_cons ftyp_box (moov_box k l (start k l) ∷ []), length_cons (moov_box k l (start k l)) [])

  payload_lies : lies (file_boxes k l) 0 (start k l) (length (joined l)) ≡ true
  unfolding lies every is_eq
  payload_lies =
      let p = 0 + size ftyp_box + size (moov_box k l (start k l)) in
      rw (
        is_le_lem (p + 8) (start k l) (omega (arith, before_mdat)),
        is_le_lem (start k l + length (joined l)) (p + (8 + length (joined l))) (omega (arith, before_mdat)),
      )

  -- the one chunk
  module _ (h : length l ≡ 0 → ⊥) (f : length l < 4294967296) (s : length (joined l) < 4294967296) (g : start k l < 4294967296) where
    abbrev chunk : Chunk
    chunk = chunk_at (stsc (length l)) (stco (length l) (start k l)) 0

    pub chunk_is : (chunk.offset ≡ start k l) × (chunk.first ≡ 0) × (chunk.samples ≡ length l)
    unfolding chunk_at first_sample sum_to
    chunk_is = ((one_chunk k (length l) h f (start k l) g).1, refl, (all_in_one k (length l) h f).1)

    chunk_lies : chunks_lie (file_boxes k l) (stsc (length l)) (stsz l) (stco (length l) (start k l)) ≡ true
    unfolding chunks_in chunk_in all_to extent_of
    chunk_lies =
        let c = chunk_is in
        rw ((one_chunk k (length l) h f (start k l) g).0, c.0, c.1, c.2, sizes_sum l s (length l) (omega arith), take-length l) payload_lies

pub chunks_lie_lem : (k : Codec) (l : List (List ℕ)) → length l < 4294967296 → length (joined l) < 4294967296 → start k l < 4294967296
    → chunks_lie (file_boxes k l) (stsc (length l)) (stsz l) (stco (length l) (start k l)) ≡ true
unfolding chunks_in all_to one_for if_eq fields bytes bytes_on word if_le
chunks_lie_lem k [] f s g = refl
chunks_lie_lem k (x ∷ l) f s g = chunk_lies k (x ∷ l) (λ e. omega arith) f s g
