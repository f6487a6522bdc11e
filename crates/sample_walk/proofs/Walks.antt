-- Laws of the walk by sample. Assumes nothing.
use Prim.Native.Nat.{ℕ, ◌+◌, ◌-◌, ◌*◌, ◌≤◌, ◌<◌}
use native.Mathlib.Omega.{arith}
use native.Mathlib.Nat.{mul-le-mul_right}
use mathlib.Core.Path.{◌≡◌, refl, sym, ap, ◌∙◌}
use mathlib.Core.List.{List, ◌∷◌}
use lib.ListN.{length, drop, length-drop}
use Rattle.wire.specs.Numbers.{Bytes}
use Rattle.wire.proofs.Numbers.{word_most}
use Rattle.sample_tables.specs.Tables.{items}
use Rattle.sample_tables.specs.Sizes.{size_at}
use Rattle.sample_tables.specs.Runs.{run_of}
use Rattle.sample_tables.specs.Chunks.{samples_in, description_of, first_sample, samples_over, chunk_at}
use Rattle.sample_tables.specs.Rules.{Seven}
use Rattle.sample_tables.specs.declared.chunk.Chunk.{Chunk}
use Rattle.sample_tables.specs.declared.chunk.ChunkWalk.{ChunkWalk}
use Rattle.sample_tables.proofs.Sizes.{bytes_none, bytes_more, bytes_fit}
use Rattle.sample_tables.proofs.Chunks.{first_none, first_more, first_mono, walk_start_lem}
use Rattle.sample_tables.proofs.Steps.{Stepped}
use Rattle.sample_tables.proofs.LastRun.{run_inside}
use Rattle.sample_walk.specs.declared.walk.Sample.{Sample}
use Rattle.sample_walk.specs.declared.walk.SampleWalk.{SampleWalk}
use Rattle.std.specs.declared.option.Option.{Option}
use Rattle.std.specs.declared.option.Option.TheVariants.{Some, None}
use Rattle.sample_walk.specs.Samples.{sample_in, chunk_samples, samples_at}
use Rattle.sample_walk.specs.Walks.{Sampled, sample_start, Before, Gives, StepAs}
use Rattle.sample_walk.proofs.Joins.{join_length, join_at, singles_length, single_at}

-- rules 6 and 7 give what the walk asks
pub sampled : (stts stsc stsz stco : List ℕ) → Seven stts stsc stsz stco → Sampled stsc stsz stco
sampled stts stsc stsz stco s = record { walk = s.walk; filled = s.filled; total = s.total; few = s.few }

module _ (stsc stsz stco : List ℕ) where
  -- ---- the samples by number

  chunk_length : (k : ℕ) → length (chunk_samples stsz (chunk_at stsc stco k)) ≡ samples_in stsc k
  unfolding chunk_samples chunk_at
  chunk_length k = singles_length (sample_in stsz (chunk_at stsc stco k)) (samples_in stsc k)

  pub samples_length : length (samples_at stsc stsz stco) ≡ samples_over stsc (items stco)
  unfolding samples_at first_sample
  samples_length = join_length (λ k. chunk_samples stsz (chunk_at stsc stco k)) (samples_in stsc) chunk_length (items stco)

  -- sample j of chunk k
  at_chunk : (k j : ℕ) → k < items stco → j < samples_in stsc k → drop (first_sample stsc k + j) (samples_at stsc stsz stco)
      ≡ sample_in stsz (chunk_at stsc stco k) j ∷ drop (first_sample stsc k + j + 1) (samples_at stsc stsz stco)
  unfolding samples_at first_sample chunk_samples chunk_at
  at_chunk k j h l =
      join_at (λ k. chunk_samples stsz (chunk_at stsc stco k)) (samples_in stsc) chunk_length k j (items stco) (sample_in stsz (chunk_at stsc stco k) j) h l
      (single_at (sample_in stsz (chunk_at stsc stco k)) j (samples_in stsc k) l)

  pub start_before : Sampled stsc stsz stco → Before stsc stsz stco sample_start
  start_before a =
      record {
        chunks = walk_start_lem stsc a.walk.rising;
        few = omega arith;
        most = omega arith;
        inside = λ h. absurd (omega (arith, first_none stsc));
      }

  -- ---- inside a chunk

  module _ (a : Sampled stsc stsz stco) where
    -- a chunk has samples, and a description
    module _ (k : ℕ) (h : k < items stco) where
      run_there : run_of stsc k < items stsc
      run_there = run_inside stsc a.walk.rising (a.walk.some (omega arith)) k (run_of stsc k) refl

      pub chunk_some : first_sample stsc k < first_sample stsc (k + 1)
      unfolding samples_in
      chunk_some = omega (arith, first_more stsc k, a.filled.samples (run_of stsc k) run_there)

      pub chunk_described : 1 ≤ description_of stsc k
      unfolding description_of
      chunk_described = a.filled.described (run_of stsc k) run_there

    module _ (w : SampleWalk) (b : Before stsc stsz stco w) (h : w.number < first_sample stsc w.chunks.chunk) where
      pub number_few : w.number < 65536
      number_few = omega (arith, first_mono stsc w.chunks.chunk (items stco) b.few, a.total, a.few)

      pub place_fits : Bytes stsz → Bytes stco → w.place ≤ 4294967295 + 65536 * 4294967295
      place_fits z o =
          let i = b.inside h in
          let k = w.chunks.chunk - 1 in
          let j = w.number - first_sample stsc k in
          let m : j * 4294967295 ≤ 65536 * 4294967295 = mul-le-mul_right {m = j} {n = 65536} 4294967295 (omega (arith, number_few)) in
          omega (arith, i.place, word_most stco (8 + 0 + 4 * k) o, bytes_fit stsz z (first_sample stsc k) j)

      -- the sample there, and the walk after it
      pub gives : (size : ℕ) → size ≡ size_at stsz w.number
          → Gives stsc stsz stco w.number (record { place = w.place; bytes = size; description = w.description })
          (record { number = w.number + 1; chunks = w.chunks; place = w.place + size; description = w.description })
      unfolding chunk_at
      gives size e =
          let i = b.inside h in
          let k = w.chunks.chunk - 1 in
          let j = w.number - first_sample stsc k in
          let f : first_sample stsc k + j ≡ w.number = omega (arith, i.from) in
          let c = i.chunk in
          let more = first_more stsc k in
          let ends : first_sample stsc w.chunks.chunk ≡ first_sample stsc (k + 1) = ap (first_sample stsc) c in
          let s = at_chunk k j (omega (arith, b.few)) (omega arith) in
          let same : size_at stsz (first_sample stsc k + j) ≡ size = ap (size_at stsz) f ∙ sym e in
          record {
            is = rw (i.place, i.description, e) (rw f at s);
            described = rw i.description (chunk_described k (omega (arith, b.few)));
            number = refl;
            walk = record {
              chunks = b.chunks;
              few = b.few;
              most = omega arith;
              inside = λ l. record {
                chunk = c;
                from = omega (arith, i.from);
                place =
                    let n : w.number + 1 - first_sample stsc k ≡ j + 1 = omega arith in
                    rw n (omega (arith, i.place, same, bytes_more stsz (first_sample stsc k) j));
                description = i.description;
              };
            };
          }

    -- ---- past a chunk's last sample

    module _ (w : SampleWalk) (b : Before stsc stsz stco w) (h : first_sample stsc w.chunks.chunk ≤ w.number) where
      -- the next chunk
      pub enters : (c : Chunk) (next : ChunkWalk) → Stepped stsc stco w.chunks.chunk c next
          → let v : SampleWalk = record { number = w.number; chunks = next; place = c.offset; description = c.description } in
          Before stsc stsz stco v × (w.number < first_sample stsc next.chunk)
      unfolding chunk_at
      enters c next s =
          let k = w.chunks.chunk in
          let n : w.number ≡ first_sample stsc k = omega (arith, b.most) in
          let m = s.moved in
          let more = chunk_some k s.inside in
          let e : first_sample stsc next.chunk ≡ first_sample stsc (k + 1) = ap (first_sample stsc) m in
          let p : next.chunk - 1 ≡ k = omega arith in
          let z : w.number - first_sample stsc k ≡ 0 = omega arith in (
            record {
              chunks = s.walk;
              few = omega (arith, s.inside);
              most = omega arith;
              inside = λ l. rw p (record {
                chunk = m;
                from = omega arith;
                place = rw (z, s.found) (omega (arith, bytes_none stsz (first_sample stsc k)));
                description = rw s.found refl;
              });
            },
            omega arith,
          )

      -- or none
      pub ends : items stco ≤ w.chunks.chunk → length (samples_at stsc stsz stco) ≡ w.number
      ends l =
          let e : w.chunks.chunk ≡ items stco = omega (arith, b.few) in
          omega (arith, samples_length, b.most, ap (first_sample stsc) e)

-- ---- back from the answer

module _ (stsc stsz stco : List ℕ) {n : ℕ} (r : Option (Sample × SampleWalk)) (a : StepAs stsc stsz stco n r) where
  pub step_gives : {s : Sample} {w : SampleWalk} → r ≡ Some (s, w) → Gives stsc stsz stco n s w
  unfolding StepAs
  step_gives e = rw e at a

  pub step_ends : r ≡ None → length (samples_at stsc stsz stco) ≡ n
  unfolding StepAs
  step_ends e = rw e at a

-- a sample that is given is one of them
pub gives_more : (stsc stsz stco : List ℕ) {n : ℕ} {s : Sample} {w : SampleWalk} → Gives stsc stsz stco n s w → n < length (samples_at stsc stsz stco)
gives_more stsc stsz stco {n} g = omega (arith, ap length g.is, length-drop n (samples_at stsc stsz stco))
