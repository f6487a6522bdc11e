-- Laws of rule 8, for the loops over the runs and their chunks. Assumes nothing.
use Prim.Native.Nat.{ℕ, ◌+◌, ◌≤◌, ◌<◌}
use native.Mathlib.Omega.{arith}
use mathlib.Core.Path.{◌≡◌, sym, ◌∙◌}
use mathlib.Core.Bool.{true, false}
use mathlib.Core.List.{List}
use Rattle.wire.proofs.Sums.{all_none, all_more, all_of, all_at, all_fails}
use Rattle.boxes.specs.Box.{Box}
use Rattle.sample_tables.specs.Tables.{items}
use Rattle.sample_tables.specs.Sizes.{sample_count, bytes_from, Held}
use Rattle.sample_tables.specs.Runs.{per_chunk}
use Rattle.sample_tables.specs.Chunks.{samples_in, first_sample, offset_at, chunk_at, extent_of, extent_at, Covers}
use Rattle.sample_tables.proofs.Chunks.{first_more, first_mono}
use Rattle.sample_tables.proofs.Sizes.{held_in}
use Rattle.sample_tables.proofs.Rules.{extent_offset}
use Rattle.mdat.specs.Payloads.{in_at}
use Rattle.mdat.specs.Rules.{lies, chunk_in, chunks_in, chunks_lie, Ready}
use Rattle.mdat.proofs.Inside.{lies_at}

-- ---- the tables

-- the samples of chunk k of a run, by its first sample
module _ {stsc stsz stco : List ℕ} (r : Ready stsc stsz stco) {i from end : ℕ} (v : Covers stsc (items stco) i from end) (k : ℕ) (h : from ≤ k) (g : k < end)
    {first samples : ℕ} (f : first ≡ first_sample stsc k) (s : samples ≡ per_chunk stsc i) where
  pub first_after : first + samples ≡ first_sample stsc (k + 1)
  unfolding samples_in
  first_after = rw (s, v.own k h g, f) (sym (first_more stsc k))

  pub ready_held : Held stsz first samples
  ready_held =
      let m : first + samples ≤ sample_count stsz = omega (arith, first_after, r.total, first_mono stsc (k + 1) (items stco) (omega (arith, v.within))) in
      record { few = omega (arith, r.few); listed = λ z. held_in stsz z first r.sizes samples m }

  -- rule 8 of it, by the bytes of its samples
  pub chunk_is : (l : List Box) {offset bytes : ℕ} → bytes ≡ bytes_from stsz first samples → offset ≡ offset_at stco k → chunk_in l stsc stsz stco k ≡ lies l 0 offset bytes
  unfolding chunk_in extent_of chunk_at samples_in
  chunk_is l b o = rw (o, b, s, f, v.own k h g)

-- the first sample past a run
pub run_few : {stsc stsz stco : List ℕ} → Ready stsc stsz stco → (end : ℕ) → end ≤ items stco → first_sample stsc end ≤ 65536
run_few {stsc} {stsz} {stco} r end h = omega (arith, r.few, r.total, first_mono stsc end (items stco) h)

-- ---- the chunks

module _ (l : List Box) (stsc stsz stco : List ℕ) where
  pub chunks_none : chunks_in l stsc stsz stco 0 ≡ true
  unfolding chunks_in
  chunks_none = all_none (chunk_in l stsc stsz stco)

  pub chunks_more : (k : ℕ) → chunks_in l stsc stsz stco k ≡ true → chunk_in l stsc stsz stco k ≡ true → chunks_in l stsc stsz stco (k + 1) ≡ true
  unfolding chunks_in
  chunks_more = all_more (chunk_in l stsc stsz stco)

  pub chunks_fail : (n k : ℕ) → k < n → chunk_in l stsc stsz stco k ≡ false → chunks_in l stsc stsz stco n ≡ false
  unfolding chunks_in
  chunks_fail = all_fails (chunk_in l stsc stsz stco)

  -- each chunk, from the rule, and the rule from each
  pub eight_at : chunks_lie l stsc stsz stco ≡ true → (k : ℕ) → k < items stco → chunk_in l stsc stsz stco k ≡ true
  unfolding chunks_in
  eight_at = all_at (chunk_in l stsc stsz stco) (items stco)

  pub eight_of : ((k : ℕ) → k < items stco → chunk_in l stsc stsz stco k ≡ true) → chunks_lie l stsc stsz stco ≡ true
  unfolding chunks_in
  eight_of = all_of (chunk_in l stsc stsz stco) (items stco)

  -- where relocation finds it
  pub chunk_in_lem : (k : ℕ) → chunk_in l stsc stsz stco k ≡ true → in_at l (offset_at stco k) (extent_at stsc stsz stco k).bytes ≡ true
  unfolding chunk_in
  chunk_in_lem k e = rw (extent_offset stsc stsz stco k) at (sym (lies_at l _ _) ∙ e)
