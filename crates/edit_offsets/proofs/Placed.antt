-- In a file that meets the rules every chunk offset lies in a payload, so functions that agree there agree on all. Assumes nothing.
use Prim.Native.Nat.{ℕ, suc, ◌<◌}
use native.Mathlib.Omega.{arith}
use mathlib.Core.Path.{◌≡◌, refl}
use mathlib.Core.Bool.{true}
use mathlib.Core.List.{List}
use Rattle.wire.specs.Tests.{if_eq}
use Rattle.codes.specs.Codes.{STBL, STSC, STSZ, STCO}
use Rattle.wire.proofs.Clauses.{is_eq_lem}
use Rattle.wire.proofs.Sums.{all_of}
use Rattle.boxes.specs.Box.{Box}
use Rattle.boxes.specs.Boxes.{boxes}
use Rattle.boxes.specs.Seek.{find}
use Rattle.boxes.proofs.Every.{found_each}
use Rattle.boxes.proofs.Reading.{All}
use Rattle.sample_tables.specs.Tables as table
use Rattle.sample_tables.specs.Chunks.{offset_at, extent_at}
use Rattle.mdat.specs.Payloads.{in_at}
use Rattle.mdat.proofs.Eight.{eight_at, chunk_in_lem}
use Rattle.rule.proofs.Opened.{opened}
use Rattle.rule_shape.specs.Three.{needed, three_rule}
use Rattle.rule_shape.proofs.Needs.{shape_one}
use Rattle.rule_tracks.proofs.Chunked.{Chunked, stbl_six, stbl_eight}
use Rattle.edit_offsets.proofs.Offsets.{agree_on}

-- an `stbl`
module _ (l : List Box) (d : ℕ) (xs : List ℕ) (s : Chunked l (suc d) STBL xs) where
  -- an offset of its `stco`
  offset_in : (i : ℕ) → i < table.items (find STCO (boxes xs)) → in_at l (offset_at (find STCO (boxes xs)) i) (extent_at (find STSC (boxes xs)) (find STSZ (boxes xs)) (find STCO (boxes xs)) i).bytes ≡ true
  offset_in i h = chunk_in_lem l _ _ _ i (eight_at l _ _ _ (stbl_eight s) i h)

  module _ (f g : ℕ → ℕ) (h : (o n : ℕ) → in_at l o n ≡ true → f o ≡ g o) where
    stco_agrees : agree_on f g (find STCO (boxes xs)) ≡ true
    unfolding agree_on
    stco_agrees = all_of _ _ (λ i k. is_eq_lem _ _ (h _ _ (offset_in i (omega (arith, (stbl_six s).offsets.long)))))

    pub all_agree : All (λ x. x.code ≡ STCO → agree_on f g x.body ≡ true) (boxes xs)
    unfolding needed if_eq
    all_agree = found_each STCO (λ z. omega arith) (λ b. agree_on f g b ≡ true) (boxes xs) (λ z. stco_agrees) (omega (arith, shape_one (boxes xs) STBL STCO (opened three_rule d STBL xs s.three).node refl))
