-- Rules 6 to 8 of the file that frames become. Assumes nothing.
use Prim.Native.Nat.{ℕ, ◌≤◌, ◌<◌}
use native.Mathlib.Omega.{arith}
use mathlib.Core.Path.{◌≡◌, refl}
use mathlib.Core.Bool.{true}
use mathlib.Core.List.{List, [], ◌∷◌}
use lib.ListN.{length}
use Rattle.wire.specs.Tests.{if_eq, if_le}
use Rattle.wire.specs.Clauses.{is_eq, every}
use Rattle.wire.specs.Numbers.{bytes_on, bytes, word}
use Rattle.boxes.specs.Boxes.{boxes}
use Rattle.boxes.specs.Seek.{meant, nth}
use Rattle.sample_tables.specs.Tables.{has_form}
use Rattle.frames.specs.declared.codec.Codec.{Codec}
use Rattle.frames.specs.Frames.{joined}
use Rattle.frames.specs.Modes.{mode_set}
use Rattle.rule_tracks.specs.Six.{table_fine, table_in, six_rule}
use Rattle.rule_tracks.specs.Seven.{seven_holds, seven_in, seven_rule}
use Rattle.rule_tracks.specs.Eight.{eight_holds, eight_in, eight_rule}
use Rattle.judge.specs.Acceptance.{Holds}
use Rattle.from_amr.specs.Fields.{fields}
use Rattle.from_amr.specs.Boxes.{one_for}
use Rattle.from_amr.specs.File.{start, file_boxes, file_of}
use Rattle.promise_amr.proofs.Reading.{Reads}
use Rattle.promise_amr.proofs.Ruled.{of_leaves, holds}
use Rattle.promise_amr.proofs.Found.{boxes_file}
use Rattle.promise_amr.proofs.Listed.{one_description}
use Rattle.promise_amr.proofs.Agreed.{one_timed, one_run, one_chunk, sizes_form_lem, agree}
use Rattle.promise_amr.proofs.Placed.{chunks_lie_lem}

tables : (k : Codec) (l : List (List ℕ)) → length l ≤ 65536 → start k l < 4294967296 → of_leaves k l six_rule ≡ true
unfolding table_in table_fine if_eq has_form every is_eq one_for fields bytes bytes_on word if_le
tables k [] f g = rw (sizes_form_lem [] (omega arith))
tables k (x ∷ l) f g =
    let n = length (x ∷ l) in
    let some : n ≡ 0 → ⊥ = λ e. omega arith in
    let t = (one_timed k n some (omega arith)).2 in
    let r = (one_run k n some (omega arith)).4 in
    let c = (one_chunk k n some (omega arith) (start k (x ∷ l)) g).2 in
    rw (t, r, sizes_form_lem (x ∷ l) (omega arith), c)

module _ (k : Codec) (l : List (List ℕ)) (b : Reads k l) (f : length l ≤ 65536) (g : start k l < 4294967296) where
  pub six : Holds six_rule (file_of k l)
  unfolding every
  six = holds k l b six_rule refl (tables k l f g) refl

  pub seven : Holds seven_rule (file_of k l)
  unfolding every seven_in seven_holds nth meant if_eq
  seven = holds k l b seven_rule (rw (b.stbl.list, one_description k (mode_set l), agree k l (start k l) f g)) refl refl

  pub eight : length (joined l) < 4294967296 → Holds (eight_rule (boxes (file_of k l))) (file_of k l)
  unfolding every eight_in eight_holds nth meant if_eq
  eight s =
      rw (boxes_file k l b) (holds k l b (eight_rule (file_boxes k l)) (rw (b.stbl.list, chunks_lie_lem k l (omega arith) s g)) refl refl)
