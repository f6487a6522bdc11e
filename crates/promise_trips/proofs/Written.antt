-- The table of the boxes that an `stsd` lists is that `stsd`, byte for byte, under a plain header. Assumes nothing.
use Prim.Native.Nat.{ℕ, ◌+◌}
use native.Mathlib.Omega.{arith}
use mathlib.Core.Path.{◌≡◌, refl, sym, ◌∙◌}
use mathlib.Core.List.{List, [], ◌∷◌, ◌++◌, append-nil, append_assoc}
use lib.ListN.{length, take, drop, length-drop, take-append-drop}
use lib.Seq.{take-add}
use Rattle.codes.specs.Codes.{STSD}
use Rattle.wire.specs.Numbers.{Bytes, bytes, word}
use Rattle.wire.proofs.Lists.{nil_is}
use Rattle.wire.proofs.Numbers.{bytes_drop, bytes_word}
use Rattle.boxes.specs.declared.walk.Form.TheVariants.{Plain}
use Rattle.boxes.specs.Box.{Box, size, header, write}
use Rattle.boxes.specs.Boxes.{boxes, after, FRONT}
use Rattle.boxes.specs.Way.{box_by}
use Rattle.boxes.proofs.Reading.{write_boxes}
use Rattle.boxes.proofs.Numbered.{count_any}
use Rattle.movie.specs.Entries.{entries_from}
use Rattle.movie.proofs.Boxed.{length_from}
use Rattle.rule_lists.specs.Five.{Listed}
use Rattle.sheet.specs.Sheet.{bodies}
use Rattle.sheet_table.specs.Table.{table}

bodies_from : (t : ℕ) (l : List Box) (p : ℕ) → bodies (entries_from t l p) ≡ write l
unfolding bodies entries_from write
bodies_from t [] p = refl
bodies_from t (x ∷ l) p = rw (bodies_from t l (p + size x), append_assoc)

module _ (b : List ℕ) (v : Bytes b) (g : Listed b) where
  -- its list is tiled by boxes
  list_written : write (boxes (drop FRONT b)) ≡ drop FRONT b
  list_written = sym (append-nil (write (boxes (drop FRONT b)))) ∙ rw (nil_is (after (drop FRONT b)) g.tiled) at (write_boxes (drop FRONT b) (bytes_drop FRONT b v))

  -- its first eight bytes are zeros and the count
  front_written : bytes 4 0 ++ bytes 4 (word 4 b 4) ≡ take 8 b
  front_written =
      let a = rw g.front at (bytes_word 4 b 0 v (omega (arith, g.room))) in
      rw (a, bytes_word 4 b 4 v (omega (arith, g.room))) (sym (take-add 4 4 b))

  pub table_written : (t p : ℕ) → table (entries_from t (boxes (drop FRONT b)) p) ≡ box_by Plain STSD b
  unfolding table box_by header
  table_written t p =
      let n : length (entries_from t (boxes (drop FRONT b)) p) ≡ word 4 b 4 = length_from t (boxes (drop FRONT b)) p ∙ sym (count_any (boxes (drop FRONT b))) ∙ g.counted in
      let s : 16 + length (drop FRONT b) ≡ 8 + length b = rw length-drop (omega (arith, g.room)) in
      let e : bytes 4 0 ++ (bytes 4 (word 4 b 4) ++ drop FRONT b) ≡ b = rw (← append_assoc, front_written) (take-append-drop FRONT b) in
      rw (bodies_from, list_written, n, s) (simp append_assoc (rw e))
