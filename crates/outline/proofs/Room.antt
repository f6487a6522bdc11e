-- How long an outline may be: 8 bytes for each byte of the file, and 13 more. Assumes nothing.
use Prim.Native.Nat.{ℕ, zero, suc, ◌+◌, ◌*◌, ◌/◌, ◌≤◌, ◌<◌}
use native.Mathlib.Omega.{arith}
use mathlib.Core.Path.{◌≡◌, refl, sym}
use mathlib.Core.Bool.{Bool, true, false}
use mathlib.Core.List.{List, [], ◌∷◌, ◌++◌, map}
use lib.ListN.{length, length-append}
use Rattle.wire.specs.Tests.{pick}
use Rattle.wire.specs.Clauses.{every}
use Rattle.wire.specs.Numbers.{bytes}
use Rattle.wire.specs.Text.{text}
use Rattle.wire.proofs.Tests.{lt_nay, eq_any, eq_or}
use Rattle.wire.proofs.Clauses.{is_eq_lem, not_eq, le_is, clause}
use Rattle.wire.proofs.Numbers.{length_bytes_lem}
use Rattle.decimal.specs.Decimal.{labelled}
use Rattle.decimal.proofs.Digits.{decimal_short}
use Rattle.boxes.specs.Box.{Box, head, size}
use Rattle.boxes.specs.Boxes.{boxes, after, total}
use Rattle.boxes.specs.Containers.{FILE, LONGEST}
use Rattle.boxes.proofs.Whole.{head_least}
use Rattle.boxes.proofs.Placing.{total_is}
use Rattle.rule.specs.Results.{asked, length_fine, answer_in}
use Rattle.rule_shape.specs.Two.{shut_in}
use Rattle.outline.specs.Lines.{Line, prints, hex, code_printed, box_text, broken_text, printed}
use Rattle.outline.specs.Lines.Line.{broken}
use Rattle.outline.specs.Outline.{Opening, wherever, row_lines, list_lines, box_lines, rounds_at, outline, outline_result}
use Rattle.outline.proofs.Printing.{printed_one, printed_append}
use Rattle.rule.specs.Answers.{Done}

-- ---- a line

hex_length : (w n : ℕ) → length (hex w n) ≡ w
unfolding hex
hex_length zero n = refl
hex_length (suc w) n = rw (length-append, hex_length w (n / 16)) (omega arith)

code_short : (c : ℕ) → length (code_printed c) ≤ 10
unfolding code_printed
code_short c = go (every (map prints (bytes 4 c)))
  where
    go : (t : Bool) → length (pick t (bytes 4 c) (text "0x" ++ hex 8 c)) ≤ 10
    go true = omega (arith, length_bytes_lem 4 c)
    go false = omega (arith, hex_length 8 c)

-- of numbers of seven digits and a depth of two
box_short : (c p s d : ℕ) → p < 10000000 → s < 10000000 → d < 100 → length (box_text c p s d) ≤ 51
unfolding box_text labelled
box_short c p s d h i j =
    simp length-append
    (omega (arith, code_short c, decimal_short 6 p (omega arith), decimal_short 6 s (omega arith), decimal_short 1 d (omega arith)))

broken_short : (p : ℕ) → p < 10000000 → length (broken_text p) ≤ 21
unfolding broken_text labelled
broken_short p h = simp length-append (omega (arith, decimal_short 6 p (omega arith)))

-- ---- a list whose boxes take 8 bytes for each of theirs takes 13 more at most: a line of 21 for a byte that is left

module _ (f : ℕ → Box → List Line) (each : (q : ℕ) (x : Box) → q + size x ≤ LONGEST → length (printed (f q x)) ≤ 8 * size x) where
  broken_room : (p n : ℕ) → 1 ≤ n → p + n ≤ LONGEST → length (printed (broken p ∷ [])) ≤ 8 * n + 13
  broken_room p n h l = rw (← printed_one (broken p)) (omega (arith, broken_short p (omega arith)))

  row_room : (k p : ℕ) (l : List Box) (rest : List ℕ) → p + (total l + length rest) ≤ LONGEST
      → length (printed (row_lines f k p l rest)) ≤ 8 * (total l + length rest) + 13
  unfolding row_lines total printed
  row_room k p [] rest h =
      eq_or (length rest) 0
      (λ e. rw (is_eq_lem (length rest) 0 e) (omega arith))
      (λ e. rw (not_eq (length rest) 0 e) (omega (arith, broken_room p (length rest) (omega arith) (omega arith))))
  row_room k p (x ∷ l) rest h = go (shut_in k x) (row_room k (p + size x) l rest (omega arith))
    where
      go : (t : Bool) → length (printed (row_lines f k (p + size x) l rest)) ≤ 8 * (total l + length rest) + 13
          → length (printed (pick t (f p x ++ row_lines f k (p + size x) l rest) (broken p ∷ []))) ≤ 8 * (size x + total l + length rest) + 13
      go true i = rw (printed_append, length-append) (omega (arith, i, each p x (omega arith)))
      go false i = omega (arith, head_least x.form, broken_room p (size x + total l + length rest) (omega (arith, head_least x.form)) (omega arith))

-- ---- a list and a box, each by the other

module _ (o : Opening) where
  mutual
    unfolding list_lines printed

    list_room : (n k d p : ℕ) (xs : List ℕ) → p + length xs ≤ LONGEST → n + 2 * d ≤ 34
        → length (printed (list_lines o n k d p xs)) ≤ 8 * length xs + 13
    list_room zero k d p xs h t = omega arith
    list_room (suc n) k d p xs h t =
        omega (
          arith,
          total_is xs,
          row_room (λ q x. box_lines o n k d q x) (λ q x i. box_room n k d q x i (omega arith)) k p (boxes xs) (after xs) (omega (arith, total_is xs)),
        )

    box_room : (n k d p : ℕ) (x : Box) → p + size x ≤ LONGEST → n + 2 * d ≤ 33 → length (printed (box_lines o n k d p x)) ≤ 8 * size x
    box_room zero k d p x h t = omega arith
    box_room (suc n) k d p x h t =
        rw length-append
        (omega (
          arith,
          head_least x.form,
          box_short x.code p (size x) d (omega arith) (omega arith) (omega arith),
          eq_any (λ (l : List Line). length (printed l) ≤ 8 * length x.body + 13) (o k x.code) 0 []
              (list_lines o n (o k x.code) (d + 1) (p + head x) x.body) (omega arith)
              (list_room n (o k x.code) (d + 1) (p + head x) x.body (omega arith) (omega arith)),
        ))

pub outline_room : (xs : List ℕ) → length xs ≤ LONGEST → length (printed (outline xs)) ≤ 8 * length xs + 13
outline_room xs h = list_room wherever (rounds_at 1) FILE 1 0 xs (omega arith) (omega arith)

-- in such a room every file is outlined that refusal 1 lets pass
pub outline_fits : (xs out : List ℕ) → length_fine xs ≡ true → 8 * length xs + 13 ≤ length out
    → answer_in (outline_result xs) out ≡ Done (length (printed (outline xs)))
unfolding outline_result asked answer_in
outline_fits xs out e h = rw e (sym (lt_nay _ _ _ _ _ (omega (arith, outline_room xs (le_is _ _ (clause 1 _ e)))) refl))
