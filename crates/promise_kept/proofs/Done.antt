-- A call that is done has passed its tests, so it keeps the file; and what then stands in the room is the file that is meant. Assumes nothing.
use Prim.Native.Nat.{ℕ, ◌≤◌}
use mathlib.Core.Path.{◌≡◌}
use mathlib.Core.Bool.{true}
use mathlib.Core.List.{List}
use lib.IntN.{ℤ}
use lib.ListN.{length, take}
use Rattle.wire.specs.Numbers.{Bytes}
use Rattle.wire.proofs.Clauses.{le_is, clause}
use Rattle.boxes.specs.Boxes.{boxes}
use Rattle.boxes.specs.Containers.{LONGEST}
use Rattle.clocks.specs.Clocks.{may_shift}
use Rattle.release.specs.Releases.{release_of}
use Rattle.entry_rules.specs.Decoders.{record_rule}
use Rattle.rule.specs.Results.{answer_in, left_in}
use Rattle.judge.specs.Acceptance.{Meets}
use Rattle.judge.proofs.Calls.{result_done}
use Rattle.edit_shift.specs.Shift.{all_times, shift_of, shiftable, shift_result}
use Rattle.edit_replace.specs.Replace.{kind_at, replace_of, replace_result}
use Rattle.edit_move.specs.Moving.{move_of, move_result}
use Rattle.promise_kept.specs.Kept.{Keeps}
use Rattle.promise_kept.specs.Edits.{Edit, shift, replace, move, Given, meaning, answer, left}
use Rattle.promise_kept.proofs.Edits.{keeps_move, keeps_shift, keeps_replace}
use Rattle.rule.specs.Answers.{Done}

-- ---- a shift

module _ (z : ℤ) (xs out : List ℕ) {n : ℕ} (e : answer_in (shift_result z xs) out ≡ Done n) where
  pub shift_passed : Meets xs
  unfolding shift_result
  shift_passed = (result_done xs _ _ out n e).meets

  -- 22: each time may be shifted
  pub shift_timed : all_times (may_shift z) xs ≡ true
  unfolding shift_result shiftable
  shift_timed = clause 1 _ (clause 0 _ (result_done xs _ _ out n e).tests)

  pub shift_left : (n ≡ length (shift_of z xs)) × (take n (left_in (shift_result z xs) out) ≡ shift_of z xs)
  unfolding shift_result
  shift_left = let d = result_done xs _ _ out n e in (d.gave.span, rw d.is d.gave.taken)

  pub done_shift : Bytes xs → Keeps xs (shift_of z xs)
  done_shift w = keeps_shift z xs w shift_passed

-- ---- a replacement

module _ (xs : List ℕ) (i : ℕ) (new out : List ℕ) {n : ℕ} (e : answer_in (replace_result xs i new) out ≡ Done n) where
  pub replace_passed : Meets xs × (record_rule (kind_at xs i) (release_of (boxes xs)) new ≡ true) × (length (replace_of xs i new) ≤ LONGEST)
  unfolding replace_result
  replace_passed = let d = result_done xs _ _ out n e in (d.meets, clause 1 _ d.tests, le_is _ _ (clause 3 _ d.tests))

  pub replace_left : (n ≡ length (replace_of xs i new)) × (take n (left_in (replace_result xs i new) out) ≡ replace_of xs i new)
  unfolding replace_result
  replace_left = let d = result_done xs _ _ out n e in (d.gave.span, rw d.is d.gave.taken)

  pub done_replace : Bytes xs → Bytes new → Keeps xs (replace_of xs i new)
  done_replace w v = let p = replace_passed in keeps_replace xs i new w v p.0 p.1 p.2

-- ---- a move

module _ (xs out : List ℕ) {n : ℕ} (e : answer_in (move_result xs) out ≡ Done n) where
  pub move_passed : Meets xs
  unfolding move_result
  move_passed = (result_done xs _ _ out n e).meets

  pub move_left : (n ≡ length (move_of xs)) × (take n (left_in (move_result xs) out) ≡ move_of xs)
  unfolding move_result
  move_left = let d = result_done xs _ _ out n e in (d.gave.span, rw d.is d.gave.taken)

  pub done_move : Bytes xs → Keeps xs (move_of xs)
  done_move w = keeps_move xs w move_passed

-- ---- of any edit

pub done_keeps : (e : Edit) → Given e → (xs out : List ℕ) {n : ℕ} → Bytes xs → answer e xs out ≡ Done n → Keeps xs (meaning e xs)
done_keeps (shift z) g xs out w d = done_shift z xs out d w
done_keeps (replace i new) g xs out w d = done_replace xs i new out d w g
done_keeps move g xs out w d = done_move xs out d w

-- the file that is meant then stands in the buffer, as many bytes of it as the edit says
pub done_left : (e : Edit) (xs out : List ℕ) {n : ℕ} → answer e xs out ≡ Done n → (n ≡ length (meaning e xs)) × (take n (left e xs out) ≡ meaning e xs)
done_left (shift z) xs out d = shift_left z xs out d
done_left (replace i new) xs out d = replace_left xs i new out d
done_left move xs out d = move_left xs out d
