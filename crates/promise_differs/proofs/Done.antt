-- A call that is done made a file that differs only so. Assumes nothing.
use Prim.Native.Nat.{ℕ}
use mathlib.Core.Path.{◌≡◌}
use mathlib.Core.List.{List}
use Rattle.wire.specs.Numbers.{Bytes}
use Rattle.boxes.specs.Box.{write}
use Rattle.boxes.specs.Boxes.{boxes}
use Rattle.judge.specs.Acceptance.{Meets}
use Rattle.edit_offsets.specs.Close.{closed}
use Rattle.edit_move.specs.Moving.{moov_second, move_of}
use Rattle.promise_kept.specs.Edits.{Edit, shift, replace, move, Given, meaning, answer}
use Rattle.promise_kept.proofs.Done.{move_passed, shift_passed, shift_timed, replace_passed}
use Rattle.promise_differs.specs.Differs.{Moves, Differs}
use Rattle.promise_differs.proofs.Moving.{move_order, move_differs}
use Rattle.promise_differs.proofs.Timing.{shift_differs}
use Rattle.promise_differs.proofs.Edits.{replace_entry}
use Rattle.promise_differs.proofs.Written.{shift_times}
use Rattle.rule.specs.Answers.{Done}

-- the boxes of the closed file in their new order, and then chunk offsets
moves : (xs : List ℕ) → Bytes xs → Meets xs → Moves xs (move_of xs)
moves xs w m = record { mid = write (moov_second (boxes (closed xs))); order = move_order xs w m; offsets = move_differs xs w m }

pub done_differs : (e : Edit) → Given e → (xs out : List ℕ) {n : ℕ} → Bytes xs → answer e xs out ≡ Done n → Differs e xs (meaning e xs)
done_differs (shift z) g xs out w d = let m = shift_passed z xs out d in record { differs = shift_differs z xs w m; times = shift_times z xs w m (shift_timed z xs out d) }
done_differs (replace i new) g xs out w d = let p = replace_passed xs i new out d in replace_entry xs i new w g p.0 p.1 p.2
done_differs move g xs out w d = moves xs w (move_passed xs out d)
