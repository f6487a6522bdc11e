-- A shift: only the times of headers differ. Assumes nothing.
use Prim.Native.Nat.{ℕ, ◌<◌}
use native.Mathlib.Omega.{arith}
use mathlib.Core.Path.{◌≡◌, refl, sym, subst, ◌∙◌}
use mathlib.Core.Bool.{Bool, true, false}
use mathlib.Core.List.{List}
use lib.IntN.{ℤ}
use lib.ListN.{length}
use Rattle.wire.specs.Tests.{pick}
use Rattle.wire.specs.Numbers.{Bytes}
use Rattle.boxes.specs.Containers.{FILE, DEPTH}
use Rattle.boxes.specs.Words.{reword}
use Rattle.boxes.specs.Kin.{Kin}
use Rattle.boxes.proofs.Kin.{Made, kin_edit, kin_less}
use Rattle.clocks.specs.Clocks.{shift_time}
use Rattle.judge.specs.Acceptance.{Meets}
use Rattle.edit_offsets.specs.Close.{closed}
use Rattle.edit_offsets.proofs.ClosedFile.{closed_kin, length_closed, bytes_closed, alike_then}
use Rattle.edit_offsets.proofs.Settled.{settled_same}
use Rattle.edit_shift.specs.Shift.{has_times, times_leaf, all_times_by, shift_of}
use Rattle.edit_shift.proofs.Passing.{all_length, all_bytes, all_alike}
use Rattle.promise_differs.specs.Differs.{OnlyTimes}
use Rattle.promise_differs.proofs.Bodies.{but_refl, but_reword}

-- an opaque box, its times by any function
only_times : (f : ℕ → ℕ) (k c : ℕ) (b b' : List ℕ) → Made (times_leaf f) k c b b' → OnlyTimes k c b b'
unfolding times_leaf
only_times f k c b b' r = subst (OnlyTimes k c b) (sym r.0) (go (has_times k c) refl)
  where
    go : (t : Bool) → has_times k c ≡ t → OnlyTimes k c b (pick t (reword f 4 8 b) b)
    go true e = record { times = λ t. but_reword f 4 8 b; rest = λ n. let z : true ≡ false = sym e ∙ n in absurd (let o : ◌≡◌ {A = ℕ} 0 1 = cc in omega arith) }
    go false e = record { times = λ t. but_refl 4 12 b; rest = λ n. refl }

module _ (z : ℤ) (xs : List ℕ) (w : Bytes xs) (m : Meets xs) where
  abbrev f : ℕ → ℕ
  f = shift_time z

  few : length xs < 4294967296
  few = omega (arith, m.most)

  shut : Bytes (closed xs)
  shut = bytes_closed xs w few

  -- nothing moves, so no chunk offset follows
  stays : shift_of z xs ≡ all_times_by (shift_time z) (closed xs)
  unfolding shift_of
  stays = settled_same xs (all_times_by f (closed xs)) (alike_then xs w few (all_alike f (closed xs) shut (omega (arith, few, length_closed xs)))) (all_bytes f (closed xs) shut)

  -- box by box, the times of headers by the shift
  pub shift_kin : Kin (Made (times_leaf (shift_time z))) DEPTH FILE xs (shift_of z xs)
  unfolding all_times_by
  shift_kin = rw stays (closed_kin xs w few (Made (times_leaf f)) _ (kin_edit (times_leaf f) DEPTH FILE (closed xs) shut (omega (arith, few, length_closed xs, all_length f (closed xs)))))

  -- "Shift times by z minutes"
  pub shift_differs : Kin OnlyTimes DEPTH FILE xs (shift_of z xs)
  shift_differs = kin_less (Made (times_leaf f)) OnlyTimes (only_times f) DEPTH FILE xs _ shift_kin
