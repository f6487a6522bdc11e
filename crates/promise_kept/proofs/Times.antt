-- The times of headers are a content of their own. Assumes nothing.
use Prim.Native.Nat.{ℕ, ◌≤◌}
use native.Mathlib.Omega.{arith}
use mathlib.Core.Path.{◌≡◌, refl, sym, ◌∙◌}
use mathlib.Core.Bool.{Bool, true, false}
use mathlib.Core.List.{List}
use lib.ListN.{length}
use Rattle.wire.specs.Tests.{pick}
use Rattle.wire.specs.Numbers.{Bytes}
use Rattle.codes.specs.Codes.{STBL, STCO}
use Rattle.boxes.specs.Containers.{FILE, DEPTH, LONGEST}
use Rattle.boxes.specs.Words.{reword}
use Rattle.boxes.specs.Boxes.{boxes}
use Rattle.boxes.proofs.Reading.{All}
use Rattle.boxes.proofs.Kin.{Made, kin_edit}
use Rattle.boxes.proofs.Wording.{reword_length}
use Rattle.release.specs.declared.Release.{Release}
use Rattle.edit_shift.specs.Shift.{has_times, times_leaf, all_times_by}
use Rattle.edit_offsets.proofs.Closing.{ShutMoov}
use Rattle.edit_shift.proofs.Passing.{all_length, all_bytes}
use Rattle.promise_kept.proofs.Words.{byte_before, word_behind}
use Rattle.promise_kept.proofs.Sound.{sound_less}
use Rattle.promise_kept.proofs.Content.{Content, kin_shut}
use Rattle.promise_kept.proofs.Clocked.{Clocked, clocked_same, in_stbl, clocked_sound}

-- what no rule reads of a box, its times by any function
clocked_made : (f : ℕ → ℕ) (k c : ℕ) (b : List ℕ) → Clocked k c b (times_leaf f k c b)
unfolding times_leaf
clocked_made f k c b = go (has_times k c) refl
  where
    go : (t : Bool) → has_times k c ≡ t → Clocked k c b (pick t (reword f 4 8 b) b)
    go true e =
        record {
          long = sym (reword_length f 4 8 b);
          version = sym (byte_before f 4 8 b 0 (omega arith));
          number = sym (word_behind f 4 8 b 0);
          rest = λ u. let z : true ≡ false = sym e ∙ u in absurd (let o : ◌≡◌ {A = ℕ} 0 1 = cc in omega arith);
        }
    go false e = clocked_same k c b

-- the times of every header
pub shift_content : (release : Release) (f : ℕ → ℕ) (xs : List ℕ) → Bytes xs → length xs ≤ LONGEST → All ShutMoov (boxes xs) → Content release xs (all_times_by f xs)
unfolding all_times_by
shift_content release f xs w n o =
    let k = kin_edit (times_leaf f) DEPTH FILE xs w (omega (arith, all_length f xs)) in
    record {
      leaf = Made (times_leaf f);
      kin = k;
      sound = sound_less (λ k c b b' r. rw r.0 (clocked_made f k c b)) (clocked_sound release);
      stco = λ b b' r. in_stbl STCO b b' (rw r.0 (clocked_made f STBL STCO b));
      shut = kin_shut k.0 o;
      bytes = all_bytes f xs w;
      small = omega (arith, all_length f xs);
    }
