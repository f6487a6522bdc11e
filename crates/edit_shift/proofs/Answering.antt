-- The answer of a shift, as code tells it. Assumes nothing.
use Prim.Native.Nat.{ℕ, ◌<◌}
use native.Mathlib.Omega.{arith}
use mathlib.Core.Path.{◌≡◌, refl, sym, ◌∙◌}
use mathlib.Core.Bool.{true, false}
use mathlib.Core.List.{List, [], ◌∷◌, ◌++◌}
use lib.IntN.{ℤ}
use lib.ListN.{length, drop}
use Rattle.wire.specs.Clauses.{one_if, every}
use Rattle.wire.specs.Numbers.{Bytes}
use Rattle.wire.specs.Writing.{Wrote}
use Rattle.wire.proofs.Clauses.{fails, holds, decides, nay}
use Rattle.boxes.specs.Words.{moved}
use Rattle.clocks.specs.declared.Zone.{Zone}
use Rattle.std.specs.declared.option.Option.{Option}
use Rattle.std.specs.declared.option.Option.TheVariants.{Some, None}
use Rattle.clocks.specs.Clocks.{zone_fine, zone_of, zoned_of, may_shift}
use Rattle.clocks.proofs.Signed.{zone_found, zone_missing}
use Rattle.rule.specs.Results.{asked, Exact}
use Rattle.rule.specs.Results.ToWrite.{gives}
use Rattle.rule.proofs.Results.{test_nay}
use Rattle.judge.specs.Acceptance.{editable}
use Rattle.judge.specs.Judgement.{judged, Judgement, Accepted}
use Rattle.judge.proofs.Calls.{met, result_accepted}
use Rattle.edit_offsets.specs.Close.{closed}
use Rattle.edit_offsets.proofs.ClosedFile.{length_closed}
use Rattle.edit_shift.specs.Shift.{shift_of, all_times, shiftable, shift_result}
use Rattle.edit_shift.specs.Amount.{by_zone, zone_text, zone_result}
use Rattle.edit_shift.proofs.Passing.{all_length}
use Rattle.edit_shift.proofs.Meaning.{leaves_are, shift_text}
use Rattle.rule.specs.Answers.{Answer, Refused}

pub text_length : (z : Zone) (xs : List ℕ) → length (zone_text z xs) ≡ length xs
unfolding zone_text
text_length z xs = all_length (moved (by_zone z)) (closed xs) ∙ length_closed xs

-- ---- by a zone

pub zone_wrote : (z : Zone) (xs out : List ℕ) {n : ℕ} {left : List ℕ} → n ≡ length xs → left ≡ zone_text z xs ++ drop (length xs) out → Wrote (zone_text z xs) out n left
zone_wrote z xs out m a = record { span = m ∙ sym (text_length z xs); is = a ∙ rw m }

-- ---- by minutes

-- in range: the two tests of 22 are one
zone_is : (z : ℤ) (xs : List ℕ) → zone_fine z ≡ true → Bytes xs → length xs < 4294967296 → zone_result (zone_of z) xs ≡ asked ((22, shiftable z xs) ∷ (23, editable xs) ∷ []) (gives (shift_of z xs))
unfolding zone_result shiftable
zone_is z xs h v l =
    let q : all_times (may_shift z) xs ≡ every (zone_fine z ∷ all_times (may_shift z) xs ∷ []) = holds _ _ h (decides _) in
    rw (shift_text z xs v l, leaves_are z, ← q)

-- out of range
far_is : (z : ℤ) (xs : List ℕ) → zone_fine z ≡ false → 0 ≡ one_if (shiftable z xs)
unfolding shiftable
far_is z xs h = nay _ (fails 0 _ h)

module _ (z : ℤ) (xs out : List ℕ) {j : Judgement} (e : j ≡ judged xs) (f : j ≡ Accepted) {w : Option Zone} (g : w ≡ zoned_of z) where
  pub shift_far : w ≡ None → Exact (shift_result z xs) out (Refused 22 0) out
  unfolding shift_result
  shift_far h = result_accepted xs e _ _ out f (test_nay 22 _ _ _ out (far_is z xs (zone_missing z g h)) refl)

  pub shift_near : Bytes xs → (v : Zone) → w ≡ Some v → {r : Answer} {left : List ℕ} → Exact (zone_result v xs) out r left → Exact (shift_result z xs) out r left
  unfolding shift_result
  shift_near b v h x =
      let o = zone_found z g v h in
      let l = (met xs e f).most in
      result_accepted xs e _ _ out f (rw (o.1, zone_is z xs o.0 b (omega arith)) at x)
