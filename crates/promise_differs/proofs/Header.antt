-- The times that are read from one header whose times were shifted. Assumes nothing.
use Prim.Native.Nat.{ℕ, ◌+◌, ◌*◌, ◌≤◌, ◌<◌}
use native.Mathlib.Omega.{arith}
use mathlib.Core.Path.{◌≡◌, refl, sym, ap, ◌∙◌}
use mathlib.Core.Bool.{true}
use mathlib.Core.List.{List, ◌++◌}
use lib.IntN.{ℤ, pos, negsuc}
use lib.ListN.{length, take, drop, length-drop}
use lib.Seq.{length-take-le}
use Rattle.wire.specs.Numbers.{word}
use Rattle.wire.proofs.Tests.{eq_yea, eq_nay, eq_or}
use Rattle.wire.proofs.Clauses.{eq_is, le_is, clause}
use Rattle.wire.proofs.Numbers.{word_drop, word_left, word_right, word_take}
use Rattle.boxes.specs.Words.{each_word, reword}
use Rattle.boxes.proofs.Wording.{each_length}
use Rattle.clocks.specs.Clocks.{less, is_time, natural, shift_time, may_shift}
use Rattle.mdat.proofs.Rewording.{each_at}
use Rattle.rule_headers.specs.Forms.{head_form}
use Rattle.edit_shift.specs.Shift.{both}
use Rattle.promise_differs.specs.Times.{Shifted, BothShifted}

-- number k of a stretch that was rewritten
reword_at : (f : ℕ → ℕ) (from span : ℕ) (b : List ℕ) (k : ℕ) → from + span ≤ length b → 4 * k + 4 ≤ span → f (word 4 b (from + 4 * k)) < 4294967296
    → word 4 (reword f from span b) (from + 4 * k) ≡ f (word 4 b (from + 4 * k))
unfolding reword
reword_at f from span b k l h s =
    let xs : List ℕ = take span (drop from b) in
    let m : span ≤ length (drop from b) = rw length-drop (omega arith) in
    let n : length xs ≡ span = length-take-le span (drop from b) m in
    let d : word 4 xs (4 * k) ≡ word 4 b (from + 4 * k) = word_take 4 span (drop from b) (4 * k) h m ∙ word_drop 4 from b (4 * k) in
    word_right 4 (take from b) (each_word f xs ++ drop (from + span) b) from (4 * k) (length-take-le from b (omega arith))
    ∙ word_left 4 (each_word f xs) (drop (from + span) b) (4 * k) (omega (arith, each_length f xs))
    ∙ each_at f k xs (omega arith) (rw d s) ∙ ap f d

-- a whole number that is a time is the natural number that is stored
time_is : (w : ℤ) → is_time w ≡ true → (pos (natural w) ≡ w) × (1 ≤ natural w) × (natural w ≤ 4294967295)
time_is (pos n) e = (refl, le_is 1 n (clause 0 _ e), le_is n 4294967295 (clause 1 _ e))
time_is (negsuc n) e = let o : ◌≡◌ {A = ℕ} 0 1 = cc in absurd (omega arith)

-- a time that may be shifted, shifted
module _ (z : ℤ) (t : ℕ) (h : may_shift z t ≡ true) where
  zero_is : t ≡ 0 → shift_time z t ≡ 0
  unfolding shift_time
  zero_is e = sym (eq_yea _ _ _ _ _ e refl)

  other_is : (t ≡ 0 → ⊥) → (pos (shift_time z t) ≡ less t z) × (1 ≤ shift_time z t) × (shift_time z t ≤ 4294967295)
  unfolding shift_time may_shift
  other_is n =
      let e : natural (less t z) ≡ shift_time z t = eq_nay _ _ _ _ _ n refl in
      let q : is_time (less t z) ≡ may_shift z t = eq_nay _ _ _ _ _ n refl in
      rw (← e) (time_is (less t z) (q ∙ h))

  shifted : Shifted z t (shift_time z t)
  shifted = record { stays = zero_is; taken = λ n. (other_is n).0; fits = λ n. ((other_is n).1, (other_is n).2) }

  small : shift_time z t < 4294967296
  small = eq_or t 0 (λ e. omega (arith, zero_is e)) (λ n. omega (arith, (other_is n).2))

-- a header of which both times may be shifted; rule 4 says that they lie inside
pub head_shifted : (z : ℤ) (n : ℕ) (b b' : List ℕ) → 12 ≤ n → head_form n b ≡ true → both (may_shift z) b ≡ true → b' ≡ reword (shift_time z) 4 8 b
    → BothShifted z b b'
unfolding head_form both
head_shifted z n b b' l g h e = record { creation = one 0 (omega arith) (clause 0 _ h); modification = one 1 (omega arith) (clause 1 _ h) }
  where
    one : (k : ℕ) → k ≤ 1 → may_shift z (word 4 b (4 + 4 * k)) ≡ true → Shifted z (word 4 b (4 + 4 * k)) (word 4 b' (4 + 4 * k))
    one k s q = rw (e, reword_at (shift_time z) 4 8 b k (omega (arith, eq_is (length b) n (clause 0 _ g))) (omega arith) (small z _ q)) (shifted z _ q)
