-- A body of which a stretch of numbers was rewritten: what stands before the stretch and behind it stays. Assumes nothing.
use Prim.Native.Nat.{ℕ, ◌+◌, ◌≤◌, ◌<◌}
use native.Mathlib.Omega.{arith}
use mathlib.Core.Path.{◌≡◌, sym, ap, ◌∙◌}
use mathlib.Core.List.{List, ◌++◌, append_assoc}
use lib.ListN.{length, take, drop, get_or, length-append, length-take, length-drop, take-append-drop, get_or-append}
use lib.Seq.{length-take-le}
use Rattle.wire.specs.Numbers.{word}
use Rattle.wire.proofs.Numbers.{word_left, word_right, word_drop, word_out}
use Rattle.wire.proofs.Tests.{lt_or}
use Rattle.boxes.specs.Words.{each_word, reword}
use Rattle.boxes.proofs.Wording.{each_length, reword_length, reword_past}

module _ (f : ℕ → ℕ) (from span : ℕ) (b : List ℕ) where
  -- the rest of the body, from the stretch on
  abbrev rest : List ℕ
  rest = each_word f (take span (drop from b)) ++ drop (from + span) b

  front : from ≤ length b → length (take from b) ≡ from
  front h = length-take-le from b h

  -- a byte before the stretch
  pub byte_before : (i : ℕ) → i < from → get_or (reword f from span b) i 0 ≡ get_or b i 0
  unfolding reword
  byte_before i h =
      lt_or (length b) from
      (λ k. ap (λ (xs : List ℕ). get_or xs i 0) (sym (reword_past f from span b (omega arith))))
      (λ k. get_or-append (take from b) rest 0 i (omega (arith, front k)) ∙ sym (get_or-append (take from b) (drop from b) 0 i (omega (arith, front k))) ∙ ap (λ (xs : List ℕ). get_or xs i 0) (take-append-drop from b))

  -- a number before it
  pub word_before : (at : ℕ) → at + 4 ≤ from → word 4 (reword f from span b) at ≡ word 4 b at
  unfolding reword
  word_before at h =
      lt_or (length b) from
      (λ k. ap (λ (xs : List ℕ). word 4 xs at) (sym (reword_past f from span b (omega arith))))
      (λ k. word_left 4 (take from b) rest at (omega (arith, front k)) ∙ sym (word_left 4 (take from b) (drop from b) at (omega (arith, front k))) ∙ ap (λ (xs : List ℕ). word 4 xs at) (take-append-drop from b))

  behind_in : (at : ℕ) → from + span ≤ length b → word 4 (reword f from span b) (from + span + at) ≡ word 4 b (from + span + at)
  unfolding reword
  behind_in at k =
      let e = each_length f (take span (drop from b)) in
      let n : length (take from b ++ each_word f (take span (drop from b))) ≡ from + span = rw (length-append, e, front (omega arith), length-take, length-drop) (omega arith) in
      rw (← append_assoc) (word_right 4 (take from b ++ each_word f (take span (drop from b))) (drop (from + span) b) (from + span) at n ∙ word_drop 4 (from + span) b at)

  -- a number behind it
  pub word_behind : (at : ℕ) → word 4 (reword f from span b) (from + span + at) ≡ word 4 b (from + span + at)
  word_behind at =
      lt_or (length b) (from + span)
      (λ k. word_out 4 (reword f from span b) (from + span + at) (omega (arith, reword_length f from span b)) ∙ sym (word_out 4 b (from + span + at) (omega arith)))
      (behind_in at)
