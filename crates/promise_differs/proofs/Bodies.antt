-- Bodies that are the same but for a stretch. Assumes nothing.
use Prim.Native.Nat.{ℕ, ◌+◌}
use native.Mathlib.Omega.{arith}
use mathlib.Core.Path.{◌≡◌, refl, sym, ap, ◌∙◌}
use mathlib.Core.List.{List, ◌++◌, append_assoc}
use lib.ListN.{length, take, drop, length-append, length-take, length-drop, drop_of_length-le}
use lib.Seq.{take_at, drop_at, length-take-le}
use Rattle.wire.proofs.Tests.{lt_or}
use Rattle.boxes.specs.Words.{each_word, reword}
use Rattle.boxes.proofs.Wording.{each_length, reword_length, reword_past}
use Rattle.promise_differs.specs.Differs.{But}

-- a body and itself
pub but_refl : (from to : ℕ) (b : List ℕ) → But from to b b
but_refl from to b = record { long = refl; before = refl; behind = refl }

-- ---- a stretch of numbers was rewritten

module _ (f : ℕ → ℕ) (from span : ℕ) (b : List ℕ) where
  abbrev each : List ℕ
  each = each_word f (take span (drop from b))

  reword_before : take from b ≡ take from (reword f from span b)
  unfolding reword
  reword_before =
      lt_or (length b) from
      (λ h. ap (take from) (reword_past f from span b (omega arith)))
      (λ h. sym (take_at (take from b) (each ++ drop (from + span) b) from (length-take-le from b h)))

  reword_behind : drop (from + span) b ≡ drop (from + span) (reword f from span b)
  unfolding reword
  reword_behind =
      lt_or (length b) (from + span)
      (λ h. drop_of_length-le b {i = from + span} (omega arith) ∙ sym (drop_of_length-le (reword f from span b) {i = from + span} (omega (arith, reword_length f from span b))))
      (λ h.
      let n : length (take from b ++ each) ≡ from + span = rw (length-append, each_length f (take span (drop from b)), length-take-le from b (omega arith), length-take, length-drop) (omega arith) in
      rw (← append_assoc) (sym (drop_at (take from b ++ each) (drop (from + span) b) (from + span) n)))

  -- all but the stretch stays
  pub but_reword : But from (from + span) b (reword f from span b)
  but_reword = record { long = sym (reword_length f from span b); before = reword_before; behind = reword_behind }

  -- all before it stays
  pub but_tail : But from (length b) b (reword f from span b)
  but_tail =
      record {
        long = sym (reword_length f from span b);
        before = reword_before;
        behind = drop_of_length-le b {i = length b} (omega arith) ∙ sym (drop_of_length-le (reword f from span b) {i = length b} (omega (arith, reword_length f from span b)));
      }
