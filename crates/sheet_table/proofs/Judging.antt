-- Laws of the form. Assumes nothing.
use Prim.Native.Nat.{ℕ, ◌-◌}
use mathlib.Core.Path.{◌≡◌, sym, ◌∙◌}
use mathlib.Core.Bool.{Bool, true, false}
use mathlib.Core.List.{List}
use lib.ListN.{take, get_or}
use Rattle.wire.specs.Numbers.{word}
use Rattle.release.specs.declared.Release.TheVariants.{Release4}
use Rattle.std.specs.Prelude.{None}
use Rattle.entry_rules.specs.Entries.{entry_rule}
use Rattle.sheet_table.specs.Form.{read, follows, steps, all_meet}
use Rattle.sheet_table.proofs.Reading.{Past, past_is, read_none, read_more}

-- ---- the tracks

pub steps_none : (n last : ℕ) (xs ys : List ℕ) → n ≡ 0 → true ≡ steps last (read n xs ys)
unfolding steps
steps_none n last xs ys e = rw (read_none n xs ys e)

module _ (last track : ℕ) {n : ℕ} {f : Bool} (xs ys : List ℕ) (h : n ≡ 0 → ⊥) (t : track ≡ get_or xs 1 0) (e : f ≡ follows last track) where
  pub steps_bad : f ≡ false → false ≡ steps last (read n xs ys)
  unfolding steps
  steps_bad z = rw (read_more h (past_is xs ys), ← t, sym e ∙ z)

  pub steps_more : {r : Bool} {rest past : List ℕ} → Past xs ys rest past → f ≡ true → r ≡ steps track (read (n - 1) rest past) → r ≡ steps last (read n xs ys)
  unfolding steps
  steps_more p z g = g ∙ rw (read_more h p, ← t, sym e ∙ z)

-- ---- the bodies

pub meet_none : (n : ℕ) (xs ys : List ℕ) → n ≡ 0 → true ≡ all_meet (read n xs ys)
unfolding all_meet
meet_none n xs ys e = rw (read_none n xs ys e)

module _ {n : ℕ} (xs ys : List ℕ) {first : List ℕ} (h : n ≡ 0 → ⊥) (b : first ≡ take (word 4 xs 8) ys) where
  pub meet_bad : entry_rule None Release4 first ≡ false → false ≡ all_meet (read n xs ys)
  unfolding all_meet
  meet_bad z = rw (read_more h (past_is xs ys), ← b, z)

  pub meet_more : {r : Bool} {rest past : List ℕ} → Past xs ys rest past → entry_rule None Release4 first ≡ true → r ≡ all_meet (read (n - 1) rest past) → r ≡ all_meet (read n xs ys)
  unfolding all_meet
  meet_more p z g = g ∙ rw (read_more h p, ← b, z)
