-- The edition that a count asks for has slots enough for it, and no more than the second. Assumes nothing.
use Prim.Native.Nat.{ℕ, ◌≤◌, ◌<◌}
use native.Mathlib.Omega.{arith}
use mathlib.Core.Path.{◌≡◌, refl, sym, subst, ◌∙◌}
use Rattle.wire.proofs.Tests.{lt_or, le_yea, le_nay}
use Rattle.sheet.specs.declared.edition.Edition.{Edition}
use Rattle.sheet.specs.Sheet.{SLOTS, First, Second, edition_for}

pub edition_first : (n : ℕ) → n ≤ First.slots → First ≡ edition_for n
unfolding edition_for
edition_first n h = le_yea n _ First Second First h refl

pub edition_second : (n : ℕ) → First.slots < n → Second ≡ edition_for n
unfolding edition_for
edition_second n h = le_nay n _ First Second Second h refl

-- an edition that a sheet of n entries can have
pub record Suits (n : ℕ) (edition : Edition) : Type 0 where
  pub number : edition.number < 256
  pub least : First.slots ≤ edition.slots
  pub most : edition.slots ≤ SLOTS
  pub few : n ≤ SLOTS → n ≤ edition.slots

pub edition_suits : (n : ℕ) {edition : Edition} → edition ≡ edition_for n → Suits n edition
edition_suits n e =
    lt_or _ n
    (λ h. subst (Suits n) (edition_second n h ∙ sym e) record { number = omega arith; least = omega arith; most = omega arith; few = λ f. f })
    (λ h. subst (Suits n) (edition_first n h ∙ sym e) record { number = omega arith; least = omega arith; most = omega arith; few = λ f. h })
