-- The amounts that code moves offsets by are those of relocation. Assumes nothing.
use Prim.Native.Nat.{ℕ, ◌+◌, ◌<◌}
use native.Mathlib.Omega.{arith}
use mathlib.Core.Path.{◌≡◌, sym}
use mathlib.Core.Bool.{true}
use mathlib.Core.List.{List, [], ◌∷◌, ◌++◌}
use Rattle.codes.specs.Codes.{MDAT}
use Rattle.wire.proofs.Tests.{lt_or}
use Rattle.boxes.specs.Box.{Box, size}
use Rattle.boxes.specs.Boxes.{total}
use Rattle.boxes.specs.Words.{moved}
use Rattle.boxes.specs.declared.words.By.{By}
use Rattle.boxes.proofs.Wording.{moved_low, moved_high}
use Rattle.mdat.specs.Payloads.{mdats, in_at}
use Rattle.mdat.specs.Relocate.{relocate}
use Rattle.mdat.proofs.Moving.{relocate_before, relocate_past}
use Rattle.mdat.proofs.Swapping.{relocate_under, relocate_beyond}

-- numbers for y in the place of x: what stands past x moves by the change of size
pub record Changes (p : List Box) (x y : Box) (by : By) : Type 0 where
  pub limit : by.limit ≡ total p + size x
  pub low : by.low ≡ 0
  pub high : by.high ≡ size y
  pub less : by.less ≡ size x

pub moved_change : (p q : List Box) (x y : Box) → (x.code ≡ MDAT → ⊥) → (y.code ≡ MDAT → ⊥) → 0 < size x → (by : By) → Changes p x y by
    → (o n : ℕ) → in_at (p ++ x ∷ q) o n ≡ true → moved by o ≡ relocate (p ++ x ∷ q) (p ++ y ∷ q) o
moved_change p q x y nx ny z by c o n h =
    lt_or o by.limit
    (λ k. sym (moved_low by o k (omega (arith, c.low, c.limit, relocate_before p q x y nx ny o (omega (arith, c.limit))))))
    (λ k. sym (moved_high by o k (omega (arith, c.high, c.less, relocate_past p q x y nx ny z o n h (omega (arith, c.limit))))))

-- numbers that put x before b: what stands before x makes room for it
pub record Fronts (p b : List Box) (x : Box) (by : By) : Type 0 where
  pub limit : by.limit ≡ total p + total b + size x
  pub low : by.low ≡ size x
  pub high : by.high ≡ 0
  pub less : by.less ≡ 0

pub moved_front : (p b q : List Box) (x : Box) → (x.code ≡ MDAT → ⊥) → mdats p ≡ [] → 0 < size x → (by : By) → Fronts p b x by
    → (o n : ℕ) → in_at (p ++ (b ++ x ∷ q)) o n ≡ true → moved by o ≡ relocate (p ++ (b ++ x ∷ q)) (p ++ x ∷ (b ++ q)) o
moved_front p b q x nx np z by c o n h =
    lt_or o by.limit
    (λ k. sym (moved_low by o k (omega (arith, c.low, relocate_under p b q x nx np z o n h (omega (arith, c.limit))))))
    (λ k. sym (moved_high by o k (omega (arith, c.high, c.less, relocate_beyond p b q x nx np z o n h (omega (arith, c.limit))))))
