-- By how much an offset moves: the numbers that an edit computes. Assumes nothing.
use Prim.Native.Nat.{ℕ, ◌+◌, ◌≤◌, ◌<◌}
use native.Mathlib.Omega.{arith}
use mathlib.Core.Path.{◌≡◌, refl, sym, ◌∙◌}
use mathlib.Core.Bool.{true}
use mathlib.Core.List.{List, ◌∷◌, ◌++◌}
use lib.ListN.{length}
use Rattle.codes.specs.Codes.{MDAT}
use Rattle.wire.proofs.Tests.{lt_or}
use Rattle.boxes.specs.Box.{Box, size}
use Rattle.boxes.specs.Boxes.{total}
use Rattle.mdat.specs.Payloads.{mdats, Spot, nowhere, spot, resolve, place_of, in_at}
use Rattle.mdat.specs.Relocate.{relocate}
use Rattle.mdat.proofs.Resolving.{Found, resolved}
use Rattle.mdat.proofs.Relocating.{in_lies, relocate_to, relocate_out}
use Rattle.mdat.proofs.Joining.{place_left, place_before, place_behind}

-- one box x that is no `mdat` becomes y
module _ (p q : List Box) (x y : Box) (nx : x.code ≡ MDAT → ⊥) (ny : y.code ≡ MDAT → ⊥) where
  abbrev old : List Box
  old = p ++ x ∷ q

  abbrev new : List Box
  new = p ++ y ∷ q

  module _ (o j i : ℕ) (f : Found old o j i) where
    -- a payload before it stays
    left : j < length (mdats p) → (place_of new j i ≡ o) × (o ≤ total p)
    left h =
        let e : o ≡ place_of p j i = f.is ∙ place_left p (x ∷ q) j i h in
        (place_left p (y ∷ q) j i h ∙ sym e, omega (arith, e, place_before p (x ∷ q) j i h f.into))

    -- one after it moves by the change of its size
    right : length (mdats p) ≤ j → (place_of new j i + size x ≡ o + size y) × (total p + size x ≤ o)
    right h = (omega (arith, f.is, place_behind p q x nx j i h, place_behind p q y ny j i h), omega (arith, f.is, place_behind p q x nx j i h))

  -- up to its end an offset stays
  pub relocate_before : (o : ℕ) → o < total p + size x → relocate old new o ≡ o
  relocate_before o h = go (resolve old o) refl
    where
      go : (s : Spot) → resolve old o ≡ s → relocate old new o ≡ o
      go nowhere e = relocate_out old new o e
      go (spot j i) e =
          let f = resolved old o j i e in
          relocate_to old new o j i e ∙ lt_or j (length (mdats p)) (λ r. (left o j i f r).0) (λ r. absurd (omega (arith, (right o j i f r).1)))

  -- past it, one in a payload moves by the change of size
  pub relocate_past : 0 < size x → (o n : ℕ) → in_at old o n ≡ true → total p + size x ≤ o → relocate old new o + size x ≡ o + size y
  relocate_past z o n h k =
      let s = in_lies old o n h in
      let f = resolved old o s.j s.i s.found in
      rw (relocate_to old new o s.j s.i s.found)
      (lt_or s.j (length (mdats p)) (λ r. absurd (omega (arith, (left o s.j s.i f r).1))) (λ r. (right o s.j s.i f r).0))
