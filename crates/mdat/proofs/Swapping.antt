-- By how much an offset moves where a box that is no `mdat` goes to the front of others. Assumes nothing.
use Prim.Native.Nat.{ℕ, ◌+◌, ◌-◌, ◌≤◌, ◌<◌}
use native.Mathlib.Omega.{arith}
use mathlib.Core.Path.{◌≡◌, ap, ◌∙◌}
use mathlib.Core.Bool.{true}
use mathlib.Core.List.{List, [], ◌∷◌, ◌++◌}
use lib.ListN.{length, get_or}
use Rattle.codes.specs.Codes.{MDAT}
use Rattle.wire.proofs.Tests.{lt_or}
use Rattle.boxes.specs.Box.{Box, size}
use Rattle.boxes.specs.Boxes.{total}
use Rattle.mdat.specs.Payloads.{mdats, place_of, in_at}
use Rattle.mdat.specs.Relocate.{relocate}
use Rattle.mdat.proofs.Behind.{behind_miss}
use Rattle.mdat.proofs.Resolving.{Found, resolved}
use Rattle.mdat.proofs.Relocating.{in_lies, relocate_to}
use Rattle.mdat.proofs.Mdats.{mdats_append}
use Rattle.mdat.proofs.Joining.{place_left, place_right, place_before, place_behind}

-- x goes from behind b to before it, and there is no payload before b
module _ (p b q : List Box) (x : Box) (nx : x.code ≡ MDAT → ⊥) (np : mdats p ≡ []) where
  abbrev old : List Box
  old = p ++ (b ++ x ∷ q)

  abbrev new : List Box
  new = p ++ x ∷ (b ++ q)

  past : (r : List Box) (j i : ℕ) → place_of (p ++ r) j i ≡ total p + place_of r j i
  past r j i = let z : 0 + j ≡ j = omega arith in rw (np, z) at (place_right p r j i)

  in_new : (j i : ℕ) → place_of new j i ≡ total p + (size x + place_of (b ++ q) j i)
  in_new j i = past (x ∷ (b ++ q)) j i ∙ ap (λ (n : ℕ). total p + n) ((behind_miss x nx j).place (b ++ q) i)

  module _ (o j i : ℕ) (f : Found old o j i) where
    -- a payload of b makes room
    left : j < length (mdats b) → (place_of new j i ≡ o + size x) × (o ≤ total p + total b)
    left h =
        let k : i ≤ length (get_or (mdats (b ++ x ∷ q)) j []) = rw (mdats_append p (b ++ x ∷ q), np) at f.into in
        let e : o ≡ total p + place_of b j i = f.is ∙ past (b ++ x ∷ q) j i ∙ ap (λ (n : ℕ). total p + n) (place_left b (x ∷ q) j i h) in
        (omega (arith, in_new j i, place_left b q j i h, e), omega (arith, e, place_before b (x ∷ q) j i h k))

    -- one of q stays
    right : length (mdats b) ≤ j → (place_of new j i ≡ o) × (total p + total b + size x ≤ o)
    right h =
        let s : length (mdats b) + (j - length (mdats b)) ≡ j = omega arith in
        let d : place_of (b ++ q) j i ≡ total b + place_of q (j - length (mdats b)) i = rw s at (place_right b q (j - length (mdats b)) i) in
        let e = f.is ∙ past (b ++ x ∷ q) j i in
        (omega (arith, in_new j i, d, e, place_behind b q x nx j i h), omega (arith, e, place_behind b q x nx j i h))

  module _ (z : 0 < size x) (o n : ℕ) (h : in_at old o n ≡ true) where
    pub relocate_under : o < total p + total b + size x → relocate old new o ≡ o + size x
    relocate_under k =
        let s = in_lies old o n h in
        let f = resolved old o s.j s.i s.found in
        relocate_to old new o s.j s.i s.found
        ∙ lt_or s.j (length (mdats b)) (λ r. (left o s.j s.i f r).0) (λ r. absurd (omega (arith, (right o s.j s.i f r).1)))

    pub relocate_beyond : total p + total b + size x ≤ o → relocate old new o ≡ o
    relocate_beyond k =
        let s = in_lies old o n h in
        let f = resolved old o s.j s.i s.found in
        relocate_to old new o s.j s.i s.found
        ∙ lt_or s.j (length (mdats b)) (λ r. absurd (omega (arith, (left o s.j s.i f r).1))) (λ r. (right o s.j s.i f r).0)
