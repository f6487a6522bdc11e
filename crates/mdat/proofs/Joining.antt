-- Places in lists of boxes that were put together. Assumes nothing.
use Prim.Native.Nat.{ℕ, suc, ◌+◌, ◌-◌, ◌≤◌, ◌<◌}
use native.Mathlib.Omega.{arith}
use mathlib.Core.Path.{◌≡◌, sym, ap, ◌∙◌}
use mathlib.Core.List.{List, [], ◌∷◌, ◌++◌}
use lib.ListN.{length, get_or, get_or-append}
use Rattle.codes.specs.Codes.{MDAT}
use Rattle.boxes.specs.Box.{Box, size}
use Rattle.boxes.specs.Boxes.{total}
use Rattle.mdat.specs.Payloads.{mdats, place_of}
use Rattle.mdat.proofs.Payloads.{mdat_or, mdats_hit, place_hit, mdats_miss}
use Rattle.mdat.proofs.Behind.{front_or, behind_hit, behind_miss}
use Rattle.mdat.proofs.Mdats.{mdats_append}

-- a payload of the first list
pub place_left : (p r : List Box) (j i : ℕ) → j < length (mdats p) → place_of (p ++ r) j i ≡ place_of p j i
unfolding mdats
place_left [] r j i h = absurd (omega arith)
place_left (x ∷ p) r j i h =
    front_or x p j h
    (λ c e. rw (← e, place_hit x c (p ++ r) i, place_hit x c p i))
    (λ k b z. rw (b.place (p ++ r) i, b.place p i, place_left p r k i z))

-- it ends where that list ends, or before
pub place_most : (p : List Box) (j i : ℕ) → j < length (mdats p) → i ≤ length (get_or (mdats p) j []) → place_of p j i ≤ total p
unfolding mdats total
place_most [] j i h k = absurd (omega arith)
place_most (x ∷ p) j i h k =
    front_or x p j h
    (λ c e. let m : i ≤ length x.body = rw (← e, mdats_hit x c p) at k in rw (← e, place_hit x c p i) (omega arith))
    (λ n b z. rw (b.place p i) (omega (arith, place_most p n i z (rw (b.body p) at k))))

-- a payload of the second
pub place_right : (p r : List Box) (j i : ℕ) → place_of (p ++ r) (length (mdats p) + j) i ≡ total p + place_of r j i
unfolding mdats total
place_right [] r j i = let z : 0 + j ≡ j = omega arith in rw z (omega arith)
place_right (x ∷ p) r j i =
    mdat_or x
    (λ c. let z : suc (length (mdats p)) + j ≡ suc (length (mdats p) + j) = omega arith in
    rw (mdats_hit x c p, z, (behind_hit x c (length (mdats p) + j)).place (p ++ r) i, place_right p r j i) (omega arith))
    (λ c. rw (mdats_miss x c p, (behind_miss x c (length (mdats p) + j)).place (p ++ r) i, place_right p r j i) (omega arith))

-- a payload of p
pub place_before : (p r : List Box) (j i : ℕ) → j < length (mdats p) → i ≤ length (get_or (mdats (p ++ r)) j []) → place_of p j i ≤ total p
place_before p r j i h k = place_most p j i h (rw (mdats_append p r, get_or-append (mdats p) (mdats r) [] j h) at k)

-- one behind p and a box z that is no `mdat`
pub place_behind : (p q : List Box) (z : Box) → (z.code ≡ MDAT → ⊥) → (j i : ℕ) → length (mdats p) ≤ j → place_of (p ++ z ∷ q) j i ≡ total p + (size z + place_of q (j - length (mdats p)) i)
place_behind p q z nz j i h =
    let s : length (mdats p) + (j - length (mdats p)) ≡ j = omega arith in
    ap (λ (k : ℕ). place_of (p ++ z ∷ q) k i) (sym s) ∙ place_right p (z ∷ q) (j - length (mdats p)) i
    ∙ ap (λ (n : ℕ). total p + n) ((behind_miss z nz (j - length (mdats p))).place q i)
