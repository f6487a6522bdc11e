-- Slot by slot: what the entries of n slots are from those past the first. Assumes nothing.
use Prim.Native.Nat.{ℕ, zero, suc, ◌+◌, ◌-◌, ◌≤◌}
use native.Mathlib.Omega.{arith}
use mathlib.Core.Path.{◌≡◌, refl, ap}
use mathlib.Core.List.{List, [], ◌∷◌}
use lib.ListN.{length, take, drop, length-append, length-take, length-drop}
use Rattle.wire.specs.Numbers.{word}
use Rattle.sheet.specs.Sheet.{SLOT, bodies}
use Rattle.sheet_table.specs.Form.{first_of, read}

pub read_none : (n : ℕ) (xs ys : List ℕ) → n ≡ 0 → read n xs ys ≡ []
unfolding read
read_none n xs ys e = rw e

-- xs and ys past the first slot and its body
pub record Past (xs ys rest past : List ℕ) : Type 0 where
  pub slots : rest ≡ drop SLOT xs
  pub bodies : past ≡ drop (word 4 xs 8) ys

pub past_is : (xs ys : List ℕ) → Past xs ys (drop SLOT xs) (drop (word 4 xs 8) ys)
past_is xs ys = record { slots = refl; bodies = refl }

module _ {n : ℕ} {xs ys rest past : List ℕ} (h : n ≡ 0 → ⊥) (p : Past xs ys rest past) where
  pub read_more : read n xs ys ≡ first_of xs ys ∷ read (n - 1) rest past
  unfolding read
  read_more = go n h
    where
      go : (m : ℕ) → (m ≡ 0 → ⊥) → read m xs ys ≡ first_of xs ys ∷ read (m - 1) rest past
      go zero k = absurd (k refl)
      go (suc m) k = let e : suc m - 1 ≡ m = omega arith in rw (e, p.slots, p.bodies)

-- ---- the length of the bodies

pub parts_length : (m : ℕ) (ys : List ℕ) {first past : List ℕ} → first ≡ take m ys → past ≡ drop m ys → length first + length past ≡ length ys
parts_length m ys e f = rw (e, f, length-take, length-drop) (omega arith)

pub read_length : (n : ℕ) (xs ys : List ℕ) → length (read n xs ys) ≡ n
unfolding read
read_length zero xs ys = refl
read_length (suc n) xs ys = ap suc (read_length n (drop SLOT xs) (drop (word 4 xs 8) ys))

pub size_none : (n : ℕ) (xs ys : List ℕ) → n ≡ 0 → 0 ≡ length (bodies (read n xs ys))
unfolding bodies
size_none n xs ys e = rw (read_none n xs ys e)

module _ {n : ℕ} {xs ys rest past : List ℕ} (h : n ≡ 0 → ⊥) (p : Past xs ys rest past) where
  pub size_more : (first : List ℕ) {r : ℕ} → first ≡ take (word 4 xs 8) ys → r ≡ length (bodies (read (n - 1) rest past)) → r ≤ length past → (length first + r ≡ length (bodies (read n xs ys))) × (length first + r ≤ length ys)
  unfolding bodies
  size_more first f e l = (rw (read_more h p, length-append, ← f, e), omega (arith, parts_length (word 4 xs 8) ys f p.bodies))
