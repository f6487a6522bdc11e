-- The entries of one track by number. Assumes nothing.
use Prim.Native.Nat.{ℕ, zero, suc, ◌+◌, ◌-◌, ◌≤◌, ◌<◌}
use native.Mathlib.Omega.{arith}
use mathlib.Core.Path.{◌≡◌, refl, ap}
use mathlib.Core.List.{List, [], ◌∷◌, ◌++◌}
use lib.ListN.{length}
use Rattle.boxes.specs.Box.{Box, size, header}
use Rattle.boxes.specs.Seek.{ANY, count}
use Rattle.boxes.proofs.Meaning.{meant_any}
use Rattle.movie.specs.Entries.{Entry, entries_from}
use Rattle.movie.specs.Named.{bytes_at}

-- box n of a list, from 0, with its bytes
pub record Split (l : List Box) (n : ℕ) (bs : List ℕ) : Type 0 where
  pub before : List Box
  pub box : Box
  pub past : List Box
  pub list : l ≡ before ++ box ∷ past
  pub nth : count ANY before ≡ n
  pub bytes : bs ≡ header box ++ box.body

-- the entries of one track
pub split_from : (t : ℕ) (l : List Box) (p n : ℕ) (more : List Entry) → n < count ANY l → Split l n (bytes_at n (entries_from t l p ++ more))
unfolding entries_from bytes_at count
split_from t [] p n more h = absurd (omega arith)
split_from t (x ∷ l) p zero more h = record { before = []; box = x; past = l; list = refl; nth = refl; bytes = refl }
split_from t (x ∷ l) p (suc n) more h =
    let o = meant_any ANY x.code refl in
    let s = split_from t l (p + size x) n more (omega arith) in
    record { before = x ∷ s.before; box = s.box; past = s.past; list = ap (λ (m : List Box). x ∷ m) s.list; nth = omega (arith, s.nth); bytes = s.bytes }

-- those of the tracks before are passed
pub bytes_past : (i : ℕ) (d e : List Entry) → length d ≤ i → bytes_at i (d ++ e) ≡ bytes_at (i - length d) e
unfolding bytes_at
bytes_past i [] e h = let z : i - 0 ≡ i = omega arith in rw z
bytes_past zero (x ∷ d) e h = absurd (omega arith)
bytes_past (suc i) (x ∷ d) e h = let z : suc i - suc (length d) ≡ i - length d = omega arith in rw z (bytes_past i d e (omega arith))
