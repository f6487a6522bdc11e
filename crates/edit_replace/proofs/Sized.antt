-- A size put into a part changes no byte before it, and none behind it. Assumes nothing.
use Prim.Native.Nat.{ℕ, ◌+◌, ◌-◌, ◌≤◌}
use native.Mathlib.Omega.{arith}
use mathlib.Core.Path.{◌≡◌, refl, sym, ap, ◌∙◌}
use mathlib.Core.Bool.{Bool, true, false}
use mathlib.Core.List.{List}
use lib.ListN.{length, take, drop, length-take}
use lib.Seq.{drop-drop, take_at}
use Rattle.wire.specs.Tests.{pick}
use Rattle.wire.specs.Numbers.{bytes}
use Rattle.wire.specs.Writing.{put}
use Rattle.wire.proofs.Numbers.{length_bytes_lem}
use Rattle.wire.proofs.Writing.{open_put, drop_put}

module _ (xs : List ℕ) (at n : ℕ) (h : at + 8 ≤ length xs) where
  -- where it is put at all
  abbrev sized : Bool → List ℕ
  sized t = pick t (put xs at (bytes 4 n)) xs

  pub before_size : (t : Bool) → take at (sized t) ≡ take at xs
  before_size false = refl
  before_size true = ap (take at) (open_put xs at (bytes 4 n)) ∙ take_at (take at xs) _ at (rw length-take (omega arith))

  pub behind_size : (t : Bool) (k : ℕ) → 4 ≤ k → drop (at + k) (sized t) ≡ drop (at + k) xs
  behind_size false k l = refl
  behind_size true k l =
      let e : at + 4 + (k - 4) ≡ at + k = omega arith in
      let w = length_bytes_lem 4 n in
      let d : drop (at + 4) (put xs at (bytes 4 n)) ≡ drop (at + 4) xs = rw w at (drop_put xs at (bytes 4 n) (omega arith)) in
      rw e at (sym (drop-drop (k - 4) (at + 4) (put xs at (bytes 4 n))) ∙ ap (drop (k - 4)) d ∙ drop-drop (k - 4) (at + 4) xs)
