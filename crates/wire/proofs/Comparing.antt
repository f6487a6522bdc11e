-- Comparing a list with two parts put together. Assumes nothing.
use Prim.Native.Nat.{ℕ}
use mathlib.Core.Path.{◌≡◌, refl, sym, ◌∙◌}
use mathlib.Core.Bool.{Bool, true, false, true≢false}
use mathlib.Core.List.{List, ◌++◌}
use mathlib.Core.Logic.{◌≢◌}
use lib.ListN.{length, take, drop, take-append-drop}
use lib.Seq.{take-length, take_at, drop_at}
use lib.Pointwise.{bytes_decides}
use Rattle.std.specs.Str.{bytes_eq}
use Rattle.wire.specs.Clauses.{is_eq}
use Rattle.wire.proofs.Tests.{eq_or}
use Rattle.wire.proofs.Clauses.{is_eq_lem, not_eq}

-- two parts that differ
pub bytes_ne : (xs ys : List ℕ) → xs ≢ ys → false ≡ bytes_eq xs ys
bytes_ne xs ys h = go (bytes_eq xs ys) refl
  where
    go : (t : Bool) → bytes_eq xs ys ≡ t → false ≡ t
    go true e = absurd (h ((bytes_decides xs ys).0 e))
    go false e = refl

-- the first n bytes of xs are to be p, and what follows them q, which is the same as far as it goes
module _ {n : ℕ} (xs p q : List ℕ) (l : length p ≡ n) {s : Bool} (e : s ≡ bytes_eq (take n xs) p) where
  pub same_bad : s ≡ false → false ≡ bytes_eq xs (p ++ q)
  same_bad z =
      bytes_ne xs (p ++ q) (λ w.
      let one : bytes_eq (take n xs) p ≡ true = (bytes_decides (take n xs) p).1 (rw (w, take_at p q n l)) in
      absurd (true≢false (sym one ∙ sym e ∙ z)))

  pub same_good : {r : Bool} → s ≡ true → q ≡ take (length q) (drop n xs) → r ≡ is_eq (length q) (length (drop n xs)) → r ≡ bytes_eq xs (p ++ q)
  same_good {r} z f g =
      let t : take n xs ≡ p = (bytes_decides (take n xs) p).0 (sym e ∙ z) in
      eq_or (length q) (length (drop n xs))
      (λ u.
      let w : p ++ q ≡ xs = rw (← t, f, u, take-length) (take-append-drop n xs) in
      g ∙ rw (is_eq_lem _ _ u) (sym ((bytes_decides xs (p ++ q)).1 (sym w))))
      (λ u. g ∙ rw (not_eq _ _ u) (bytes_ne xs (p ++ q) (λ w. u (rw (w, drop_at p q n l)))))
