-- Parts of lists that were put together.
use Prim.Native.Nat.{ℕ, ◌+◌, ◌-◌, ◌≤◌, min}
use native.Mathlib.Omega.{arith}
use mathlib.Core.Path.{◌≡◌, sym}
use mathlib.Core.List.{List, [], ◌++◌, append-nil}
use lib.ListN.{length, take, drop, length-drop, drop_of_length-le}
use lib.Seq.{take_all, take-length, drop-length, take-append-add, drop-append-add}
use borrow.Rule.Slice.PartMut.{put_mid, mid_of}
use Rattle.wire.proofs.Tests.{lt_or}

module _ {A : Type 0} where
  pub take_past : (p q : List A) (a n : ℕ) → length p ≡ a → take (a + n) (p ++ q) ≡ p ++ take n q
  take_past p q a n e = rw (← e) (take-append-add p q n)

  pub drop_past : (p q : List A) (a n : ℕ) → length p ≡ a → drop (a + n) (p ++ q) ≡ drop n q
  drop_past p q a n e = rw (← e) (drop-append-add p q n)

  -- what `&xs[a..]` lends, and what stands after it comes back as ys
  pub tail_is : (xs : List A) (a : ℕ) → a ≤ length xs → mid_of a (length xs - a) xs ≡ drop a xs
  tail_is xs a h = take_all (length xs - a) (drop a xs) (rw length-drop (omega arith))

  pub put_tail : (xs : List A) (a : ℕ) (ys : List A) → a ≤ length xs → put_mid a (length xs - a) xs ys ≡ take a xs ++ ys
  put_tail xs a ys h =
      let e : drop (length xs - a) (drop a xs) ≡ [] = drop_of_length-le (drop a xs) {i = length xs - a} (rw length-drop (omega arith)) in
      rw (e, append-nil)

  -- what `&xs[0..n]` lends comes back by f
  pub put_front : (f : List A → List A) (xs ys : List A) (n : ℕ) → ys ≡ f (mid_of 0 (n - 0) xs) → put_mid 0 (n - 0) xs ys ≡ f (take n xs) ++ drop n xs
  put_front f xs ys n q = let e : n - 0 ≡ n = omega arith in rw e (rw (rw e at q))

  pub nil_is : (xs : List A) → length xs ≡ 0 → xs ≡ []
  nil_is xs e = drop_of_length-le xs {i = 0} (omega arith)

  -- no more than there is
  pub take_min : (n : ℕ) (xs : List A) → take (min n (length xs)) xs ≡ take n xs
  take_min n xs =
      lt_or (length xs) n
      (λ h. let k : min n (length xs) ≡ length xs = omega arith in rw (k, take-length) (sym (take_all n xs (omega arith))))
      (λ h. let k : min n (length xs) ≡ n = omega arith in rw k)

  pub drop_min : (n : ℕ) (xs : List A) → drop (min n (length xs)) xs ≡ drop n xs
  drop_min n xs =
      lt_or (length xs) n
      (λ h. let k : min n (length xs) ≡ length xs = omega arith in rw (k, drop-length) (sym (drop_of_length-le xs {i = n} (omega arith))))
      (λ h. let k : min n (length xs) ≡ n = omega arith in rw k)
