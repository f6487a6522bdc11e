-- A number below 4, by its four cases; and a part without a byte. Assumes nothing.
use Prim.Native.Nat.{ℕ, ◌<◌}
use native.Mathlib.Omega.{arith}
use mathlib.Core.Path.{◌≡◌, refl, subst}
use mathlib.Core.List.{List, []}
use lib.ListN.{length, drop_of_length-le}
use Rattle.wire.specs.Tests.{if_eq}
use Rattle.wire.proofs.Tests.{eq_yea, eq_nay, eq_or}
use Rattle.boxes.specs.Boxes.{boxes}
use Rattle.boxes.specs.Seek.{count}
use Rattle.boxes.proofs.Whole.{short_not}
use Rattle.boxes.proofs.Reading.{boxes_stop}

module _ {A : Type 0} (P : ℕ → A → Type 0) {a b c d : A} (one : P 0 a) (two : P 1 b) (three : P 2 c) (four : P 3 d) where
  pub by_four : (i : ℕ) → i < 4 → P i (if_eq i 0 a (if_eq i 1 b (if_eq i 2 c d)))
  by_four i h =
      eq_or i 0 (λ e. rw e (subst (P 0) (eq_yea _ _ _ _ _ refl refl) one))
      (λ o. eq_or i 1 (λ e. rw e (subst (P 1) (eq_nay _ _ _ _ _ (λ z. omega arith) (eq_yea _ _ _ _ _ refl refl)) two))
      (λ p. eq_or i 2 (λ e. rw e (subst (P 2) (eq_nay _ _ _ _ _ (λ z. omega arith) (eq_nay _ _ _ _ _ (λ z. omega arith) (eq_yea _ _ _ _ _ refl refl))) three))
      (λ q. let e : i ≡ 3 = omega arith in
      rw e (subst (P 3) (eq_nay _ _ _ _ _ (λ z. omega arith) (eq_nay _ _ _ _ _ (λ z. omega arith) (eq_nay _ _ _ _ _ (λ z. omega arith) refl))) four))))

pub no_boxes : (ys : List ℕ) → length ys ≡ 0 → boxes ys ≡ []
no_boxes ys h = boxes_stop ys (short_not ys (omega arith))

pub none_counted : (c : ℕ) → count c [] ≡ 0
unfolding count
none_counted c = refl

pub nil_of : (l : List ℕ) → length l ≡ 0 → l ≡ []
nil_of l e = drop_of_length-le l {i = 0} (omega arith)
