-- Laws of decimal text. Assumes nothing.
use Prim.Native.Nat.{ℕ, zero, suc, ◌+◌, ◌/◌, ◌%◌, ◌^◌, ◌≤◌, ◌<◌}
use native.Mathlib.Omega.{arith}
use mathlib.Core.Path.{◌≡◌, refl, sym, ap, ◌∙◌}
use mathlib.Core.List.{List, [], ◌∷◌, ◌++◌}
use lib.ListN.{length, length-append}
use Rattle.wire.specs.Writing.{Put}
use Rattle.wire.proofs.Tests.{lt_yea, lt_nay, lt_or}
use Rattle.wire.proofs.Writing.{pen_then, pen_is}
use Rattle.decimal.specs.Decimal.{decimal_by, decimal, labelled}

-- enough fuel is enough
enough : (j k n : ℕ) → n < j → n < k → decimal_by j n ≡ decimal_by k n
enough zero k n h l = absurd (omega arith)
enough (suc j) zero n h l = absurd (omega arith)
enough (suc j) (suc k) n h l =
    lt_or n 10
    (λ g. sym (lt_yea n 10 _ _ _ g refl) ∙ lt_yea n 10 _ _ _ g refl)
    (λ g. sym (lt_nay n 10 _ _ _ g refl) ∙ lt_nay n 10 _ _ _ g (ap (λ (t : List ℕ). t ++ (48 + n % 10) ∷ []) (enough j k (n / 10) (omega arith) (omega arith))))

decimal_one : (n : ℕ) → n < 10 → (48 + n) ∷ [] ≡ decimal n
unfolding decimal
decimal_one n h = lt_yea n 10 _ _ _ h refl

decimal_more : (n : ℕ) → 10 ≤ n → decimal (n / 10) ++ (48 + n % 10) ∷ [] ≡ decimal n
unfolding decimal
decimal_more n h = lt_nay n 10 _ _ _ h (ap (λ (t : List ℕ). t ++ (48 + n % 10) ∷ []) (enough (suc (n / 10)) n (n / 10) (omega arith) (omega arith)))

-- at most k + 1 digits below 10 ^ (k + 1)
pub decimal_short : (k n : ℕ) → n < 10 ^ suc k → length (decimal n) ≤ suc k
decimal_short zero n h = rw (← decimal_one n (omega arith)) (omega arith)
decimal_short (suc k) n h =
    lt_or n 10
    (λ g. rw (← decimal_one n g) (omega arith))
    (λ g. rw (← decimal_more n g, length-append) (omega (arith, decimal_short k (n / 10) (omega arith))))

pub decimal_20 : (n : ℕ) → n < 18446744073709551616 → length (decimal n) ≤ 20
decimal_20 n h = decimal_short 19 n (omega arith)

-- ---- as the writer asks

pub put_digit : (n : ℕ) {out after : List ℕ} {at r : ℕ} → n < 10 → Put ((48 + n) ∷ []) out at r after → Put (decimal n) out at r after
put_digit n h p = pen_is (decimal_one n h) p

pub put_digits : (n : ℕ) {out mid after : List ℕ} {at m r : ℕ} → 10 ≤ n → Put (decimal (n / 10)) out at m mid → Put ((48 + n % 10) ∷ []) mid m r after
    → Put (decimal n) out at r after
put_digits n h p q = pen_is (decimal_more n h) (pen_then p q)

-- the last two
pub put_two : (n : ℕ) {out mid low after : List ℕ} {at k m r : ℕ} → 100 ≤ n → Put (decimal (n / 100)) out at k mid → Put ((48 + n / 10 % 10) ∷ []) mid k m low
    → Put ((48 + n % 10) ∷ []) low m r after → Put (decimal n) out at r after
put_two n h p q s =
    let e : n / 100 ≡ n / 10 / 10 = omega arith in
    put_digits n (omega arith) (put_digits (n / 10) (omega arith) (pen_is (ap decimal e) p) q) s

pub put_label : (t : List ℕ) (n : ℕ) {out mid after : List ℕ} {at m r : ℕ} → Put t out at m mid → Put (decimal n) mid m r after → n < 18446744073709551616
    → Put (labelled t n) out at r after × (r ≤ at + length t + 20)
unfolding labelled
put_label t n a b h = (pen_then a b, omega (arith, a.next, b.next, decimal_20 n h))
