-- Laws of big-endian numbers, over every width. Assumes nothing.
use Prim.Native.Nat.{ℕ, zero, suc, ◌+◌, ◌-◌, ◌*◌, ◌/◌, ◌%◌, ◌^◌, ◌≤◌, ◌<◌}
use native.Mathlib.Omega.{arith}
use native.Mathlib.Numerals.{add-one}
use native.Mathlib.Nat.{add-mul, mul_assoc, mul-le-mul_left, mul-le-mul_right, one-le-pow, pow-suc, pow-le-pow_right, pow-succ', div-one, zero-add, div-div-eq-div-mul, mul-add-div_right, div-eq_of_lt}
use mathlib.Core.Path.{◌≡◌, refl, sym, ap, ◌∙◌}
use mathlib.Core.Bool.{Bool, true, false}
use mathlib.Core.List.{List, [], ◌∷◌, ◌++◌, append-nil}
use lib.Dec.{leb, eqb}
use lib.ListN.{length, get_or, take, drop, length-append, length-take, length-drop, take-append-drop, get_or-eq_default}
use lib.Seq.{get_or-drop, take-add, drop-drop, drop-cons, take-append-le, drop-append-le, take_at, drop_at, length-take-le}
use borrow.Author.Tests.{ne_eqb}
use Rattle.std.specs.List.{list_all}
use Rattle.wire.specs.Tests.{pick, if_le}
use Rattle.wire.specs.Clauses.{is_eq}
use Rattle.wire.specs.Numbers.{Bytes, number_on, bytes_on, bytes, word}
use Rattle.wire.proofs.Tests.{le_yea, le_nay, lt_or, eq_or}

-- ---- bytes stay bytes

pub bytes_drop : (n : ℕ) (xs : List ℕ) → Bytes xs → Bytes (drop n xs)
bytes_drop n xs h i = rw get_or-drop (h (n + i))

pub bytes_take : (n : ℕ) (xs : List ℕ) → Bytes xs → Bytes (take n xs)
bytes_take zero xs h i = omega arith
bytes_take (suc n) [] h i = omega arith
bytes_take (suc n) (x ∷ xs) h zero = h 0
bytes_take (suc n) (x ∷ xs) h (suc i) = bytes_take n xs (λ k. h (suc k)) i

pub bytes_append : (xs ys : List ℕ) → Bytes xs → Bytes ys → Bytes (xs ++ ys)
bytes_append [] ys h k i = k i
bytes_append (x ∷ xs) ys h k zero = h 0
bytes_append (x ∷ xs) ys h k (suc i) = bytes_append xs ys (λ j. h (suc j)) k i

-- ---- the bytes of a number

on_append : (w n : ℕ) (xs ys : List ℕ) → bytes_on w n xs ++ ys ≡ bytes_on w n (xs ++ ys)
unfolding bytes_on
on_append zero n xs ys = refl
on_append (suc w) n xs ys = on_append w (n / 256) (n % 256 ∷ xs) ys

on_length : (w n : ℕ) (xs : List ℕ) → length (bytes_on w n xs) ≡ w + length xs
unfolding bytes_on
on_length zero n xs = omega arith
on_length (suc w) n xs = on_length w (n / 256) (n % 256 ∷ xs) ∙ omega arith

pub length_bytes_lem : (w n : ℕ) → length (bytes w n) ≡ w
unfolding bytes
length_bytes_lem w n = on_length w n [] ∙ omega arith

on_bytes : (w n : ℕ) (xs : List ℕ) → Bytes xs → Bytes (bytes_on w n xs)
unfolding bytes_on
on_bytes zero n xs h = h
on_bytes (suc w) n xs h = on_bytes w (n / 256) (n % 256 ∷ xs) (λ i. go i)
  where
    go : (i : ℕ) → get_or (n % 256 ∷ xs) i 0 < 256
    go zero = omega arith
    go (suc i) = h i

pub bytes_bytes : (w n : ℕ) → Bytes (bytes w n)
unfolding bytes
bytes_bytes w n = on_bytes w n [] (λ i. omega arith)

-- the bytes of a number are those of its upper part and then those of its lower part
on_join : (v w n : ℕ) (xs : List ℕ) → bytes_on v (n / 256 ^ w) (bytes_on w n xs) ≡ bytes_on (w + v) n xs
unfolding bytes_on
on_join v zero n xs = rw (div-one, zero-add)
on_join v (suc w) n xs =
    let e : suc w + v ≡ suc (w + v) = omega arith in
    rw (e, pow-succ', ← div-div-eq-div-mul n 256 (256 ^ w)) (on_join v w (n / 256) (n % 256 ∷ xs))

pub bytes_join : (v w n : ℕ) → bytes v (n / 256 ^ w) ++ bytes w n ≡ bytes (w + v) n
unfolding bytes
bytes_join v w n = on_append v (n / 256 ^ w) [] (bytes_on w n []) ∙ on_join v w n []

-- ---- the number of bytes

number_append : (n : ℕ) (xs ys : List ℕ) → number_on n (xs ++ ys) ≡ number_on (number_on n xs) ys
number_append n [] ys = refl
number_append n (x ∷ xs) ys = number_append (n * 256 + x) xs ys

-- n stands before the number of the bytes
number_front : (n : ℕ) (xs : List ℕ) → number_on n xs ≡ n * 256 ^ length xs + number_on 0 xs
number_front n [] = omega arith
number_front n (x ∷ xs) =
    rw (number_front (n * 256 + x) xs, number_front (0 + x) xs, pow-succ', add-mul (n * 256) x, add-mul 0 x, mul_assoc n 256) (omega arith)

number_fits : (xs : List ℕ) → Bytes xs → number_on 0 xs < 256 ^ length xs
number_fits [] h = omega arith
number_fits (x ∷ xs) h =
    let k : x * 256 ^ length xs ≤ 255 * 256 ^ length xs = mul-le-mul_right (256 ^ length xs) (omega (arith, h 0)) in
    rw (number_front (0 + x) xs, pow-succ', zero-add) (omega (arith, number_fits xs (λ i. h (suc i))))

-- ---- there and back

number_on_lem : (a w n : ℕ) (xs : List ℕ) → n < 256 ^ w → number_on a (bytes_on w n xs) ≡ number_on (a * 256 ^ w + n) xs
unfolding bytes_on
number_on_lem a zero n xs h = let e : a * 1 + n ≡ a = omega arith in rw e
number_on_lem a (suc w) n xs h =
    let k : n < 256 ^ w * 256 = rw (← pow-suc 256 w) h in
    let e : (a * 256 ^ w + n / 256) * 256 + n % 256 ≡ a * 256 ^ suc w + n = rw (pow-suc 256 w, add-mul, ← mul_assoc a (256 ^ w) 256) (omega arith) in
    rw (number_on_lem a w (n / 256) (n % 256 ∷ xs) (omega arith), e)

on_number : (n : ℕ) (xs ys : List ℕ) → Bytes xs → bytes_on (length xs) (number_on n xs) ys ≡ xs ++ ys
unfolding bytes_on
on_number n [] ys h = refl
on_number n (x ∷ xs) ys h =
    let t : Bytes xs = λ i. h (suc i) in
    let d : number_on (n * 256 + x) xs / 256 ^ length xs ≡ n * 256 + x =
    rw (number_front (n * 256 + x) xs, mul-add-div_right {m = 256 ^ length xs} (omega (arith, number_fits xs t)) (n * 256 + x) (number_on 0 xs), div-eq_of_lt (number_fits xs t)) (omega arith) in
    let e : (n * 256 + x) % 256 ≡ x = omega (arith, h 0) in
    let s : length xs + 1 ≡ suc (length xs) = omega arith in
    sym (ap (λ (w : ℕ). bytes_on w (number_on (n * 256 + x) xs) ys) s) ∙ sym (on_join 1 (length xs) (number_on (n * 256 + x) xs) ys) ∙ rw (d, e, on_number (n * 256 + x) xs ys t)

-- ---- words

pub word_in : (w : ℕ) (xs : List ℕ) (at : ℕ) → at + w ≤ length xs → word w xs at ≡ number_on 0 (take w (drop at xs))
unfolding word
word_in w xs at h = sym (le_yea _ _ _ _ _ h refl)

pub word_out : (w : ℕ) (xs : List ℕ) (at : ℕ) → length xs < at + w → word w xs at ≡ 0
unfolding word
word_out w xs at h = sym (le_nay _ _ _ _ _ h refl)

-- nothing stands past the end
pub byte_past : (xs : List ℕ) (at : ℕ) → length xs ≤ at → 0 ≡ get_or xs at 0
byte_past xs at h = sym (get_or-eq_default xs 0 h)

-- one byte is a word; two words side by side are one
pub word_byte : (xs : List ℕ) (at : ℕ) → word 1 xs at ≡ get_or xs at 0
word_byte xs at =
    lt_or at (length xs)
    (λ h. rw (word_in 1 xs at (omega arith), drop-cons xs at 0) (omega arith))
    (λ h. word_out 1 xs at (omega arith) ∙ byte_past xs at h)

pub word_join : (v w : ℕ) (xs : List ℕ) (at : ℕ) → at + (v + w) ≤ length xs → word v xs at * 256 ^ w + word w xs (at + v) ≡ word (v + w) xs at
word_join v w xs at h =
    let l : length (take w (drop (at + v) xs)) ≡ w = length-take-le w (drop (at + v) xs) (rw length-drop (omega arith)) in
    rw (word_in v xs at (omega arith), word_in w xs (at + v) (omega arith), word_in (v + w) xs at h, take-add v w (drop at xs), drop-drop v at xs, number_append, number_front (number_on 0 (take v (drop at xs))) (take w (drop (at + v) xs)), l)

-- one byte more behind a number of w bytes: it has w + 1, and fits 64 bits where these are at most 8
module _ {n b : ℕ} (w : ℕ) (h : n < 256 ^ w) (k : b < 256) where
  pub word_grown : n * 256 + b < 256 ^ (w + 1)
  word_grown = rw (add-one, pow-suc) (omega arith)

  pub word_room : w < 8 → n * 256 + b < 2 ^ 64
  word_room l = let m : 256 ^ (w + 1) ≤ 256 ^ 8 = pow-le-pow_right {n = 256} (omega arith) {i = w + 1} {j = 8} (omega arith) in omega (arith, word_grown)

pub word_next : (xs : List ℕ) (at w : ℕ) {n b : ℕ} → n ≡ word w xs at → b ≡ get_or xs (at + w) 0 → at + (w + 1) ≤ length xs → n * 256 + b ≡ word (w + 1) xs at
word_next xs at w p q h = rw (p, q, ← word_byte xs (at + w)) (word_join w 1 xs at h)

-- the bytes of a number are all 0 where it is 0
all_zero : (xs : List ℕ) → list_all (λ b. eqb b 0) xs ≡ is_eq (number_on 0 xs) 0
unfolding is_eq
all_zero [] = refl
all_zero (x ∷ xs) =
    let f : number_on (0 * 256 + x) xs ≡ (0 * 256 + x) * 256 ^ length xs + number_on 0 xs = number_front (0 * 256 + x) xs in
    eq_or x 0
    (λ e. rw e (all_zero xs))
    (λ n.
    let k : x * 1 ≤ x * 256 ^ length xs = mul-le-mul_left x (one-le-pow (length xs) 256 (omega arith)) in
    rw (ne_eqb x 0 n) (sym (ne_eqb (number_on (0 * 256 + x) xs) 0 (omega arith))))

pub zeros_is : (n : ℕ) (xs : List ℕ) (at : ℕ) {r : Bool} → at + n ≤ length xs → r ≡ list_all (λ b. eqb b 0) (take n (drop at xs)) → r ≡ is_eq (word n xs at) 0
zeros_is n xs at h e = rw (word_in n xs at h) (e ∙ all_zero (take n (drop at xs)))

pub word_fits : (w : ℕ) (xs : List ℕ) (at : ℕ) → Bytes xs → word w xs at < 256 ^ w
word_fits w xs at h =
    lt_or (length xs) (at + w)
    (λ k. rw (word_out w xs at k) (one-le-pow w 256 (omega arith)))
    (λ k.
    let l : length (take w (drop at xs)) ≡ w = length-take-le w (drop at xs) (rw length-drop (omega arith)) in
    rw (word_in w xs at k) (rw l at (number_fits (take w (drop at xs)) (bytes_take w (drop at xs) (bytes_drop at xs h)))))

-- a number of 32 bits
pub word_most : (xs : List ℕ) (at : ℕ) → Bytes xs → word 4 xs at ≤ 4294967295
word_most xs at b = omega (arith, word_fits 4 xs at b)

-- the bytes of a word are those that it was read from
pub bytes_word : (w : ℕ) (xs : List ℕ) (at : ℕ) → Bytes xs → at + w ≤ length xs → bytes w (word w xs at) ≡ take w (drop at xs)
unfolding bytes
bytes_word w xs at h k =
    let l : length (take w (drop at xs)) ≡ w = length-take-le w (drop at xs) (rw length-drop (omega arith)) in
    rw (word_in w xs at k) (rw (l, append-nil) at (on_number 0 (take w (drop at xs)) [] (bytes_take w (drop at xs) (bytes_drop at xs h))))

-- and the word in the bytes of a number is that number
pub word_bytes : (w n : ℕ) (xs : List ℕ) → n < 256 ^ w → word w (bytes w n ++ xs) 0 ≡ n
unfolding bytes
word_bytes w n xs h =
    let l = length_bytes_lem w n in
    rw (word_in w (bytes w n ++ xs) 0 (rw length-append (omega arith)), take_at (bytes_on w n []) xs w l, number_on_lem 0 w n [] h) (omega arith)

pub word_none : (xs : List ℕ) (at : ℕ) → word 0 xs at ≡ 0
unfolding word if_le
word_none xs at = go (leb (at + 0) (length xs))
  where
    go : (t : Bool) → ◌≡◌ {A = ℕ} (pick t 0 0) 0
    go true = refl
    go false = refl

-- a word further on
pub word_drop : (w n : ℕ) (xs : List ℕ) (at : ℕ) → word w (drop n xs) at ≡ word w xs (n + at)
word_drop zero n xs at = word_none (drop n xs) at ∙ sym (word_none xs (n + at))
word_drop (suc w) n xs at =
    lt_or (length xs) (n + at + suc w)
    (λ k. rw (word_out (suc w) xs (n + at) k, word_out (suc w) (drop n xs) at (rw length-drop (omega arith))))
    (λ k. rw (word_in (suc w) xs (n + at) k, word_in (suc w) (drop n xs) at (rw length-drop (omega arith)), drop-drop at n xs))

-- a word of the first of two parts, and of the second
pub word_left : (w : ℕ) (xs ys : List ℕ) (at : ℕ) → at + w ≤ length xs → word w (xs ++ ys) at ≡ word w xs at
word_left w xs ys at h =
    let k : length (drop at xs) ≡ length xs - at = length-drop at xs in
    rw (word_in w xs at h, word_in w (xs ++ ys) at (rw length-append (omega arith)), drop-append-le at xs ys (omega arith), take-append-le w (drop at xs) ys (omega arith))

pub word_right : (w : ℕ) (xs ys : List ℕ) (n at : ℕ) → length xs ≡ n → word w (xs ++ ys) (n + at) ≡ word w ys at
word_right w xs ys n at h = sym (word_drop w n (xs ++ ys) at) ∙ ap (λ (zs : List ℕ). word w zs at) (drop_at xs ys n h)

-- a word of the front of a part
pub word_take : (w n : ℕ) (xs : List ℕ) (at : ℕ) → at + w ≤ n → n ≤ length xs → word w (take n xs) at ≡ word w xs at
word_take w n xs at h k =
    let l : length (take n xs) ≡ n = length-take-le n xs k in
    sym (ap (λ (ys : List ℕ). word w ys at) (sym (take-append-drop n xs)) ∙ word_left w (take n xs) (drop n xs) at (omega arith))

-- a word of a part that begins with ys, at a place in ys
pub word_front : (n : ℕ) (xs ys : List ℕ) → take n xs ≡ ys → length ys ≡ n → (w at : ℕ) → at + w ≤ n → word w xs at ≡ word w ys at
word_front n xs ys e l w at h = sym (word_take w n xs at h (omega (arith, length-take n xs, ap length e))) ∙ ap (λ (zs : List ℕ). word w zs at) e
