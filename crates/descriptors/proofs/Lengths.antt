-- A length byte by byte: what code reads, and how large it may be. Assumes nothing.
use Prim.Native.Nat.{ℕ, zero, suc, ◌+◌, ◌-◌, ◌*◌, ◌%◌, ◌^◌, ◌≤◌, ◌<◌, min}
use native.Mathlib.Omega.{arith}
use native.Mathlib.Nat.{pow-suc, pow-le-pow_right}
use native.Mathlib.Numerals.{add-one}
use mathlib.Core.Path.{◌≡◌, refl, sym, ap, ◌∙◌}
use mathlib.Core.Bool.{false≢true}
use mathlib.Core.List.{List, [], ◌∷◌}
use mathlib.Core.Logic.{⊎_elim}
use lib.ListN.{length, get_or, drop, length-drop}
use lib.Seq.{drop-cons}
use Rattle.wire.proofs.Lists.{nil_is}
use Rattle.wire.proofs.Tests.{lt_yea, lt_nay, lt_or, lt_ways}
use Rattle.descriptors.specs.declared.length.Length.{Length}
use Rattle.std.specs.Prelude.{Option, None, is_some, unwrap_or}
use Rattle.descriptors.specs.Lengths.{in_bytes, length_from, length_at}

-- ---- how it is read: k bytes said n

module _ (xs : List ℕ) where
  -- what is left to read
  abbrev pub left : (n k : ℕ) → Option Length
  left n k = length_from (4 - k) n k (drop k xs)

  pub length_none : length_at xs ≡ left 0 0
  unfolding length_at
  length_none = refl

  module _ (n k : ℕ) {b : ℕ} (e : b ≡ get_or xs k 0) (h : k < 4) (i : k < length xs) where
    four : 4 - k ≡ suc (3 - k)
    four = omega (arith, add-one (3 - k))

    pub length_says : b < 128 → in_bytes (n * 128 + b) (k + 1) ≡ left n k
    unfolding length_from
    length_says l = rw (four, drop-cons xs k 0 i, sym e) (lt_yea _ _ _ _ _ l refl)

    pub length_more : 128 ≤ b → left n k ≡ left (n * 128 + b % 128) (k + 1)
    unfolding length_from
    length_more l =
        let q : 4 - (k + 1) ≡ 3 - k = omega arith in
        let d : drop (k + 1) xs ≡ drop (suc k) xs = rw add-one in
        rw (q, four, d, drop-cons xs k 0 i, sym e) (sym (lt_nay _ _ _ _ _ l refl))

  stopped : (w n k : ℕ) (ys : List ℕ) → length ys ≡ 0 → None ≡ length_from w n k ys
  unfolding length_from
  stopped zero n k ys z = refl
  stopped (suc w) n k ys z = rw (nil_is ys z)

  -- no byte is left that may say it
  pub length_broken : (n k : ℕ) → min 4 (length xs) ≤ k → None ≡ left n k
  unfolding length_from
  length_broken n k h =
      lt_or k 4 (λ l. stopped (4 - k) n k (drop k xs) (length-drop k xs ∙ omega arith)) (λ g. let z : 4 - k ≡ 0 = omega arith in rw z)

-- ---- how large it is

-- one byte more
pub more_fits : (n k x : ℕ) → n < 128 ^ k → x < 128 → n * 128 + x < 128 ^ (k + 1)
more_fits n k x h l = rw (add-one, pow-suc 128 k) (omega arith)

-- before the fourth
pub third_fits : (n k : ℕ) → n < 128 ^ k → k < 4 → n < 2097152
third_fits n k h l = let m : 128 ^ k ≤ 128 ^ 3 = pow-le-pow_right {n = 128} (omega arith) {i = k} {j = 3} (omega arith) in omega arith

-- one length is one number in as many bytes
pub same_length : {n k m j : ℕ} → in_bytes n k ≡ in_bytes m j → (n ≡ m) × (k ≡ j)
same_length {n} {k} e =
    let l : Length = record { number = n; span = k } in
    (ap (λ (o : Option Length). (unwrap_or o l).number) e, ap (λ (o : Option Length). (unwrap_or o l).span) e)

-- the number m, in j bytes, where k bytes were read and w may follow
pub record Said (w k m j : ℕ) : Type 0 where
  pub fits : m < 128 ^ j
  pub past : k < j
  pub most : j ≤ k + w

pub said : (w n k : ℕ) (xs : List ℕ) (m j : ℕ) → n < 128 ^ k → length_from w n k xs ≡ in_bytes m j → Said w k m j
unfolding length_from
said zero n k xs m j h e = absurd (false≢true (ap is_some e))
said (suc w) n k [] m j h e = absurd (false≢true (ap is_some e))
said (suc w) n k (x ∷ xs) m j h e =
    ⊎_elim
    (λ t.
    let p : n * 128 + x ≡ m = (same_length t.1).0 in
    let r : k + 1 ≡ j = (same_length t.1).1 in
    record { fits = rw (sym p, sym r) (more_fits n k x h t.0); past = omega arith; most = omega (arith, add-one w) })
    (λ t.
    let s = said w (n * 128 + x % 128) (k + 1) xs m j (more_fits n k (x % 128) h (omega arith)) t.1 in
    record { fits = s.fits; past = omega arith; most = omega (arith, add-one w) })
    (lt_ways x 128 _ _ _ e)

-- the length at the front is l
pub says_fits : (xs : List ℕ) {l : Option Length} {m j : ℕ} → l ≡ length_at xs → l ≡ in_bytes m j → (m < 268435456) × (1 ≤ j) × (j ≤ 4)
unfolding length_at
says_fits xs {m = m} {j = j} e f =
    let s = said 4 0 0 xs m j (omega arith) (sym e ∙ f) in
    let l : 128 ^ j ≤ 128 ^ 4 = pow-le-pow_right {n = 128} (omega arith) {i = j} {j = 4} s.most in
    (omega arith, s.past, s.most)
