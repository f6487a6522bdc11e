-- Laws of numbers of any width: written, and told from other bytes. Assumes nothing.
use Prim.Native.Nat.{ℕ, suc, ◌+◌, ◌-◌, ◌/◌, ◌%◌, ◌≤◌, ◌<◌}
use native.Mathlib.Omega.{arith}
use mathlib.Core.Path.{◌≡◌, refl, sym, ◌∙◌}
use mathlib.Core.List.{List, [], ◌∷◌, ◌++◌}
use lib.ListN.{length, take}
use lib.Seq.{take-add}
use Rattle.wire.specs.Numbers.{Bytes, bytes_on, bytes, word}
use Rattle.wire.specs.Writing.{put, Put}
use Rattle.wire.proofs.Numbers.{length_bytes_lem, bytes_word}
use Rattle.wire.proofs.Writing.{put_none, put_before}

-- a number on its way from the last byte to the first: those from i on are put, and the i before them are the last of m
pub record Behind (out : List ℕ) (at width n : ℕ) (mid : List ℕ) (i m : ℕ) : Type 0 where
  pub tail : List ℕ
  pub long : i + length tail ≡ width
  pub left : bytes_on i m tail ≡ bytes width n
  pub same : length mid ≡ length out
  pub is : at + width ≤ length out → mid ≡ put out (at + i) tail

pub behind_none : (out : List ℕ) (at width n : ℕ) → Behind out at width n out width n
unfolding bytes
behind_none out at width n = record { tail = []; long = omega arith; left = refl; same = refl; is = λ h. sym (put_none out (at + width)) }

module _ {out : List ℕ} {at width n : ℕ} {mid : List ℕ} {i m : ℕ} (b : Behind out at width n mid i m) where
  -- one byte more
  pub behind_more : {r : ℕ} {after : List ℕ} → 0 < i → Put (m % 256 ∷ []) mid (at + (i - 1)) r after → Behind out at width n after (i - 1) (m / 256)
  unfolding bytes_on
  behind_more h p =
      let s : suc (i - 1) ≡ i = omega arith in
      let e : at + (i - 1) + 1 ≡ at + i = omega arith in
      record {
        tail = m % 256 ∷ b.tail;
        long = omega (arith, b.long);
        left = rw (← s) at b.left;
        same = p.same ∙ b.same;
        is = λ k. p.is (omega (arith, p.next, b.same)) ∙ rw (b.is k, ← e) (put_before out (at + (i - 1)) (m % 256 ∷ []) b.tail (omega (arith, b.long)));
      }

  pub behind_all : i ≡ 0 → Put (bytes width n) out at (at + width) mid
  unfolding bytes_on
  behind_all e =
      let l : length (bytes width n) ≡ width = length_bytes_lem width n in
      let t : b.tail ≡ bytes width n = rw e at b.left in
      let z : at + i ≡ at = omega arith in
      record { next = omega arith; same = b.same; is = λ k. rw (z, t) at (b.is k) }

-- the front of a part, one number longer
pub grow : (xs : List ℕ) → Bytes xs → {p : List ℕ} (at w n : ℕ) → at + w ≤ length xs → word w xs at ≡ n → take at xs ≡ p → take (at + w) xs ≡ p ++ bytes w n
grow xs b at w n h e t = take-add at w xs ∙ rw (t, ← bytes_word w xs at b h, e)
