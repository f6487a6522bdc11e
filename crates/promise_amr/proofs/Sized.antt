-- The sizes in the `stsz` that frames make: as many as frames, each that of its frame, and so the frames before it. Assumes nothing.
use Prim.Native.Nat.{ℕ, zero, suc, ◌+◌, ◌*◌, ◌≤◌, ◌<◌}
use native.Mathlib.Omega.{arith}
use native.Mathlib.Nat.{zero-add}
use mathlib.Core.Path.{◌≡◌, refl, sym, ap, ◌∙◌}
use mathlib.Core.List.{List, [], ◌∷◌, ◌++◌, append_assoc, append-nil}
use lib.ListN.{length, get_or, take, drop, length-append}
use lib.Seq.{take-suc, split_at}
use Rattle.wire.specs.Tests.{if_eq, if_le}
use Rattle.wire.specs.Numbers.{bytes_on, bytes, word}
use Rattle.wire.specs.Sums.{sum_to}
use Rattle.wire.proofs.Numbers.{length_bytes_lem, word_bytes, word_left, word_right}
use Rattle.sample_tables.specs.Sizes.{common, sample_count, size_at, bytes_from}
use Rattle.frames.specs.Frames.{joined}
use Rattle.from_amr.specs.Fields.{fields}
use Rattle.from_amr.specs.Boxes.{sizes_of, stsz}

-- ---- frames joined

pub joined_append : (l m : List (List ℕ)) → joined (l ++ m) ≡ joined l ++ joined m
unfolding joined
joined_append [] m = refl
joined_append (f ∷ l) m = ap (λ (t : List ℕ). f ++ t) (joined_append l m) ∙ sym (append_assoc f (joined l) (joined m))

joined_one : (f : List ℕ) → joined (f ∷ []) ≡ f
unfolding joined
joined_one f = append-nil f

-- those up to frame j, and it
joined_suc : (l : List (List ℕ)) (j : ℕ) → j < length l → joined (take (suc j) l) ≡ joined (take j l) ++ get_or l j []
joined_suc l j h =
    ap joined (take-suc l j [] h) ∙ joined_append (take j l) (get_or l j [] ∷ []) ∙ ap (λ (t : List ℕ). joined (take j l) ++ t) (joined_one (get_or l j []))

-- those before frame j, it, and those after it
pub joined_split : (l : List (List ℕ)) (j : ℕ) → j < length l → joined l ≡ joined (take j l) ++ (get_or l j [] ++ joined (drop (suc j) l))
unfolding joined
joined_split l j h = ap joined (split_at l j [] h) ∙ joined_append (take j l) (get_or l j [] ∷ drop (suc j) l)

-- ---- the table

size_listed : (l : List (List ℕ)) (j : ℕ) → length (joined l) < 4294967296 → j < length l → word 4 (sizes_of l) (4 * j) ≡ length (get_or l j [])
unfolding sizes_of joined
size_listed [] j s h = absurd (omega arith)
size_listed (f ∷ l) zero s h = word_bytes 4 (length f) (sizes_of l) (omega (arith, length-append f (joined l)))
size_listed (f ∷ l) (suc j) s h =
    let e : 4 * suc j ≡ 4 + 4 * j = omega arith in
    ap (λ (n : ℕ). word 4 (bytes 4 (length f) ++ sizes_of l) n) e
    ∙ word_right 4 (bytes 4 (length f)) (sizes_of l) 4 (4 * j) (length_bytes_lem 4 (length f))
    ∙ size_listed l j (omega (arith, length-append f (joined l))) (omega arith)

module _ (l : List (List ℕ)) where
  abbrev before : List ℕ
  before = fields (4 ∷ 0 ∷ 4 ∷ 0 ∷ 4 ∷ length l ∷ [])

  length_before : length before ≡ 12
  unfolding fields bytes bytes_on
  length_before = refl

  -- the fields before the table
  in_before : (at : ℕ) → at + 4 ≤ 12 → word 4 (stsz l) at ≡ word 4 before at
  unfolding stsz
  in_before at h = word_left 4 before (sizes_of l) at (rw length_before h)

  zero_before : word 4 before 4 ≡ 0
  unfolding fields bytes bytes_on word if_le
  zero_before = refl

  count_before : length l < 4294967296 → word 4 before 8 ≡ length l
  unfolding fields bytes bytes_on word if_le
  count_before h = word_bytes 4 (length l) [] h

  pub no_common : common (stsz l) ≡ 0
  no_common = in_before 4 (omega arith) ∙ zero_before

  pub counts : length l < 4294967296 → sample_count (stsz l) ≡ length l
  counts h = in_before 8 (omega arith) ∙ count_before h

  in_table : (j : ℕ) → word 4 (stsz l) (12 + 4 * j) ≡ word 4 (sizes_of l) (4 * j)
  unfolding stsz
  in_table j = word_right 4 before (sizes_of l) 12 (4 * j) length_before

  module _ (s : length (joined l) < 4294967296) where
    pub size_is : (j : ℕ) → j < length l → size_at (stsz l) j ≡ length (get_or l j [])
    unfolding size_at if_eq
    size_is j h = rw no_common (in_table j ∙ size_listed l j s h)

    -- the bytes of the first n frames
    pub sizes_sum : (n : ℕ) → n ≤ length l → bytes_from (stsz l) 0 n ≡ length (joined (take n l))
    unfolding bytes_from sum_to joined
    sizes_sum zero h = refl
    sizes_sum (suc n) h =
        rw (sizes_sum n (omega arith), zero-add n, size_is n (omega arith), joined_suc l n (omega arith))
        (sym (length-append (joined (take n l)) (get_or l n [])))
