-- A table of chunk offsets with its numbers rewritten. Assumes nothing.
use Prim.Native.Nat.{ℕ, zero, suc, ◌+◌, ◌*◌, ◌≤◌, ◌<◌}
use native.Mathlib.Omega.{arith}
use native.Mathlib.Nat.{mul-le-mul_left}
use mathlib.Core.Path.{◌≡◌, sym, ap, ◌∙◌}
use mathlib.Core.List.{List, [], ◌++◌, append-nil}
use lib.ListN.{length, take, drop, length-drop, take-append-drop, drop_of_length-le}
use lib.Seq.{take_all, length-take-le}
use Rattle.wire.specs.Numbers.{bytes, word}
use Rattle.wire.proofs.Numbers.{length_bytes_lem, word_bytes, word_drop, word_left, word_right}
use Rattle.boxes.specs.Box.{Box}
use Rattle.boxes.specs.Words.{each_word, reword}
use Rattle.boxes.proofs.Wording.{word_next}
use Rattle.sample_tables.specs.Tables.{items, Table}
use Rattle.sample_tables.specs.Chunks.{offset_at}
use Rattle.mdat.specs.Relocate.{relocate, Relocated}

-- number k of a list, rewritten
pub each_at : (f : ℕ → ℕ) (k : ℕ) (xs : List ℕ) → 4 * k + 4 ≤ length xs → f (word 4 xs (4 * k)) < 4294967296 → word 4 (each_word f xs) (4 * k) ≡ f (word 4 xs (4 * k))
each_at f zero xs h b = rw (word_next f xs (omega arith)) (word_bytes 4 (f (word 4 xs 0)) (each_word f (drop 4 xs)) b)
each_at f (suc k) xs h b =
    let n : 4 * suc k ≡ 4 + 4 * k = omega arith in
    let d : word 4 (drop 4 xs) (4 * k) ≡ word 4 xs (4 * suc k) = word_drop 4 4 xs (4 * k) ∙ ap (word 4 xs) (sym n) in
    rw (word_next f xs (omega arith), n) (word_right 4 (bytes 4 (f (word 4 xs 0))) (each_word f (drop 4 xs)) 4 (4 * k) (length_bytes_lem 4 (f (word 4 xs 0)))
    ∙ each_at f k (drop 4 xs) (rw length-drop (omega arith)) (rw d b) ∙ ap f (d ∙ ap (word 4 xs) n))

-- all numbers of a table by f
module _ (f : ℕ → ℕ) (stco : List ℕ) (span : ℕ) (t : Table 4 stco) (r : length stco ≤ 8 + span) where
  front : length (take 8 stco) ≡ 8
  front = length-take-le 8 stco (omega (arith, t.long))

  reword_all : reword f 8 span stco ≡ take 8 stco ++ each_word f (drop 8 stco)
  unfolding reword
  reword_all =
      let e : take span (drop 8 stco) ≡ drop 8 stco = take_all span (drop 8 stco) (rw length-drop (omega arith)) in
      let d : drop (8 + span) stco ≡ [] = drop_of_length-le stco {i = 8 + span} r in
      rw (e, d, append-nil)

  pub reword_count : items (reword f 8 span stco) ≡ items stco
  reword_count =
      rw (reword_all, word_left 4 (take 8 stco) (each_word f (drop 8 stco)) 4 (omega (arith, front)))
      (sym (word_left 4 (take 8 stco) (drop 8 stco) 4 (omega (arith, front))) ∙ ap (λ (xs : List ℕ). word 4 xs 4) (take-append-drop 8 stco))

  pub reword_offset : (k : ℕ) → k < items stco → f (offset_at stco k) < 4294967296 → offset_at (reword f 8 span stco) k ≡ f (offset_at stco k)
  reword_offset k h b =
      let m : 4 * (k + 1) ≤ 4 * items stco = mul-le-mul_left 4 (omega arith) in
      let d : word 4 (drop 8 stco) (4 * k) ≡ offset_at stco k = word_drop 4 8 stco (4 * k) in
      rw reword_all (word_right 4 (take 8 stco) (each_word f (drop 8 stco)) 8 (4 * k) front
      ∙ each_at f k (drop 8 stco) (rw length-drop (omega (arith, t.long))) (rw d b) ∙ ap f d)

  -- f moves each of its offsets as relocation does
  pub relocated_reword : (l m : List Box) → ((k : ℕ) → k < items stco → f (offset_at stco k) ≡ relocate l m (offset_at stco k))
      → ((k : ℕ) → k < items stco → relocate l m (offset_at stco k) < 4294967296) → Relocated l m stco (reword f 8 span stco)
  relocated_reword l m e b = record { same = reword_count; offsets = λ k h. reword_offset k h (rw (e k h) (b k h)) ∙ e k h }
