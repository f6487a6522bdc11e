-- Two functions that agree on every chunk offset give the same edit. Assumes nothing.
use Prim.Native.Nat.{ℕ, suc, ◌+◌, ◌-◌, ◌*◌, ◌/◌, ◌≤◌, ◌<◌}
use native.Mathlib.Omega.{arith}
use mathlib.Core.Path.{◌≡◌, refl, sym, ap, ◌∙◌}
use mathlib.Core.Bool.{Bool, true, false}
use mathlib.Core.List.{List, [], ◌∷◌}
use lib.Dec.{eqb}
use lib.ListN.{length, take, drop, length-drop, length-take, take-append-drop}
use Rattle.wire.specs.Tests.{pick, if_eq}
use Rattle.wire.specs.Numbers.{word}
use Rattle.wire.specs.Sums.{all_to}
use Rattle.wire.specs.Clauses.{is_eq}
use Rattle.codes.specs.Codes.{STBL, STCO}
use Rattle.wire.proofs.Clauses.{eq_is}
use Rattle.wire.proofs.Sums.{all_at}
use Rattle.wire.proofs.Numbers.{word_left, word_drop}
use Rattle.boxes.specs.Words.{each_word, reword, reword_leaf}
use Rattle.boxes.specs.Rewrite.{edit_in}
use Rattle.boxes.specs.Containers.{LONGEST}
use Rattle.sample_tables.specs.Chunks.{offset_at}
use Rattle.rule.specs.Rule.{Rule, all_in}
use Rattle.edit_offsets.specs.Settle.{offsets}
use Rattle.edit_offsets.proofs.Agreeing.{edit_agree}

-- ---- the rule: f and g agree on each number of every table of chunk offsets, as many as fit behind its first 8 bytes

unfoldable pub agree_on : (f g : ℕ → ℕ) → List ℕ → Bool
agree_on f g b = all_to (λ i. is_eq (f (offset_at b i)) (g (offset_at b i))) ((length b - 8) / 4)

unfoldable pub agree_in : (f g : ℕ → ℕ) → ℕ → ℕ → List ℕ → Bool
agree_in f g k c b = if_eq k STBL (if_eq c STCO (agree_on f g b) true) true

abbrev pub agree : (f g : ℕ → ℕ) → Rule
agree f g = record { leaf = agree_in f g; node = λ k xs. true; end = λ xs. true }

-- ---- the numbers of a list

module _ (f g : ℕ → ℕ) where
  each_agree : (xs : List ℕ) → ((i : ℕ) → 4 * i + 4 ≤ length xs → f (word 4 xs (4 * i)) ≡ g (word 4 xs (4 * i))) → each_word f xs ≡ each_word g xs
  unfolding each_word
  each_agree [] h = refl
  each_agree (a ∷ []) h = refl
  each_agree (a ∷ b ∷ []) h = refl
  each_agree (a ∷ b ∷ c ∷ []) h = refl
  each_agree (a ∷ b ∷ c ∷ d ∷ xs) h =
      let l = word_left 4 (a ∷ b ∷ c ∷ d ∷ []) xs 0 (omega arith) in
      let e : f (word 4 (a ∷ b ∷ c ∷ d ∷ []) 0) ≡ g (word 4 (a ∷ b ∷ c ∷ d ∷ []) 0) = rw l at (h 0 (omega arith)) in
      let n : (i : ℕ) → word 4 xs (4 * i) ≡ word 4 (a ∷ b ∷ c ∷ d ∷ xs) (4 * suc i) = λ i. word_drop 4 4 (a ∷ b ∷ c ∷ d ∷ xs) (4 * i) ∙ ap (word 4 (a ∷ b ∷ c ∷ d ∷ xs)) (omega arith) in
      rw (e, each_agree xs (λ i k. rw (n i) (h (suc i) (omega arith))))

  -- ---- a table

  module _ (span : ℕ) (b : List ℕ) (q : agree_on f g b ≡ true) where
    at_offset : (i : ℕ) → i < (length b - 8) / 4 → f (offset_at b i) ≡ g (offset_at b i)
    unfolding agree_on
    at_offset i h = eq_is _ _ (all_at _ _ q i h)

    -- a number of the stretch is one of the table
    in_stretch : (i : ℕ) → 4 * i + 4 ≤ length (take span (drop 8 b)) → word 4 (take span (drop 8 b)) (4 * i) ≡ offset_at b i
    in_stretch i h = sym (word_left 4 (take span (drop 8 b)) (drop span (drop 8 b)) (4 * i) h) ∙ ap (λ (xs : List ℕ). word 4 xs (4 * i)) (take-append-drop span (drop 8 b)) ∙ word_drop 4 8 b (4 * i)

    reword_agree : reword f 8 span b ≡ reword g 8 span b
    unfolding reword
    reword_agree =
        let e = each_agree (take span (drop 8 b)) (λ i h. rw (in_stretch i h) (at_offset i (omega (arith, length-take span (drop 8 b), length-drop 8 b)))) in
        rw e

  -- ---- a file

  leaf_agree : (k c : ℕ) (b : List ℕ) → agree_in f g k c b ≡ true → reword_leaf offsets f k c b ≡ reword_leaf offsets g k c b
  unfolding agree_in reword_leaf if_eq
  leaf_agree k c b = go (eqb k STBL) (eqb c STCO)
    where
      go : (s t : Bool) → pick s (pick t (agree_on f g b) true) true ≡ true → pick s (pick t (reword f 8 LONGEST b) b) b ≡ pick s (pick t (reword g 8 LONGEST b) b) b
      go true true q = reword_agree LONGEST b q
      go true false q = refl
      go false t q = refl

  pub settle_agree : (d k : ℕ) (zs : List ℕ) → all_in (agree f g) d k zs ≡ true → edit_in (reword_leaf offsets f) d k zs ≡ edit_in (reword_leaf offsets g) d k zs
  settle_agree = edit_agree (agree f g) (reword_leaf offsets f) (reword_leaf offsets g) leaf_agree
