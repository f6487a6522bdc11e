-- An entry keeps its rule when its decoder record is replaced by another that meets the record's rule. Assumes nothing.
use Prim.Native.Nat.{ℕ, ◌+◌, ◌-◌, ◌≤◌, ◌<◌}
use native.Mathlib.Omega.{arith}
use mathlib.Core.Path.{◌≡◌, ap, ◌∙◌}
use mathlib.Core.List.{List, ◌++◌, append_assoc}
use lib.ListN.{length, take, drop, length-append, length-drop}
use lib.Seq.{drop_at, length-take-le}
use Rattle.wire.specs.Numbers.{bytes, word}
use Rattle.wire.proofs.Numbers.{length_bytes_lem, word_bytes, word_drop, word_left, word_right, word_take}
use Rattle.entry_rules.specs.Entries.{behind_head}

module _ (head : ℕ) (xs ys : List ℕ) (h : 4 ≤ head) (l : head ≤ length xs) (s : head + length ys < 4294967296) where
  front : List ℕ
  front = bytes 4 (head + length ys) ++ drop 4 (take head xs)

  rest_length : length (drop 4 (take head xs)) ≡ head - 4
  rest_length = rw (length-drop, length-take-le head xs l)

  front_length : length front ≡ head
  unfolding front
  front_length = rw (length-append, length_bytes_lem, rest_length) (omega arith)

  pub new_length : length (behind_head head xs ys) ≡ head + length ys
  unfolding behind_head front
  new_length = length-append front ys ∙ ap (λ (n : ℕ). n + length ys) front_length

  pub new_rest : drop head (behind_head head xs ys) ≡ ys
  unfolding behind_head front
  new_rest = drop_at front ys head front_length

  pub new_size : word 4 (behind_head head xs ys) 0 ≡ head + length ys
  unfolding behind_head
  new_size = rw append_assoc (word_bytes 4 (head + length ys) (drop 4 (take head xs) ++ ys) s)

  -- what stands behind the size in the head stays
  pub new_word : (w k : ℕ) → 4 + k + w ≤ head → word w (behind_head head xs ys) (4 + k) ≡ word w xs (4 + k)
  unfolding behind_head
  new_word w k m =
      let n = rest_length in
      rw append_assoc
      (word_right w (bytes 4 (head + length ys)) (drop 4 (take head xs) ++ ys) 4 k (length_bytes_lem 4 (head + length ys))
      ∙ word_left w (drop 4 (take head xs)) ys k (omega arith) ∙ word_drop w 4 (take head xs) k ∙ word_take w head xs (4 + k) m l)
