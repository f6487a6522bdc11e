-- Laws of rewriting numbers. Assumes nothing.
use Prim.Native.Nat.{ℕ, suc, ◌+◌, ◌-◌, ◌≤◌, ◌<◌, min}
use native.Mathlib.Omega.{arith}
use mathlib.Core.Path.{◌≡◌, refl, sym, ap, ◌∙◌}
use mathlib.Core.Bool.{Bool, true, false}
use mathlib.Core.List.{List, [], ◌∷◌, ◌++◌, append_assoc, append-nil}
use lib.Dec.{eqb}
use lib.ListN.{length, take, drop, length-append, length-drop, length-take, take-append-drop, drop_of_length-le}
use lib.Seq.{drop-drop, take_all, take-nil}
use borrow.Rule.Slice.PartMut.{put_mid, mid_of}
use Rattle.wire.specs.Tests.{pick, if_eq}
use Rattle.wire.specs.Numbers.{Bytes, bytes, word}
use Rattle.wire.specs.Writing.{put}
use Rattle.wire.proofs.Lists.{take_min, drop_min}
use Rattle.wire.proofs.Tests.{eq_yea, eq_nay, lt_yea, lt_nay}
use Rattle.wire.proofs.Numbers.{length_bytes_lem, bytes_bytes, bytes_append, bytes_take, bytes_drop, word_left, word_drop}
use Rattle.wire.proofs.Writing.{length_put, take_put, drop_put}
use Rattle.boxes.specs.declared.words.By.{By}
use Rattle.boxes.specs.declared.words.Target.{Target}
use Rattle.boxes.specs.Words.{each_word, reword, reword_leaf, moved, Worded}

pub moved_low : (by : By) (o : ℕ) {r : ℕ} → o < by.limit → r ≡ o + by.low → r ≡ moved by o
unfolding moved
moved_low by o h e = lt_yea _ _ _ _ _ h e

pub moved_high : (by : By) (o : ℕ) {r : ℕ} → by.limit ≤ o → r ≡ o + by.high - by.less → r ≡ moved by o
unfolding moved
moved_high by o h e = lt_nay _ _ _ _ _ h e

-- ---- each number of a list

module _ (f : ℕ → ℕ) where
  pub word_next : (xs : List ℕ) → 4 ≤ length xs → each_word f xs ≡ bytes 4 (f (word 4 xs 0)) ++ each_word f (drop 4 xs)
  unfolding each_word
  word_next [] h = absurd (omega arith)
  word_next (a ∷ []) h = absurd (omega arith)
  word_next (a ∷ b ∷ []) h = absurd (omega arith)
  word_next (a ∷ b ∷ c ∷ []) h = absurd (omega arith)
  word_next (a ∷ b ∷ c ∷ d ∷ xs) h = rw (word_left 4 (a ∷ b ∷ c ∷ d ∷ []) xs 0 (omega arith))

  pub word_stop : (xs : List ℕ) → length xs < 4 → each_word f xs ≡ xs
  unfolding each_word
  word_stop [] h = refl
  word_stop (a ∷ []) h = refl
  word_stop (a ∷ b ∷ []) h = refl
  word_stop (a ∷ b ∷ c ∷ []) h = refl
  word_stop (a ∷ b ∷ c ∷ d ∷ xs) h = absurd (omega arith)

  pub each_length : (xs : List ℕ) → length (each_word f xs) ≡ length xs
  unfolding each_word
  each_length [] = refl
  each_length (a ∷ []) = refl
  each_length (a ∷ b ∷ []) = refl
  each_length (a ∷ b ∷ c ∷ []) = refl
  each_length (a ∷ b ∷ c ∷ d ∷ xs) = rw (length-append, length_bytes_lem, each_length xs) (omega arith)

  pub each_bytes : (xs : List ℕ) → Bytes xs → Bytes (each_word f xs)
  unfolding each_word
  each_bytes [] w = w
  each_bytes (a ∷ []) w = w
  each_bytes (a ∷ b ∷ []) w = w
  each_bytes (a ∷ b ∷ c ∷ []) w = w
  each_bytes (a ∷ b ∷ c ∷ d ∷ xs) w =
      bytes_append (bytes 4 (f (word 4 (a ∷ b ∷ c ∷ d ∷ []) 0))) (each_word f xs) (bytes_bytes 4 (f (word 4 (a ∷ b ∷ c ∷ d ∷ []) 0))) (each_bytes xs (λ i. w (suc (suc (suc (suc i))))))

  -- ---- the loop over a table

  pub worded_none : (xs : List ℕ) → Worded f xs xs 0
  worded_none xs = record { inside = omega arith; same = refl; left = refl }

  module _ {xs₀ xs : List ℕ} {at : ℕ} (i : Worded f xs₀ xs at) where
    pub worded_last : length xs < at + 4 → xs ≡ each_word f xs₀
    worded_last h = sym (i.left ∙ rw (word_stop (drop at xs) (rw length-drop (omega (arith, i.inside)))) (take-append-drop at xs))

    pub worded_more : {w : ℕ} {ys : List ℕ} → w ≡ f (word 4 xs at) → ys ≡ put xs at (bytes 4 w) → at + 4 ≤ length xs → Worded f xs₀ ys (at + 4)
    worded_more {w} {ys} e q h =
        let l = length_bytes_lem 4 w in
        let z : word 4 (drop at xs) 0 ≡ word 4 xs at = word_drop 4 at xs 0 ∙ ap (word 4 xs) (omega arith) in
        let n : length ys ≡ length xs = ap length q ∙ length_put xs at (bytes 4 w) (omega arith) in
        let t : take (at + 4) ys ≡ take at xs ++ bytes 4 w = rw q (rw l at (take_put xs at (bytes 4 w) (omega arith))) in
        let d : drop (at + 4) ys ≡ drop (at + 4) xs = rw q (rw l at (drop_put xs at (bytes 4 w) (omega arith))) in
        record {
          inside = rw n h;
          same = n ∙ i.same;
          left = rw (t, d, e, append_assoc) (i.left ∙ ap (λ (t : List ℕ). take at xs ++ t) (word_next (drop at xs) (rw length-drop (omega arith)) ∙ rw (z, drop-drop 4 at xs)));
        }

  -- ---- a stretch of a body

  module _ (from span : ℕ) (b : List ℕ) where
    pub reword_length : length (reword f from span b) ≡ length b
    unfolding reword
    reword_length = rw (length-append, length-append, each_length, length-take, length-take, length-drop, length-drop) (omega arith)

    pub reword_bytes : Bytes b → Bytes (reword f from span b)
    unfolding reword
    reword_bytes w =
        bytes_append (take from b) _ (bytes_take from b w) (bytes_append (each_word f (take span (drop from b))) _ (each_bytes (take span (drop from b)) (bytes_take span (drop from b) (bytes_drop from b w))) (bytes_drop (from + span) b w))

    -- nothing lies past the end
    pub reword_past : length b ≤ from → b ≡ reword f from span b
    unfolding reword each_word
    reword_past h =
        let d : drop (from + span) b ≡ [] = drop_of_length-le b {i = from + span} (omega arith) in
        let e : drop from b ≡ [] = drop_of_length-le b {i = from} h in
        rw (d, e, take-nil span, append-nil) (sym (take_all from b h))

    -- as far as the body goes
    pub reword_put : {to : ℕ} {ys : List ℕ} → to ≡ from + min span (length b - from) → from < length b → ys ≡ each_word f (mid_of from (to - from) b) → put_mid from (to - from) b ys ≡ reword f from span b
    unfolding reword
    reword_put {to} {ys} e h q =
        let n : to - from ≡ min span (length (drop from b)) = rw length-drop (omega arith) in
        rw (n, drop_min span (drop from b), drop-drop span from b, q) (rw (n, take_min span (drop from b)))

-- ---- an opaque box

module _ (t : Target) (f : ℕ → ℕ) (k c : ℕ) (b : List ℕ) where
  pub leaf_hit : {ys : List ℕ} → k ≡ t.kind → c ≡ t.code → ys ≡ reword f t.from t.span b → ys ≡ reword_leaf t f k c b
  unfolding reword_leaf
  leaf_hit h g q = eq_yea _ _ _ _ _ h (eq_yea _ _ _ _ _ g q)

  pub leaf_code : k ≡ t.kind → (c ≡ t.code → ⊥) → b ≡ reword_leaf t f k c b
  unfolding reword_leaf
  leaf_code h g = eq_yea _ _ _ _ _ h (eq_nay _ _ _ _ _ g refl)

  pub leaf_kind : (k ≡ t.kind → ⊥) → b ≡ reword_leaf t f k c b
  unfolding reword_leaf
  leaf_kind h = eq_nay _ _ _ _ _ h refl

  leaf_by : (P : List ℕ → Type 0) → P b → P (reword f t.from t.span b) → P (reword_leaf t f k c b)
  unfolding reword_leaf if_eq
  leaf_by P p q = by (eqb k t.kind) (eqb c t.code)
    where
      by : (s u : Bool) → P (pick s (pick u (reword f t.from t.span b) b) b)
      by true true = q
      by true false = p
      by false u = p

  pub leaf_length : length (reword_leaf t f k c b) ≡ length b
  leaf_length = leaf_by (λ ys. length ys ≡ length b) refl (reword_length f t.from t.span b)

  pub leaf_bytes : Bytes b → Bytes (reword_leaf t f k c b)
  leaf_bytes w = leaf_by Bytes w (reword_bytes f t.from t.span b w)
