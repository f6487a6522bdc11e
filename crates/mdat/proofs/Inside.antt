-- Bytes that lie inside a payload, by the first box and past it, and that rule 8 and relocation mean the same by it. Assumes nothing.
use Prim.Native.Nat.{ℕ, ◌+◌, ◌-◌, ◌≤◌, ◌<◌}
use native.Mathlib.Omega.{arith}
use mathlib.Core.Path.{◌≡◌, refl, sym, ap, ◌∙◌}
use mathlib.Core.Bool.{Bool, true, false}
use mathlib.Core.List.{List, [], ◌∷◌}
use lib.ListN.{length}
use Rattle.wire.specs.Tests.{pick}
use Rattle.wire.specs.Clauses.{is_eq, is_le, every}
use Rattle.codes.specs.Codes.{MDAT}
use Rattle.wire.proofs.Clauses.{is_eq_lem, not_eq, is_le_lem, not_le, fails, done, holds as and}
use Rattle.wire.proofs.Tests.{lt_or}
use Rattle.boxes.specs.Box.{Box, head, size}
use Rattle.boxes.proofs.Whole.{head_least}
use Rattle.mdat.specs.Payloads.{mdats, Spot, nowhere, spot, past, resolve, fits, in_at}
use Rattle.mdat.specs.Rules.{lies}
use Rattle.mdat.proofs.Payloads.{mdat_or, resolve_here, resolve_past, mdats_hit, within_hit, within_low, within_miss, past_nowhere}
use Rattle.mdat.proofs.Behind.{behind_some}

-- the n bytes from place o on lie in the payload of a box, by its code, its payload's place and its end
abbrev pub held : (code start end o n : ℕ) → Bool
held code start end o n = every (is_eq code MDAT ∷ is_le start o ∷ is_le (o + n) end ∷ [])

-- a box further on has them so much further on
held_shift : (p code start end o n : ℕ) → held code (p + start) (p + end) (p + o) n ≡ held code start end o n
held_shift p code start end o n = rw (le_shift start o, same) refl
  where
    le_shift : (a b : ℕ) → is_le (p + a) (p + b) ≡ is_le a b
    le_shift a b = lt_or b a (λ k. not_le _ _ (omega arith) ∙ sym (not_le _ _ k)) (λ k. is_le_lem _ _ (omega arith) ∙ sym (is_le_lem _ _ k))

    same : is_le (p + o + n) (p + end) ≡ is_le (o + n) end
    same = let e : p + o + n ≡ p + (o + n) = omega arith in rw e (le_shift (o + n) end)

-- ---- over a list of boxes from place p on

-- a box that hasn't them is passed over
passed : (ts : List Bool) (t : Bool) → false ≡ every ts → pick (every ts) true t ≡ t
passed ts t e = rw (← e)

-- no box has what stands before it
pub lies_before : (l : List Box) (p o n : ℕ) → o ≤ p → lies l p o n ≡ false
unfolding lies
lies_before [] p o n h = refl
lies_before (x ∷ l) p o n h = passed _ _ (fails 1 _ (not_le _ _ (omega (arith, head_least x.form)))) ∙ lies_before l (p + size x) o n (omega arith)

module _ (x : Box) (l : List Box) (p o n : ℕ) where
  -- up to its end the first box decides
  pub lies_here : o ≤ p + size x → lies (x ∷ l) p o n ≡ held x.code (p + head x) (p + size x) o n
  unfolding lies
  lies_here h = rw (lies_before l (p + size x) o n h) (go (held x.code (p + head x) (p + size x) o n))
    where
      go : (t : Bool) → pick t true false ≡ t
      go true = refl
      go false = refl

  -- past it the others
  pub lies_past : p + size x < o → lies (x ∷ l) p o n ≡ lies l (p + size x) o n
  unfolding lies
  lies_past h = passed _ _ (fails 2 _ (not_le _ _ (omega arith)))

-- ---- as relocation finds it

module _ (x : Box) (l : List Box) (o n : ℕ) where
  hit : x.code ≡ MDAT → head x ≤ o → is_le (o - head x + n) (length x.body) ≡ held x.code (head x) (size x) o n
  hit c k =
      lt_or (size x) (o + n)
      (λ e. not_le _ _ (omega arith) ∙ fails 2 _ (not_le _ _ e))
      (λ e. is_le_lem _ _ (omega arith) ∙ and _ _ (is_eq_lem _ _ c) (and _ _ (is_le_lem _ _ k) (and _ _ (is_le_lem _ _ e) done)))

  -- in the first box
  in_here : o ≤ size x → in_at (x ∷ l) o n ≡ held x.code (head x) (size x) o n
  unfolding in_at
  in_here h =
      rw (resolve_here x l o h) (mdat_or x
      (λ c. lt_or o (head x) (λ k. rw (within_low x c o k) (fails 1 _ (not_le _ _ k))) (λ k. rw (within_hit x c o k, mdats_hit x c l) (hit c k)))
      (λ c. rw (within_miss x c o) (fails 0 _ (not_eq _ _ c))))

  -- past it
  in_past : size x < o → in_at (x ∷ l) o n ≡ in_at l (o - size x) n
  unfolding in_at
  in_past h = rw (resolve_past x l o h) (go (resolve l (o - size x)))
    where
      go : (s : Spot) → fits (mdats (x ∷ l)) n (past x s) ≡ fits (mdats l) n s
      go nowhere = rw (past_nowhere x)
      go (spot j i) = behind_some x j (λ k b. rw (b.spots i, b.body l))

lies_from : (l : List Box) (p o n : ℕ) → lies l p (p + o) n ≡ in_at l o n
unfolding lies in_at resolve
lies_from [] p o n = refl
lies_from (x ∷ l) p o n =
    lt_or (size x) o
    (λ k. let e : p + o ≡ p + size x + (o - size x) = omega arith in
    lies_past x l p (p + o) n (omega arith) ∙ ap (λ (q : ℕ). lies l (p + size x) q n) e ∙ lies_from l (p + size x) (o - size x) n ∙ sym (in_past x l o n k))
    (λ k. lies_here x l p (p + o) n (omega arith) ∙ held_shift p x.code (head x) (size x) o n ∙ sym (in_here x l o n k))

-- rule 8 holds of a place exactly where it resolves and fits
pub lies_at : (l : List Box) (o n : ℕ) → lies l 0 o n ≡ in_at l o n
lies_at l o n = let z : o ≡ 0 + o = omega arith in ap (λ (q : ℕ). lies l 0 q n) z ∙ lies_from l 0 o n
