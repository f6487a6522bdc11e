-- Where a search may start: from every start it finds what a search from the front finds. Assumes nothing.
use Prim.Native.Nat.{ℕ, zero, suc, ◌+◌, ◌-◌, ◌≤◌, ◌<◌}
use native.Mathlib.Omega.{arith}
use mathlib.Core.Path.{◌≡◌, refl, sym, ap, ◌∙◌}
use mathlib.Core.List.{List, [], ◌∷◌, ◌++◌, append_assoc}
use lib.ListN.{drop}
use Rattle.boxes.specs.Box.{Box, size}
use Rattle.boxes.specs.Boxes.{boxes, total}
use Rattle.boxes.specs.Walk.{box_at, Ran}
use Rattle.boxes.specs.declared.walk.Walk.{Walk}
use Rattle.boxes.specs.declared.walk.BoxAt.{BoxAt}
use Rattle.boxes.proofs.Seeking.{ran_size}
use Rattle.mdat.specs.Rules.{lies}
use Rattle.mdat.specs.Search.{Start}
use Rattle.mdat.proofs.Inside.{lies_before, lies_past}

total_append : (l m : List Box) → total (l ++ m) ≡ total l + total m
unfolding total
total_append [] m = omega arith
total_append (x ∷ l) m = let e = total_append l m in omega (arith, e)

-- the front is a start for every place
pub start_front : (xs : List ℕ) (o : ℕ) → Start xs o 0
unfolding total
start_front xs o = record { front = []; list = refl; long = refl; before = omega arith }

-- and a start is one for every place past it
pub start_for : {xs : List ℕ} {o p : ℕ} → Start xs o p → (q : ℕ) → p ≤ q - 1 → Start xs q p
start_for s q h = record { front = s.front; list = s.list; long = s.long; before = h }

-- from a box to the next one
module _ {xs : List ℕ} {o at : ℕ} {b : BoxAt} {w : Walk} (s : Start xs o at) (r : Ran xs at b w) where
  pub start_next : Start xs (w.at + 1) w.at
  unfolding total
  start_next =
      record {
        front = s.front ++ box_at xs b ∷ [];
        list = s.list ∙ rw r.list (sym (append_assoc s.front (box_at xs b ∷ []) (boxes (drop w.at xs))));
        long = total_append s.front (box_at xs b ∷ []) ∙ omega (arith, s.long, ran_size r, r.next);
        before = omega arith;
      }

  -- where it ends before place q
  pub start_past : {q end : ℕ} → end ≡ b.at + b.span → end < q → Start xs q end
  start_past {q} {end} e h = let f : w.at ≡ end = omega (arith, r.next, r.start) in start_for (rw f at start_next) q (omega arith)

-- boxes that end before place o don't have it
lies_behind : (front l : List Box) (p o n : ℕ) → p + total front < o → lies (front ++ l) p o n ≡ lies l (p + total front) o n
unfolding total
lies_behind [] l p o n h = ap (λ (q : ℕ). lies l q o n) (omega arith)
lies_behind (x ∷ front) l p o n h =
    lies_past x (front ++ l) p o n (omega arith)
    ∙ lies_behind front l (p + size x) o n (omega arith)
    ∙ ap (λ (q : ℕ). lies l q o n) (omega arith)

-- a search from a start finds what one from the front finds
pub start_lies : (xs : List ℕ) (o p n : ℕ) → Start xs o p → lies (boxes xs) 0 o n ≡ lies (boxes (drop p xs)) p o n
start_lies xs zero p n s = lies_before (boxes xs) 0 0 n (omega arith) ∙ sym (lies_before (boxes (drop p xs)) p 0 n (omega arith))
start_lies xs (suc o) p n s =
    let e : 0 + total s.front ≡ p = omega (arith, s.long) in
    rw s.list (lies_behind s.front (boxes (drop p xs)) 0 (suc o) n (omega (arith, s.before, s.long))
    ∙ ap (λ (q : ℕ). lies (boxes (drop p xs)) q (suc o) n) e)
