-- The boxes of a part, with no fuel in sight: a part is its boxes, written, and then what is past them. Assumes nothing.
use Prim.Native.Nat.{ℕ, zero, suc, ◌+◌, ◌-◌, ◌≤◌}
use native.Mathlib.Omega.{arith}
use mathlib.Core.Path.{◌≡◌, refl, sym, ap, ◌∙◌}
use mathlib.Core.Bool.{Bool, true, false}
use mathlib.Core.List.{List, [], ◌∷◌, ◌++◌, append_assoc}
use lib.ListN.{length, drop, length-append, length-drop}
use lib.Seq.{drop-drop, drop-length}
use Rattle.wire.specs.Tests.{pick}
use Rattle.wire.specs.Numbers.{Bytes}
use Rattle.wire.proofs.Numbers.{bytes_drop, bytes_take, word_fits}
use Rattle.boxes.specs.declared.walk.Form.{Form}
use Rattle.boxes.specs.declared.walk.Form.TheVariants.{Open}
use Rattle.boxes.specs.Box.{Box, head, header, write}
use Rattle.boxes.specs.Boxes.{form_of, size_by, head_front, size_of, whole, front_box, boxes_by, boxes, total, after}
use Rattle.boxes.proofs.Whole.{whole_least, short_not, length_header, size_front, rebox, Good}

-- ---- the bytes of boxes

pub write_cons : (x : Box) (l : List Box) (r : List ℕ) → write (x ∷ l) ++ r ≡ header x ++ (x.body ++ (write l ++ r))
unfolding write
write_cons x l r = rw (append_assoc, append_assoc)

pub length_cons : (x : Box) (l : List Box) → length (write (x ∷ l)) ≡ head x + (length x.body + length (write l))
unfolding write
length_cons x l = rw (length-append, length_header, length-append)

pub write_append : (l m : List Box) → write (l ++ m) ≡ write l ++ write m
unfolding write
write_append [] m = refl
write_append (x ∷ l) m = rw (write_append l m) (sym (append_assoc (header x) (x.body ++ write l) (write m) ∙ ap (λ (t : List ℕ). header x ++ t) (append_assoc x.body (write l) (write m))))

-- ---- one box more, and none

by_stop : (n : ℕ) (xs : List ℕ) → whole xs ≡ false → boxes_by n xs ≡ []
by_stop zero xs e = refl
by_stop (suc n) xs e = rw e

enough : (n m : ℕ) (xs : List ℕ) → length xs ≤ n → length xs ≤ m → boxes_by n xs ≡ boxes_by m xs
enough zero m xs h k = sym (by_stop m xs (short_not xs (omega arith)))
enough (suc n) zero xs h k = by_stop (suc n) xs (short_not xs (omega arith))
enough (suc n) (suc m) xs h k = go (whole xs) refl (enough n m (drop (size_of xs) xs))
  where
    go : (t : Bool) → whole xs ≡ t → (length (drop (size_of xs) xs) ≤ n → length (drop (size_of xs) xs) ≤ m → boxes_by n (drop (size_of xs) xs) ≡ boxes_by m (drop (size_of xs) xs))
        → pick t (front_box xs ∷ boxes_by n (drop (size_of xs) xs)) [] ≡ pick t (front_box xs ∷ boxes_by m (drop (size_of xs) xs)) []
    go true e ih = let w = whole_least xs e in ap (λ (l : List Box). front_box xs ∷ l) (ih (rw length-drop (omega arith)) (rw length-drop (omega arith)))
    go false e ih = refl

pub boxes_stop : (xs : List ℕ) → whole xs ≡ false → boxes xs ≡ []
unfolding boxes
boxes_stop xs e = by_stop (length xs) xs e

pub boxes_next : (xs : List ℕ) → whole xs ≡ true → boxes xs ≡ front_box xs ∷ boxes (drop (size_of xs) xs)
unfolding boxes
boxes_next [] e = absurd (omega (arith, whole_least [] e))
boxes_next (x ∷ xs) e =
    let w = whole_least (x ∷ xs) e in
    rw (e, enough (length xs) (length (drop (size_of (x ∷ xs)) (x ∷ xs))) (drop (size_of (x ∷ xs)) (x ∷ xs)) (rw length-drop (omega arith)) (omega arith))

pub after_stop : (xs : List ℕ) → whole xs ≡ false → after xs ≡ xs
unfolding after total
after_stop xs e = rw (boxes_stop xs e)

pub after_next : (xs : List ℕ) → whole xs ≡ true → after xs ≡ after (drop (size_of xs) xs)
unfolding after total
after_next xs e = rw (boxes_next xs e, size_front xs e) (sym (drop-drop (total (boxes (drop (size_of xs) xs))) (size_of xs) xs))

-- ---- lengths, whatever the part holds

-- what holds of a part with no box at its front, and of one with a box there where it holds of the rest, holds of every part
module _ (P : List ℕ → Type 0) (none : (xs : List ℕ) → whole xs ≡ false → P xs) (more : (xs : List ℕ) → whole xs ≡ true → P (drop (size_of xs) xs) → P xs) where
  by_length : (n : ℕ) (xs : List ℕ) → length xs ≤ n → P xs
  by_length zero xs l = none xs (short_not xs (omega arith))
  by_length (suc n) xs l = go (whole xs) refl (by_length n (drop (size_of xs) xs))
    where
      go : (t : Bool) → whole xs ≡ t → (length (drop (size_of xs) xs) ≤ n → P (drop (size_of xs) xs)) → P xs
      go true e ih = let w = whole_least xs e in more xs e (ih (rw length-drop (omega arith)))
      go false e ih = none xs e

  pub by_boxes : (xs : List ℕ) → P xs
  by_boxes xs = by_length (length xs) xs (omega arith)

pub lengths : (xs : List ℕ) → length (write (boxes xs)) + length (after xs) ≡ length xs
unfolding write
lengths =
    by_boxes (λ xs. length (write (boxes xs)) + length (after xs) ≡ length xs)
    (λ xs e. rw (boxes_stop xs e, after_stop xs e) (omega arith))
    (λ xs e ih.
    let w = whole_least xs e in
    rw (boxes_next xs e, after_next xs e) (omega (arith, length_cons (front_box xs) (boxes (drop (size_of xs) xs)), size_front xs e, length-drop (size_of xs) xs)))

-- ---- a property of every box

pub data All (P : Box → Type 0) : List Box → Type 0 where
  none : All P []
  some : {x : Box} {l : List Box} → P x → All P l → All P (x ∷ l)

-- what holds of every box there is
pub all_of : {P : Box → Type 0} → ((x : Box) → P x) → (l : List Box) → All P l
all_of h [] = none
all_of h (x ∷ l) = some (h x) (all_of h l)

-- an open box is the last of the list, and r, which stands past it, is empty
pub data Shut (r : List ℕ) : List Box → Type 0 where
  end : Shut r []
  next : {x : Box} {l : List Box} → (x.form ≡ Open → (l ≡ []) × (r ≡ [])) → Shut r l → Shut r (x ∷ l)

module _ {r : List ℕ} {x : Box} {l : List Box} where
  pub shut_here : Shut r (x ∷ l) → x.form ≡ Open → (l ≡ []) × (r ≡ [])
  shut_here (next o z) = o

  pub shut_past : Shut r (x ∷ l) → Shut r l
  shut_past (next o z) = z

-- ---- of a part of bytes

-- a box's body holds bytes
abbrev pub Filled : Box → Type 0
Filled x = Bytes x.body

pub record Parts (xs : List ℕ) : Type 0 where
  pub good : All Good (boxes xs)
  pub shut : Shut (after xs) (boxes xs)
  pub filled : All Filled (boxes xs)
  pub again : write (boxes xs) ++ after xs ≡ xs
  pub rest : whole (after xs) ≡ false

parts_none : (xs : List ℕ) → whole xs ≡ false → Parts xs
unfolding write
parts_none xs e = record { good = rw (boxes_stop xs e) none; shut = rw (boxes_stop xs e) end; filled = rw (boxes_stop xs e) none; again = rw (boxes_stop xs e) (after_stop xs e); rest = rw (after_stop xs e) e }

-- nothing is left past an open box
past_open : (xs : List ℕ) → form_of xs ≡ Open → drop (size_of xs) xs ≡ []
past_open xs e = ap (λ (f : Form). drop (size_by f xs) xs) e ∙ drop-length xs

parts_more : (xs : List ℕ) → Bytes xs → whole xs ≡ true → Parts (drop (size_of xs) xs) → Parts xs
parts_more xs h e p =
    record {
      good = rw (boxes_next xs e) (some (record { code = word_fits 4 xs 4 h }) p.good);
      shut = rw (boxes_next xs e, after_next xs e) (next {l = boxes (drop (size_of xs) xs)} (λ o. rw (past_open xs o) (boxes_stop [] (short_not [] (omega arith)), after_stop [] (short_not [] (omega arith)))) p.shut);
      filled = rw (boxes_next xs e) (some (bytes_take (size_of xs - head_front xs) (drop (head_front xs) xs) (bytes_drop (head_front xs) xs h)) p.filled);
      again = rw (boxes_next xs e, after_next xs e) (write_cons (front_box xs) (boxes (drop (size_of xs) xs)) (after (drop (size_of xs) xs)) ∙ rw p.again (rebox xs h e));
      rest = rw (after_next xs e) p.rest;
    }

pub parts : (xs : List ℕ) → Bytes xs → Parts xs
parts = by_boxes (λ xs. Bytes xs → Parts xs) (λ xs e h. parts_none xs e) (λ xs e ih h. parts_more xs h e (ih (bytes_drop (size_of xs) xs h)))

-- a part is its boxes, written, and what is past them
pub write_boxes : (xs : List ℕ) → Bytes xs → write (boxes xs) ++ after xs ≡ xs
write_boxes xs h = (parts xs h).again

pub bytes_after : (xs : List ℕ) → Bytes xs → Bytes (after xs)
unfolding after
bytes_after xs h = bytes_drop (total (boxes xs)) xs h
