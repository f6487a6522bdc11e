-- A part of a part, and the place where it lies: what is found lies in what it was found in. Assumes nothing.
use Prim.Native.Nat.{◌<◌, ℕ, ◌+◌, ◌≤◌}
use native.Mathlib.Omega.{arith}
use mathlib.Core.Path.{◌≡◌, refl, sym, ap, ◌∙◌}
use mathlib.Core.List.{List, [], ◌∷◌, ◌++◌, append_assoc}
use lib.ListN.{length, take, drop, length-append, length-drop, take-append-drop}
use lib.Seq.{take_at, take_all, drop_at, drop-drop, take-append-le, drop-append-le}
use Rattle.wire.specs.Numbers.{Bytes}
use Rattle.wire.proofs.Lists.{drop_past}
use Rattle.wire.proofs.Numbers.{bytes_drop, bytes_take}
use Rattle.boxes.specs.Box.{Box, head, size, header, write}
use Rattle.boxes.specs.Boxes.{boxes, after}
use Rattle.boxes.specs.Seek.{ANY, count, nth, place_by, place_in, start_in, form_in}
use Rattle.boxes.specs.Way.{box_by}
use Rattle.boxes.proofs.Whole.{length_header}
use Rattle.boxes.proofs.Reading.{parts, write_cons}
use Rattle.boxes.proofs.Meaning.{meant_is, nth_hit, nth_next, nth_miss, place_hit, place_next, place_miss, form_hit, form_next, form_miss}
use Rattle.boxes.proofs.Numbered.{by_number}

-- ys stands in xs from place p on
pub record Lies (ys xs : List ℕ) (p : ℕ) : Type 0 where
  pub is : take (length ys) (drop p xs) ≡ ys
  pub inside : p + length ys ≤ length xs

-- it is a part of bytes
pub bytes_lies : {ys xs : List ℕ} {p : ℕ} → Lies ys xs p → Bytes xs → Bytes ys
bytes_lies {ys} {xs} {p} l v = rw l.is at (bytes_take (length ys) (drop p xs) (bytes_drop p xs v))

-- nothing lies anywhere inside
lies_none : (xs : List ℕ) (p : ℕ) → p ≤ length xs → Lies [] xs p
lies_none xs p h = record { is = refl; inside = omega arith }

pub lies_front : (xs ys zs : List ℕ) (p : ℕ) → length xs ≡ p → Lies ys (xs ++ (ys ++ zs)) p
lies_front xs ys zs p e = record { is = rw (drop_at xs (ys ++ zs) p e) (take_at ys zs (length ys) refl); inside = rw (length-append, length-append) (omega arith) }

-- with more before it
lies_past : (xs : List ℕ) (n : ℕ) → length xs ≡ n → {ys zs : List ℕ} {p : ℕ} → Lies ys zs p → Lies ys (xs ++ zs) (n + p)
lies_past xs n e {ys} {zs} {p} l = record { is = rw (drop_past xs zs n p e) l.is; inside = rw length-append (omega (arith, l.inside)) }

pub lies_drop : (n : ℕ) (xs : List ℕ) → n ≤ length xs → Lies (drop n xs) xs n
lies_drop n xs h = record { is = take_all (length (drop n xs)) (drop n xs) (omega arith); inside = rw length-drop (omega arith) }

-- a part of a part
pub lies_in : {zs ys xs : List ℕ} {q p : ℕ} → Lies ys xs p → Lies zs ys q → Lies zs xs (p + q)
lies_in {zs} {ys} {xs} {q} {p} l m =
    let r = drop (length ys) (drop p xs) in
    let d : drop p xs ≡ ys ++ r = sym (take-append-drop (length ys) (drop p xs)) ∙ ap (λ (t : List ℕ). t ++ r) l.is in
    let n : length zs ≤ length (drop q ys) = rw length-drop (omega (arith, m.inside)) in
    let e : drop q (drop p xs) ≡ drop q ys ++ r = ap (drop q) d ∙ drop-append-le q ys r (omega (arith, m.inside)) in
    record { is = rw (← drop-drop q p xs, e, take-append-le (length zs) (drop q ys) r n) m.is; inside = omega (arith, l.inside, m.inside) }

-- ---- what is found

-- with a box more before it
lies_behind : (x : Box) (l : List Box) (r : List ℕ) {ys : List ℕ} {p : ℕ} → Lies ys (write l ++ r) p → Lies ys (write (x ∷ l) ++ r) (size x + p)
lies_behind x l r i = rw (write_cons x l r, ← append_assoc) (lies_past (header x ++ x.body) (size x) (rw (length-append, length_header)) i)

lies_nth : (c n : ℕ) (l : List Box) (r : List ℕ) → Lies (nth c n l) (write l ++ r) (start_in c n l)
unfolding nth start_in place_by write
lies_nth c =
    by_number c (λ n l. (r : List ℕ) → Lies (nth c n l) (write l ++ r) (start_in c n l))
    (λ n r. lies_none r 0 (omega arith))
    (λ n x l e ih r. rw (nth_miss c x l e n, place_miss c x l e head n) (lies_behind x l r (ih r)))
    (λ x l e r. rw (nth_hit c x l e, place_hit c x l e head, write_cons x l r) (lies_front (header x) x.body (write l ++ r) (head x) (length_header x)))
    (λ n x l e ih r. rw (nth_next c x l e n, place_next c x l e head n) (lies_behind x l r (ih r)))

-- the payload of the n-th box that c means, where there is one; else nothing
pub lies_found : (c n : ℕ) (xs : List ℕ) → Bytes xs → Lies (nth c n (boxes xs)) xs (start_in c n (boxes xs))
lies_found c n xs v = rw (parts xs v).again at (lies_nth c n (boxes xs) (after xs))

-- the n-th box of a code lies where it starts, header and all
whole_nth : (c : ℕ) → (c ≡ ANY → ⊥) → (n : ℕ) (l : List Box) → n < count c l → (r : List ℕ) → Lies (box_by (form_in c n l) c (nth c n l)) (write l ++ r) (place_in c n l)
unfolding count place_in box_by
whole_nth c z =
    by_number c (λ n l. n < count c l → (r : List ℕ) → Lies (box_by (form_in c n l) c (nth c n l)) (write l ++ r) (place_in c n l))
    (λ n h r. absurd (omega arith))
    (λ n x l e ih h r. rw (nth_miss c x l e n, form_miss c x l e n, place_miss c x l e (λ y. 0) n) (lies_behind x l r (ih (omega arith) r)))
    (λ x l e h r.
    let q : box_by x.form c x.body ≡ header x ++ x.body = ap (λ (d : ℕ). header (record { form = x.form; code = d; body = x.body }) ++ x.body) (sym (meant_is c x.code z e)) in
    rw (nth_hit c x l e, form_hit c x l e, place_hit c x l e (λ y. 0), q, write_cons x l r, ← append_assoc) (lies_front [] (header x ++ x.body) (write l ++ r) 0 refl))
    (λ n x l e ih h r. rw (nth_next c x l e n, form_next c x l e n, place_next c x l e (λ y. 0) n) (lies_behind x l r (ih (omega arith) r)))

pub lies_whole : (c : ℕ) → (c ≡ ANY → ⊥) → (n : ℕ) (xs : List ℕ) → Bytes xs → n < count c (boxes xs) → Lies (box_by (form_in c n (boxes xs)) c (nth c n (boxes xs))) xs (place_in c n (boxes xs))
lies_whole c z n xs v h = rw (parts xs v).again at (whole_nth c z n (boxes xs) h (after xs))
