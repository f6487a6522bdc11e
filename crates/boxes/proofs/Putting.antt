-- What the writers of a way cite: each text is made of those that its callees put. Assumes nothing.
use Prim.Native.Nat.{ℕ, ◌+◌, ◌-◌, ◌≤◌, ◌<◌, min}
use native.Mathlib.Omega.{arith}
use mathlib.Core.Path.{◌≡◌, refl, sym, ap, ◌∙◌}
use mathlib.Core.List.{List, ◌∷◌, ◌++◌, append_assoc}
use lib.ListN.{length, take, drop, length-append, length-take, length-drop}
use lib.Seq.{length-take-le}
use borrow.Rule.Slice.PartMut.{mid_of}
use Rattle.wire.specs.Numbers.{bytes}
use Rattle.wire.specs.Writing.{put, Put}
use Rattle.wire.proofs.Lists.{tail_is, take_min, drop_min}
use Rattle.wire.proofs.Numbers.{length_bytes_lem}
use Rattle.wire.proofs.Writing.{length_put, put_none, put_put, pen_then, pen_is}
use Rattle.boxes.specs.declared.walk.BoxAt.{BoxAt}
use Rattle.boxes.specs.declared.way.Turn.{Turn}
use Rattle.boxes.specs.declared.walk.Form.{Form}
use Rattle.boxes.specs.declared.walk.Form.TheVariants.{Plain, Wide, Open}
use Rattle.boxes.specs.Box.{head_of, header_by, field_of, more_of}
use Rattle.boxes.specs.Walk.{payload}
use Rattle.boxes.specs.Way.{over_nth, edit_way, tail_by, box_by, around, Under, BoxInside}
use Rattle.boxes.proofs.Whole.{head_least, length_more, length_header_by}
use Rattle.boxes.proofs.Seeking.{payload_length}
use Rattle.boxes.proofs.Turning.{length_box_by, way_more}

-- the first n elements of a part that has them are n
pub take_size : {A : Type 0} (n : ℕ) (xs : List A) → n ≤ length xs → n ≡ length (take n xs)
take_size n xs h = sym (length-take-le n xs h)

-- a part of a part goes no further than all of it
pub next_take : (n : ℕ) (xs : List ℕ) {out after : List ℕ} {at r : ℕ} → Put (take n xs) out at r after → r ≤ at + length xs
next_take n xs p = omega (arith, p.next, length-take n xs)

-- ---- a header

pub under_put : (f : Form) (n c : ℕ) (out : List ℕ) (at : ℕ) {r m : ℕ} {o₁ o₂ after : List ℕ} → m ≡ field_of f n → o₁ ≡ put out at (bytes 4 m) → o₂ ≡ put o₁ (at + 4) (bytes 4 c)
    → after ≡ put o₂ (at + 8) (more_of f n) → at + head_of f ≤ r → r ≤ length out → Under f n c out at r after
under_put f n c out at {m = m} {o₁} {o₂} {after} e p q s h l =
    let a = length_bytes_lem 4 m in
    let b = length_bytes_lem 4 c in
    let k = length_header_by f n c in
    let g = head_least f in
    let w : o₂ ≡ put out at (bytes 4 m ++ bytes 4 c) = q ∙ rw p (rw a at (put_put out at (bytes 4 m) (bytes 4 c) (omega arith))) in
    let z : length (bytes 4 m ++ bytes 4 c) ≡ 8 = rw (length-append, a, b) in
    let y : after ≡ put out at (header_by f n c) =
    s ∙ rw w (rw z at (put_put out at (bytes 4 m ++ bytes 4 c) (more_of f n) (rw (z) (omega (arith, length_more f n)))) ∙ rw (e, append_assoc)) in
    record { same = ap length y ∙ length_put out at (header_by f n c) (omega arith); is = λ k. y }

-- what only a wide header has
pub more_plain : (f : Form) (n : ℕ) (out : List ℕ) (at : ℕ) → f ≡ Plain → out ≡ put out at (more_of f n)
more_plain f n out at e = rw e (sym (put_none out at))

pub more_open : (f : Form) (n : ℕ) (out : List ℕ) (at : ℕ) → f ≡ Open → out ≡ put out at (more_of f n)
more_open f n out at e = rw e (sym (put_none out at))

pub more_wide : (f : Form) (n : ℕ) (out : List ℕ) (at : ℕ) {after : List ℕ} → f ≡ Wide → after ≡ put out at (bytes 8 n) → after ≡ put out at (more_of f n)
more_wide f n out at e p = rw e p

pub under_past : (f : Form) (n c : ℕ) (out : List ℕ) (at : ℕ) {r : ℕ} → length out < r → Under f n c out at r out
under_past f n c out at h = record { same = refl; is = λ k. absurd (omega arith) }

-- ---- the end of a way

pub tail_put : (n : ℕ) (new xs : List ℕ) {m at j r : ℕ} {out mid after : List ℕ} → m ≡ min n (length xs) → Put (take m xs) out at j mid → Put new mid j r after → Put (tail_by n new xs) out at r after
tail_put n new xs e p q = pen_then (pen_is (ap (λ (k : ℕ). take k xs) e ∙ take_min n xs) p) q

-- ---- one box and what is around it

module _ (xs : List ℕ) (b : BoxAt) (e : b.head ≡ head_of b.form) (l : b.head ≤ b.span) (h : b.at + b.span ≤ length xs) {at j : ℕ} {out o₁ : List ℕ} (p : Put (take b.at xs) out at j o₁) where
  start : j ≡ at + b.at
  start = p.next ∙ ap (λ (n : ℕ). at + n) (length-take-le b.at xs (omega arith))

  module _ (ys : List ℕ) (q : ys ≡ payload xs b) where
    long : length ys ≡ b.span - b.head
    long = ap length q ∙ payload_length xs b l h

    pub around_room : j + b.head + length ys ≤ at + length xs
    around_room = omega (arith, long, start)

    pub around_end : (zs : List ℕ) (m c : ℕ) {k : ℕ} {o₂ : List ℕ} → length zs ≤ length ys + m → Put (box_by b.form c zs) o₁ j k o₂ → k + length (mid_of (b.at + b.span) (length xs - (b.at + b.span)) xs) ≤ at + length xs + m
    around_end zs m c w s = rw (tail_is xs (b.at + b.span) h, length-drop) (omega (arith, long, start, s.next, e, length_box_by b.form c zs))

pub around_put : (xs : List ℕ) (b : BoxAt) (ys : List ℕ) {at j k r : ℕ} {out o₁ o₂ after : List ℕ}
    → Put (take b.at xs) out at j o₁ → Put (box_by b.form b.code ys) o₁ j k o₂ → Put (mid_of (b.at + b.span) (length xs - (b.at + b.span)) xs) o₂ k r after → b.at + b.span ≤ length xs → Put (around xs b ys) out at r after
unfolding around
around_put xs b ys p q s h = pen_then p (pen_then q (pen_is (tail_is xs (b.at + b.span) h) s))

-- what is put around a body adds as much as the body has more than before
pub around_most : (xs : List ℕ) (b : BoxAt) (ys : List ℕ) (m : ℕ) → BoxInside xs b → length ys ≤ length (payload xs b) + m → length (around xs b ys) ≤ length xs + m
unfolding around
around_most xs b ys m i h =
    let n = payload_length xs b i.least i.inside in
    rw (length-append, length-append, length_box_by, length-drop, length-take) (omega (arith, i.head, i.least, i.inside))

-- ---- one turn

pub turn_room : (m : ℕ) (xs : List ℕ) {out mid : List ℕ} {at j : ℕ} → m ≤ length xs → Put (take m xs) out at j mid → j + length (mid_of m (length xs - m) xs) ≡ at + length xs
turn_room m xs h p = rw (tail_is xs m h, length-drop) (omega (arith, p.next, length-take m xs))

pub way_put : (t : Turn) (w : List Turn) {v : List Turn} → v ≡ t ∷ w → (h : List ℕ → List ℕ) (xs : List ℕ) {m at j r : ℕ} {out mid after : List ℕ}
    → m ≡ min t.skip (length xs) → Put (take m xs) out at j mid → Put (over_nth t.code t.nth (edit_way w h) (mid_of m (length xs - m) xs)) mid j r after → Put (edit_way v h xs) out at r after
way_put t w e h xs {m} q p s =
    pen_is (way_more t w e h xs)
    (pen_then (pen_is (ap (λ (k : ℕ). take k xs) q ∙ take_min t.skip xs) p) (pen_is (ap (over_nth t.code t.nth (edit_way w h)) (tail_is xs m (omega arith) ∙ ap (λ (k : ℕ). drop k xs) q ∙ drop_min t.skip xs)) s))
