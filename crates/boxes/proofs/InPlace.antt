-- The loop that rewrites one box after the other where it stands: the same for every edit. Assumes nothing.
use Prim.Native.Nat.{ℕ, ◌+◌, ◌-◌, ◌≤◌}
use native.Mathlib.Omega.{arith}
use mathlib.Core.Path.{◌≡◌, refl, sym, ap, ◌∙◌}
use mathlib.Core.List.{List, ◌++◌, map, append_assoc}
use lib.ListN.{length, take, drop, length-append, length-take, length-drop, take-append-drop}
use lib.Seq.{take_at, drop_at, take-add}
use borrow.Rule.Slice.PartMut.{put_mid, Post-is}
use Rattle.wire.specs.Numbers.{Bytes}
use Rattle.boxes.specs.declared.walk.Walk.{Walk}
use Rattle.boxes.specs.declared.walk.BoxAt.{BoxAt}
use Rattle.boxes.specs.Box.{Box, head, header, write, remade}
use Rattle.boxes.specs.Boxes.{boxes, after}
use Rattle.boxes.specs.Walk.{payload, box_at, Ran, Over}
use Rattle.boxes.specs.Rewrite.{Bodies, over, over_boxes, in_body, Looped}
use Rattle.boxes.proofs.Whole.{length_header}
use Rattle.boxes.proofs.Reading.{write_cons}
use Rattle.boxes.proofs.Rewriting.{open_over}
use Rattle.boxes.proofs.Seeking.{length_payload, ran_bytes}

-- what `&mut part[from..to]` gives back
pub in_body_lem : (xs : List ℕ) (b : BoxAt) (ys : List ℕ) → b.head ≤ b.span → put_mid (b.at + b.head) (b.at + b.span - (b.at + b.head)) xs ys ≡ in_body xs b ys
unfolding in_body
in_body_lem xs b ys h = rw (Post-is (b.at + b.head) (b.at + b.span) xs (omega arith))

-- the size of a header follows its body's length
pub header_same : (x : Box) (ys : List ℕ) → length ys ≡ length x.body → header (remade x ys) ≡ header x
unfolding header
header_same x ys e = rw e

pub looped_none : (f : Bodies) (xs : List ℕ) → Looped f xs xs 0
looped_none f xs = record { inside = omega arith; same = refl; left = refl }

-- a rewriting from a place on: nothing left, and one box more
over_stop : (f : Bodies) {xs : List ℕ} {at : ℕ} → Over xs at → over_boxes f (drop at xs) ≡ drop at xs
unfolding write
over_stop f {xs} {at} o = open_over f (drop at xs) ∙ rw (o.list, o.rest)

over_step : (f : Bodies) {xs : List ℕ} {at : ℕ} {b : BoxAt} {w : Walk} → Ran xs at b w
    → over_boxes f (drop at xs) ≡ header (over f (box_at xs b)) ++ (f b.code (payload xs b) ++ over_boxes f (drop w.at xs))
over_step f {xs} {at} {b} {w} s =
    open_over f (drop at xs) ∙ rw (s.list, s.rest)
    (write_cons (over f (box_at xs b)) (map (over f) (boxes (drop w.at xs))) (after (drop w.at xs)) ∙ rw (← open_over f (drop w.at xs)))

module _ (f : Bodies) {xs₀ xs : List ℕ} {at : ℕ} (i : Looped f xs₀ xs at) where
  pub looped_last : Over xs at → xs ≡ over_boxes f xs₀
  looped_last o = sym (i.left ∙ rw (over_stop f o) (take-append-drop at xs))

  module _ (keeps : (c : ℕ) (b : List ℕ) → length (f c b) ≡ length b) (v : Bytes xs) {b : BoxAt} {w : Walk} (s : Ran xs at b w) {ys : List ℕ} (e : ys ≡ in_body xs b (f b.code (payload xs b))) where
    abbrev x : Box
    x = box_at xs b

    abbrev new : List ℕ
    new = f b.code (payload xs b)

    -- what stands before the next place, and what from there on
    before : take (b.at + b.head) xs ≡ take at xs ++ header x
    before =
        let q : b.at + b.head ≡ at + head x = omega (arith, s.start, s.head) in
        ap (λ (n : ℕ). take n xs) q ∙ take-add at (head x) xs ∙ ap (λ (t : List ℕ). take at xs ++ t) (ap (take (head x)) (ran_bytes s v) ∙ take_at (header x) (payload xs b ++ drop w.at xs) (head x) (length_header x))

    split : ys ≡ take at xs ++ (header x ++ new) ++ drop w.at xs
    unfolding in_body
    split =
        let q : b.at + b.span ≡ w.at = omega (arith, s.start, s.next) in
        e ∙ ap (λ (t : List ℕ). t ++ (new ++ drop (b.at + b.span) xs)) before ∙ ap (λ (n : ℕ). take at xs ++ header x ++ (new ++ drop n xs)) q ∙ simp append_assoc

    front_length : length (take at xs ++ (header x ++ new)) ≡ w.at
    front_length = rw (length-append, length-append, length_header, keeps, length_payload s, length-take) (omega (arith, s.next, s.inside, s.least, s.head))

    pub looped_more : Looped f xs₀ ys w.at
    looped_more =
        let t : take w.at ys ≡ take at xs ++ (header x ++ new) = ap (take w.at) split ∙ take_at (take at xs ++ (header x ++ new)) (drop w.at xs) w.at front_length in
        let d : drop w.at ys ≡ drop w.at xs = ap (drop w.at) split ∙ drop_at (take at xs ++ (header x ++ new)) (drop w.at xs) w.at front_length in
        let n : length ys ≡ length xs = ap length split ∙ rw (length-append, front_length, length-drop) (omega (arith, s.next, s.inside)) in
        record {
          inside = rw n (omega (arith, s.next, s.inside));
          same = n ∙ i.same;
          left = rw (t, d) (i.left ∙ ap (λ (z : List ℕ). take at xs ++ z) (over_step f s ∙ ap (λ (z : List ℕ). z ++ (new ++ over_boxes f (drop w.at xs))) (header_same x new (keeps b.code (payload xs b)))) ∙ simp append_assoc);
        }
