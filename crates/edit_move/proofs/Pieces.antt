-- The four pieces that code writes. Assumes nothing.
use Prim.Native.Nat.{ℕ, ◌+◌, ◌-◌, ◌^◌, ◌≤◌, ◌<◌}
use native.Mathlib.Omega.{arith}
use mathlib.Core.Path.{◌≡◌, sym, ap, ◌∙◌}
use mathlib.Core.List.{List, ◌++◌, append_assoc}
use lib.ListN.{length, take, drop, length-append, length-take, length-drop}
use lib.Seq.{take_at, drop_at, length-take-le}
use borrow.Rule.Slice.PartMut.{mid_of}
use Rattle.wire.specs.Writing.{Put}
use Rattle.wire.proofs.Lists.{tail_is}
use Rattle.wire.proofs.Writing.{pen_then, pen_is}
use Rattle.boxes.specs.declared.walk.BoxAt.{BoxAt}
use Rattle.boxes.specs.Containers.{LONGEST}
use Rattle.edit_move.specs.Arrange.{arranged}

-- a piece is no longer than all
past : (a n : ℕ) (xs : List ℕ) {out mid : List ℕ} {at r : ℕ} → Put (mid_of a n xs) out at r mid → r ≤ at + length xs
past a n xs p = omega (arith, p.next, length-take n (drop a xs), length-drop a xs)

room : (a n : ℕ) (xs : List ℕ) (i : ℕ) → i ≤ 4194304 → length xs ≤ LONGEST → i + length (mid_of a n xs) < 2 ^ 63
room a n xs i h k = omega (arith, length-take n (drop a xs), length-drop a xs)

module _ (f : ℕ) (b : BoxAt) (xs : List ℕ) where
  -- the four, one behind the other
  module _ {out o₁ : List ℕ} {i : ℕ} (p : Put (take f xs) out 0 i o₁) where
    pub second_room : length xs ≤ LONGEST → i + length (mid_of b.at (b.at + b.span - b.at) xs) < 2 ^ 63
    second_room h = room b.at (b.at + b.span - b.at) xs i (omega (arith, past 0 f xs p)) h

    module _ {o₂ : List ℕ} {j : ℕ} (q : Put (mid_of b.at (b.at + b.span - b.at) xs) o₁ i j o₂) where
      pub third_room : length xs ≤ LONGEST → j + length (mid_of f (b.at - f) xs) < 2 ^ 63
      third_room h = room f (b.at - f) xs j (omega (arith, past 0 f xs p, past b.at (b.at + b.span - b.at) xs q)) h

      module _ {o₃ : List ℕ} {k : ℕ} (s : Put (mid_of f (b.at - f) xs) o₂ j k o₃) where
        pub fourth_room : length xs ≤ LONGEST → k + length (mid_of (b.at + b.span) (length xs - (b.at + b.span)) xs) < 2 ^ 63
        fourth_room h = room (b.at + b.span) (length xs - (b.at + b.span)) xs k (omega (arith, past 0 f xs p, past b.at (b.at + b.span - b.at) xs q, past f (b.at - f) xs s)) h

        pub pieces_put : {o₄ : List ℕ} {r : ℕ} → b.at + b.span ≤ length xs → Put (mid_of (b.at + b.span) (length xs - (b.at + b.span)) xs) o₃ k r o₄ → Put (arranged f b xs) out 0 r o₄
        unfolding arranged
        pieces_put h t =
            let e : b.at + b.span - b.at ≡ b.span = omega arith in
            pen_then p (pen_then (rw e at q) (pen_then s (pen_is (tail_is xs (b.at + b.span) h) t)))

  -- ---- their length

  module _ (k : f ≤ b.at) (h : b.at + b.span ≤ length xs) where
    pub pieces_length : length (arranged f b xs) ≡ length xs
    unfolding arranged
    pieces_length =
        let p : length (take f xs) ≡ f = length-take-le f xs (omega arith) in
        let q : length (take b.span (drop b.at xs)) ≡ b.span = length-take-le b.span (drop b.at xs) (rw length-drop (omega arith)) in
        let s : length (take (b.at - f) (drop f xs)) ≡ b.at - f = length-take-le (b.at - f) (drop f xs) (rw length-drop (omega arith)) in
        rw (length-append, length-append, length-append, p, q, s, length-drop) (omega arith)

-- of a part in four pieces
pub pieces_are : (a m x e : List ℕ) (f : ℕ) (b : BoxAt) → length a ≡ f → b.at ≡ f + length m → b.span ≡ length x → arranged f b (a ++ (m ++ (x ++ e))) ≡ a ++ (x ++ (m ++ e))
unfolding arranged
pieces_are a m x e f b p q s =
    let g : a ++ (m ++ (x ++ e)) ≡ (a ++ m) ++ (x ++ e) = sym (append_assoc a m (x ++ e)) in
    let g2 : a ++ (m ++ (x ++ e)) ≡ ((a ++ m) ++ x) ++ e = g ∙ sym (append_assoc (a ++ m) x e) in
    let n : length (a ++ m) ≡ b.at = length-append a m ∙ omega arith in
    let k : length ((a ++ m) ++ x) ≡ b.at + b.span = length-append (a ++ m) x ∙ omega (arith, n) in
    let t1 : take f (a ++ (m ++ (x ++ e))) ≡ a = take_at a (m ++ (x ++ e)) f p in
    let t2 : take b.span (drop b.at (a ++ (m ++ (x ++ e)))) ≡ x = ap (λ (l : List ℕ). take b.span (drop b.at l)) g ∙ ap (take b.span) (drop_at (a ++ m) (x ++ e) b.at n) ∙ take_at x e b.span (sym s) in
    let t3 : take (b.at - f) (drop f (a ++ (m ++ (x ++ e)))) ≡ m = ap (take (b.at - f)) (drop_at a (m ++ (x ++ e)) f p) ∙ take_at m (x ++ e) (b.at - f) (omega arith) in
    let t4 : drop (b.at + b.span) (a ++ (m ++ (x ++ e))) ≡ e = ap (drop (b.at + b.span)) g2 ∙ drop_at ((a ++ m) ++ x) e (b.at + b.span) k in
    rw (t1, t2, t3, t4)
