-- Laws of rewriting one box by the way to it. Assumes nothing.
use Prim.Native.Nat.{ℕ, suc, ◌+◌, ◌-◌, ◌≤◌, ◌<◌}
use native.Mathlib.Omega.{arith}
use mathlib.Core.Path.{◌≡◌, refl, sym, ap, ◌∙◌}
use mathlib.Core.List.{List, [], ◌∷◌, ◌++◌, append_assoc}
use lib.ListN.{length, get_or, take, drop, length-append, length-take, length-drop}
use lib.Seq.{drop-cons}
use Rattle.wire.specs.Numbers.{Bytes}
use Rattle.wire.specs.Writing.{Put}
use Rattle.wire.proofs.Writing.{put_before}
use Rattle.boxes.specs.declared.walk.BoxAt.{BoxAt}
use Rattle.boxes.specs.declared.way.Turn.{Turn}
use Rattle.boxes.specs.declared.walk.Form.{Form}
use Rattle.boxes.specs.Box.{Box, head_of, header_by, size, header, remade}
use Rattle.boxes.specs.Boxes.{boxes, after}
use Rattle.boxes.specs.Walk.{payload, box_at}
use Rattle.boxes.specs.Seek.{count, Cut}
use Rattle.boxes.specs.Way.{turns, over_nth, over_turn, edit_way, tail_by, box_by, around, Under}
use Rattle.boxes.proofs.Whole.{length_header}
use Rattle.boxes.proofs.OneOfList.{nth_by_lem, nth_by_none}
use Rattle.boxes.proofs.OneOfPart.{over_nth_length}
use Rattle.boxes.proofs.Reading.{write_cons, write_append, write_boxes}

-- ---- of a part, as a search cuts it

pub length_box_by : (f : Form) (c : ℕ) (ys : List ℕ) → length (box_by f c ys) ≡ head_of f + length ys
unfolding box_by
length_box_by f c ys = rw (length-append, length_header)

module _ (c n : ℕ) (f : List ℕ → List ℕ) (xs : List ℕ) where
  pub nth_at : {b : BoxAt} → Cut xs c n b → around xs b (f (payload xs b)) ≡ over_nth c n f xs
  unfolding over_nth around box_by
  nth_at {b} s =
      let y : Box = remade (box_at xs b) (f (payload xs b)) in
      sym (rw (s.list, nth_by_lem c f n s.p (box_at xs b) s.q s.nth s.hit, write_append s.p (y ∷ s.q), append_assoc, write_cons y s.q (after xs), ← s.past, ← s.before)
      (ap (λ (t : List ℕ). take b.at xs ++ t) (sym (append_assoc (header y) (f (payload xs b)) (drop (b.at + b.span) xs)))))

  pub nth_missing : Bytes xs → count c (boxes xs) ≤ n → xs ≡ over_nth c n f xs
  unfolding over_nth
  nth_missing v h = sym (rw (nth_by_none c f n (boxes xs) h) (write_boxes xs v))

-- ---- the turns of a way

-- fewer than three numbers are none
turns_few : (l : List ℕ) → length l < 3 → turns l ≡ []
unfolding turns
turns_few [] h = refl
turns_few (s ∷ []) h = refl
turns_few (s ∷ c ∷ []) h = refl
turns_few (s ∷ c ∷ n ∷ l) h = absurd (omega arith)

pub turns_more : (way : List ℕ) (i : ℕ) → i + 3 ≤ length way → {s c n : ℕ} → s ≡ get_or way i 0 → c ≡ get_or way (i + 1) 0 → n ≡ get_or way (i + 2) 0
    → turns (drop i way) ≡ record { skip = s; code = c; nth = n } ∷ turns (drop (i + 3) way)
unfolding turns
turns_more way i h e f g =
    let a : i + 1 ≡ suc i = omega arith in
    let b : i + 2 ≡ suc (suc i) = omega arith in
    let c : i + 3 ≡ suc (suc (suc i)) = omega arith in
    rw (drop-cons way i 0 (omega arith), drop-cons way (suc i) 0 (omega arith), drop-cons way (suc (suc i)) 0 (omega arith), e, f, g, a, b, c)

pub way_end : (way : List ℕ) (i : ℕ) (h : List ℕ → List ℕ) (xs : List ℕ) → length way - i < 3 → h xs ≡ edit_way (turns (drop i way)) h xs
unfolding edit_way
way_end way i h xs e = rw (turns_few (drop i way) (omega (arith, length-drop i way)))

pub way_more : (t : Turn) (w : List Turn) {v : List Turn} → v ≡ t ∷ w → (h : List ℕ → List ℕ) (xs : List ℕ) → take t.skip xs ++ over_nth t.code t.nth (edit_way w h) (drop t.skip xs) ≡ edit_way v h xs
unfolding edit_way over_turn
way_more t w e h xs = rw e

-- a way adds no more than is new
pub way_length : (way : List Turn) (n : ℕ) (new xs : List ℕ) → length (edit_way way (tail_by n new) xs) ≤ length xs + length new
unfolding edit_way over_turn
way_length [] n new xs = rw (length-append, length-take) (omega arith)
way_length (t ∷ way) n new xs =
    let d = over_nth_length t.code t.nth (edit_way way (tail_by n new)) (drop t.skip xs) (length new) (way_length way n new) in
    rw (length-append, length-take) (omega (arith, d, length-drop t.skip xs))

-- ---- a body first, and then its header

header_of : (x : Box) (n : ℕ) → n ≡ size x → header_by x.form n x.code ≡ header x
unfolding header
header_of x n e = ap (λ (m : ℕ). header_by x.form m x.code) e

pub pen_box : (f : Form) (c : ℕ) {ys out mid after : List ℕ} {at r n h : ℕ} → h ≡ head_of f → Put ys out (at + h) r mid → n ≡ r - at → Under f n c mid at r after → Put (box_by f c ys) out at r after
unfolding box_by
pen_box f c {ys} {out} {mid} {after} {at} {r} {n} {h} q p e u =
    let x : Box = record { form = f; code = c; body = ys } in
    let l : length (header x) ≡ h = length_header x ∙ sym q in
    record {
      next = rw (length-append, l) (omega (arith, p.next));
      same = u.same ∙ p.same;
      is = λ k.
          let w : header_by f n c ≡ header x = header_of x n (omega (arith, p.next)) in
          u.is (rw p.same k) ∙ rw (w, p.is k) (rw l at (put_before out at (header x) ys (omega (arith, p.next))));
    }
