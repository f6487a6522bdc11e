-- The `moov` that was found in a file stands in the file with its `moov` closed, and all around it is the same. Assumes nothing.
use Prim.Native.Nat.{ℕ, ◌+◌, ◌-◌, ◌≤◌, ◌<◌}
use native.Mathlib.Omega.{arith}
use mathlib.Core.Path.{◌≡◌, sym, ap, ◌∙◌}
use mathlib.Core.List.{List, [], ◌∷◌, ◌++◌, map, append-nil}
use lib.ListN.{length, take, drop}
use Rattle.wire.specs.Numbers.{Bytes}
use Rattle.codes.specs.Codes.{MOOV}
use Rattle.boxes.specs.declared.walk.BoxAt.{BoxAt}
use Rattle.boxes.specs.declared.walk.Form.{Form}
use Rattle.boxes.specs.Box.{is_open}
use Rattle.boxes.specs.Boxes.{boxes}
use Rattle.boxes.specs.Walk.{payload, box_at}
use Rattle.boxes.specs.Seek.{count, Cut}
use Rattle.boxes.specs.Way.{around, BoxInside}
use Rattle.boxes.proofs.Meaning.{meant_is}
use Rattle.boxes.proofs.Numbered.{count_append}
use Rattle.judge.specs.Acceptance.{Meets}
use Rattle.edit_offsets.specs.Close.{shut_box, shut_at, closed, closed_at}
use Rattle.edit_offsets.proofs.Accepted.{one_moov}
use Rattle.edit_offsets.proofs.Closing.{shut_head, form_moov}
use Rattle.edit_offsets.proofs.ClosedFile.{length_closed, boxes_closed, after_closed}
use Rattle.edit_offsets.proofs.ClosingHere.{closed_file, shut_one}
use Rattle.edit_replace.proofs.Sized.{before_size, behind_size}

-- a box that a search found lies in its part
pub cut_inside : {xs : List ℕ} {c n : ℕ} {b : BoxAt} → Cut xs c n b → BoxInside xs b
cut_inside s = record { head = s.head; eight = s.eight; least = s.least; inside = s.inside }

pub shut_inside : {xs : List ℕ} {b : BoxAt} → BoxInside xs b → BoxInside xs (shut_at b)
shut_inside {b = b} i = record { head = i.head ∙ sym (shut_head b.form); eight = i.eight; least = i.least; inside = i.inside }

module _ (xs : List ℕ) (v : Bytes xs) (m : Meets xs) {b : BoxAt} (c : Cut xs MOOV 0 b) where
  few : length xs < 4294967296
  few = omega (arith, m.most)

  pub code_is : b.code ≡ MOOV
  code_is = meant_is MOOV b.code (λ z. omega arith) c.hit

  pub none_behind : count MOOV c.q ≡ 0
  unfolding count
  none_behind = omega (arith, one_moov xs m, ap (count MOOV) c.list, count_append MOOV c.p (box_at xs b ∷ c.q), c.hit, c.nth)

  -- the other boxes are the same
  pub boxes_shut : boxes (closed xs) ≡ c.p ++ box_at xs (shut_at b) ∷ c.q
  boxes_shut =
      boxes_closed xs v few ∙ ap (map shut_box) c.list ∙ shut_one c.p (box_at xs b) c.q c.nth none_behind
      ∙ ap (λ (f : Form). c.p ++ record { form = f; code = b.code; body = payload xs b } ∷ c.q) (form_moov b.code b.form code_is)

  -- and so are the bytes
  bytes_are : closed_at b xs ≡ closed xs
  bytes_are = sym (ap (closed_at b) (append-nil xs)) ∙ closed_file xs [] v (one_moov xs m) c code_is ∙ append-nil (closed xs)

  before_is : take b.at (closed xs) ≡ take b.at xs
  unfolding closed_at
  before_is = rw (← bytes_are) (before_size xs b.at b.span (omega (arith, c.inside, c.least, c.eight)) (is_open b.form))

  behind_is : (k : ℕ) → 4 ≤ k → drop (b.at + k) (closed xs) ≡ drop (b.at + k) xs
  unfolding closed_at
  behind_is k l = rw (← bytes_are) (behind_size xs b.at b.span (omega (arith, c.inside, c.least, c.eight)) (is_open b.form) k l)

  past_is : drop (b.at + b.span) (closed xs) ≡ drop (b.at + b.span) xs
  past_is = behind_is b.span (omega (arith, c.eight, c.least))

  pub payload_is : payload (closed xs) b ≡ payload xs b
  payload_is = ap (take (b.at + b.span - (b.at + b.head))) (behind_is b.head (omega (arith, c.eight)))

  pub around_is : (ys : List ℕ) → around xs (shut_at b) ys ≡ around (closed xs) (shut_at b) ys
  unfolding around
  around_is ys = rw (before_is, past_is)

  pub cut_shut : Cut (closed xs) MOOV 0 (shut_at b)
  cut_shut =
      record {
        p = c.p;
        q = c.q;
        list = rw payload_is boxes_shut;
        nth = c.nth;
        hit = c.hit;
        before = before_is ∙ c.before;
        past = past_is ∙ c.past ∙ rw (after_closed xs v few);
        head = c.head ∙ sym (shut_head b.form);
        eight = c.eight;
        least = c.least;
        inside = rw (length_closed xs) c.inside;
      }
