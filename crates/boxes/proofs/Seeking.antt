-- What the loops over the walk cite: how a part ends, the box that a step found, and those that a search passed. Assumes nothing.
use Prim.Native.Nat.{ℕ, ◌+◌, ◌-◌, ◌≤◌, ◌<◌}
use native.Mathlib.Omega.{arith}
use mathlib.Core.Path.{◌≡◌, refl, sym, ap, ◌∙◌}
use mathlib.Core.List.{List, [], ◌∷◌, ◌++◌, append_assoc, append-nil}
use lib.ListN.{length, take, drop, length-append, length-take, length-drop, take-append-drop}
use lib.Seq.{take_at, length-take-le}
use Rattle.wire.specs.Numbers.{Bytes}
use Rattle.wire.proofs.Clauses.{is_eq_lem, not_eq}
use Rattle.wire.proofs.Lists.{take_past}
use Rattle.wire.proofs.Numbers.{bytes_drop}
use Rattle.boxes.specs.declared.walk.Walk.{Walk}
use Rattle.boxes.specs.declared.walk.BoxAt.{BoxAt}
use Rattle.boxes.specs.Box.{Box, size, header, write}
use Rattle.boxes.specs.Boxes.{boxes, after}
use Rattle.boxes.specs.Walk.{payload, box_at, Ran, Over}
use Rattle.boxes.specs.Seek.{tiling_of, meant, count, Cut, Passed, Whole, Torn}
use Rattle.boxes.proofs.Whole.{length_header}
use Rattle.boxes.proofs.Reading.{write_boxes, write_cons, write_append}
use Rattle.boxes.proofs.Meaning.{meant_most}
use Rattle.boxes.proofs.Numbered.{count_append}

-- ---- how a part ends

module _ {xs : List ℕ} {at : ℕ} (e : after xs ≡ after (drop at xs)) (o : Over xs at) where
  past : length (after xs) ≡ length xs - at
  past = ap length (e ∙ o.rest) ∙ length-drop at xs

  pub ends_whole : length xs ≤ at → Whole ≡ tiling_of xs
  unfolding tiling_of
  ends_whole h = rw (is_eq_lem (length (after xs)) 0 (past ∙ omega arith))

  pub ends_torn : {p : ℕ} → p ≡ at → at < length xs → Torn p ≡ tiling_of xs
  unfolding tiling_of
  ends_torn q h = rw (not_eq (length (after xs)) 0 (λ z. omega (arith, past))) (ap Torn (rw past (omega arith)))

-- ---- the box that a step found

pub payload_length : (xs : List ℕ) (b : BoxAt) → b.head ≤ b.span → b.at + b.span ≤ length xs → length (payload xs b) ≡ b.span - b.head
payload_length xs b h k = rw (length-take, length-drop) (omega arith)

module _ {xs : List ℕ} {at : ℕ} {b : BoxAt} {w : Walk} (s : Ran xs at b w) where
  pub length_payload : length (payload xs b) ≡ b.span - b.head
  length_payload = payload_length xs b s.least (omega (arith, s.start, s.inside))

  -- as long as it says
  pub ran_size : size (box_at xs b) ≡ b.span
  ran_size = omega (arith, length_payload, s.least, s.head)

  -- the next starts where it ends
  pub ran_next : (p : ℕ) → p + at + size (box_at xs b) ≡ p + w.at
  ran_next p = omega (arith, ran_size, s.next)

  module _ (v : Bytes xs) where
    -- written again
    pub ran_bytes : drop at xs ≡ header (box_at xs b) ++ (payload xs b ++ drop w.at xs)
    ran_bytes =
        let p = rw (s.list, s.rest) at (write_boxes (drop at xs) (bytes_drop at xs v)) in
        sym p ∙ write_cons (box_at xs b) (boxes (drop w.at xs)) (after (drop w.at xs)) ∙ rw (write_boxes (drop w.at xs) (bytes_drop w.at xs v))

    here : take (at + b.span) xs ≡ take at xs ++ (header (box_at xs b) ++ payload xs b)
    here =
        let l : length (take at xs) ≡ at = length-take-le at xs (omega (arith, s.inside)) in
        let m : length (header (box_at xs b) ++ payload xs b) ≡ b.span = rw (length-append, length_header, length_payload) (omega (arith, s.least, s.head)) in
        ap (take (at + b.span)) (sym (take-append-drop at xs)) ∙ take_past (take at xs) (drop at xs) at b.span l
        ∙ ap (λ (t : List ℕ). take at xs ++ t) (ap (take b.span) (ran_bytes ∙ sym (append_assoc (header (box_at xs b)) (payload xs b) (drop w.at xs))) ∙ take_at (header (box_at xs b) ++ payload xs b) (drop w.at xs) b.span m)

-- ---- the boxes that a search passed

pub passed_none : (xs : List ℕ) (c : ℕ) → Passed xs c 0 0
unfolding count write
passed_none xs c = record { p = []; list = refl; hits = refl; bytes = refl; rest = refl; few = omega arith; inside = omega arith }

module _ {xs : List ℕ} {c seen at : ℕ} (i : Passed xs c seen at) where
  module _ {b : BoxAt} {w : Walk} (v : Bytes xs) (s : Ran xs at b w) {m : ℕ} (e : m ≡ seen + meant c b.code) where
    pub passed_more : Passed xs c m w.at
    unfolding count write
    passed_more =
        record {
          p = i.p ++ box_at xs b ∷ [];
          list = rw append_assoc (i.list ∙ ap (λ (z : List Box). i.p ++ z) s.list);
          hits = rw count_append (omega (arith, i.hits, e));
          bytes = rw (s.next, here s v, i.bytes, write_append i.p (box_at xs b ∷ []), append-nil);
          rest = i.rest ∙ s.rest;
          few = omega (arith, i.few, e, meant_most c b.code, s.next, s.least, s.eight);
          inside = omega (arith, s.next, s.inside);
        }

    pub passed_cut : {n : ℕ} → seen ≤ n → n < m → Cut xs c n b
    passed_cut h k =
        record {
          p = i.p;
          q = boxes (drop w.at xs);
          list = i.list ∙ ap (λ (z : List Box). i.p ++ z) s.list;
          nth = omega (arith, i.hits, e, meant_most c b.code);
          hit = omega (arith, e, meant_most c b.code);
          before = rw s.start i.bytes;
          past = rw (s.start, ← s.next, i.rest, s.rest) (sym (write_boxes (drop w.at xs) (bytes_drop w.at xs v)));
          head = s.head;
          eight = s.eight;
          least = s.least;
          inside = rw s.start s.inside;
        }

  pub passed_all : Over xs at → (seen ≡ count c (boxes xs)) × (seen ≤ length xs)
  passed_all o = (rw (i.list, o.list, append-nil, i.hits), omega (arith, i.few, i.inside))

  pub passed_over : {n : ℕ} → Over xs at → seen ≤ n → count c (boxes xs) ≤ n
  passed_over o h = omega (arith, (passed_all o).0)
