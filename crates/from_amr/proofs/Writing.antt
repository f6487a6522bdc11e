-- Laws of writing fields, and boxes one after the other and around what is written. Assumes nothing.
use Prim.Native.Nat.{ℕ, suc, ◌+◌, ◌-◌, ◌≤◌, ◌<◌}
use native.Mathlib.Omega.{arith}
use mathlib.Core.Path.{◌≡◌, refl, sym, ap, ◌∙◌}
use mathlib.Core.List.{List, [], ◌∷◌, ◌++◌, append-nil}
use lib.ListN.{length, get_or, drop, length-append, length-drop, drop_of_length-le}
use lib.Seq.{drop-cons}
use Rattle.wire.specs.Numbers.{bytes}
use Rattle.wire.specs.Tests.{if_eq}
use Rattle.wire.specs.Writing.{put, Put}
use Rattle.wire.proofs.Tests.{eq_yea, eq_nay}
use Rattle.wire.proofs.Numbers.{length_bytes_lem}
use Rattle.wire.proofs.Writing.{pen_none, pen_put, pen_past, pen_then, pen_is, pen_front}
use Rattle.boxes.specs.declared.walk.Form.TheVariants.{Plain}
use Rattle.boxes.specs.Box.{Box, plain_box, header, write}
use Rattle.boxes.specs.Way.{box_by, Under}
use Rattle.boxes.proofs.Reading.{write_append}
use Rattle.boxes.proofs.Turning.{pen_box}
use Rattle.from_amr.specs.Fields.{fields, span}

-- ---- fields

-- fewer than two numbers are none
fields_few : (l : List ℕ) → length l < 2 → fields l ≡ []
unfolding fields
fields_few [] h = refl
fields_few (w ∷ []) h = refl
fields_few (w ∷ n ∷ l) h = absurd (omega arith)

span_few : (l : List ℕ) → length l < 2 → span l ≡ 0
span_few [] h = refl
span_few (w ∷ []) h = refl
span_few (w ∷ n ∷ l) h = absurd (omega arith)

two_more : (xs : List ℕ) (i : ℕ) → i + 2 ≤ length xs → drop i xs ≡ get_or xs i 0 ∷ get_or xs (i + 1) 0 ∷ drop (i + 2) xs
two_more xs i h =
    let a : i + 1 ≡ suc i = omega arith in
    let b : i + 2 ≡ suc (suc i) = omega arith in
    rw (drop-cons xs i 0 (omega arith), drop-cons xs (suc i) 0 (omega arith), a, b)

fields_more : (xs : List ℕ) (i : ℕ) → i + 2 ≤ length xs → fields (drop i xs) ≡ bytes (get_or xs i 0) (get_or xs (i + 1) 0) ++ fields (drop (i + 2) xs)
unfolding fields
fields_more xs i h = rw (two_more xs i h)

-- the first width, and the others
pub span_more : (xs : List ℕ) (i : ℕ) → i + 2 ≤ length xs → span (drop i xs) ≡ get_or xs i 0 + span (drop (i + 2) xs)
span_more xs i h = rw (two_more xs i h)

-- so long are they
pub length_fields : (l : List ℕ) → length (fields l) ≡ span l
unfolding fields
length_fields [] = refl
length_fields (w ∷ []) = refl
length_fields (w ∷ n ∷ l) = rw (length-append, length_bytes_lem w n, length_fields l)

-- none is left, or one and then the others
pub fields_end : (xs out : List ℕ) (i at : ℕ) → length xs - i < 2 → Put (fields (drop i xs)) out at at out × (at ≡ at + span (drop i xs))
fields_end xs out i at h =
    let l : length (drop i xs) < 2 = rw length-drop h in
    (pen_is (sym (fields_few (drop i xs) l)) (pen_none out at), rw (span_few (drop i xs) l) (omega arith))

pub fields_next : (xs : List ℕ) (i : ℕ) {out mid after : List ℕ} {at a r : ℕ} → i + 2 ≤ length xs → Put (bytes (get_or xs i 0) (get_or xs (i + 1) 0)) out at a mid
    → Put (fields (drop (i + 2) xs)) mid a r after × (r ≡ a + span (drop (i + 2) xs)) → Put (fields (drop i xs)) out at r after × (r ≡ at + span (drop i xs))
fields_next xs i {at = at} {a} {r} h p q = (
  pen_is (sym (fields_more xs i h)) (pen_then p q.0),
  rw (span_more xs i h) (omega (arith, p.next, q.1, length_bytes_lem (get_or xs i 0) (get_or xs (i + 1) 0))),
)

-- ---- boxes

-- a box and then others
pub pen_boxes : (x : Box) (l : List Box) {out mid after : List ℕ} {at p r : ℕ} → Put (write (x ∷ [])) out at p mid → Put (write l) mid p r after
    → Put (write (x ∷ l)) out at r after
pen_boxes x l a b = pen_is (sym (write_append (x ∷ []) l)) (pen_then a b)

box_alone : (c : ℕ) (ys : List ℕ) → box_by Plain c ys ≡ write (plain_box c ys ∷ [])
unfolding box_by write
box_alone c ys = ap (λ (t : List ℕ). header (plain_box c ys) ++ t) (sym (append-nil ys))

-- a body, and then the header before it
pub pen_close : (c : ℕ) {ys out mid after : List ℕ} {at r : ℕ} → Put ys out (at + 8) r mid → Under Plain (r - at) c mid at r after
    → Put (write (plain_box c ys ∷ [])) out at r after
pen_close c {ys} p u = pen_is (box_alone c ys) (pen_box Plain c refl p refl u)

-- a box with a payload that is otherwise said
pub pen_body : (c : ℕ) {b d out after : List ℕ} {at r : ℕ} → b ≡ d → Put (write (plain_box c b ∷ [])) out at r after
    → Put (write (plain_box c d ∷ [])) out at r after
pen_body c e p = rw e at p

-- ---- parts of a table

-- what fills a buffer is all that it holds
pub pen_whole : {xs out after : List ℕ} {r : ℕ} → Put xs out 0 r after → length xs ≡ length out → after ≡ xs
pen_whole {xs} {out} {r = r} p h =
    let w = pen_front p (omega (arith, p.next)) in
    let e : drop r out ≡ [] = drop_of_length-le out {i = r} (omega (arith, p.next)) in
    w.is ∙ rw e (append-nil xs)

-- one item, and none
module _ (c n : ℕ) (l : List ℕ) {out after : List ℕ} {at r : ℕ} where
  pub one_none : n ≡ 0 → Put (write (plain_box c (fields (4 ∷ 0 ∷ 4 ∷ 0 ∷ [])) ∷ [])) out at r after
      → Put (write (plain_box c (if_eq n 0 (fields (4 ∷ 0 ∷ 4 ∷ 0 ∷ [])) (fields l)) ∷ [])) out at r after
  one_none h p = pen_body c (eq_yea n 0 _ _ _ h refl) p

  pub one_some : (n ≡ 0 → ⊥) → Put (write (plain_box c (fields l) ∷ [])) out at r after
      → Put (write (plain_box c (if_eq n 0 (fields (4 ∷ 0 ∷ 4 ∷ 0 ∷ [])) (fields l)) ∷ [])) out at r after
  one_some h p = pen_body c (eq_nay n 0 _ _ _ h refl) p
