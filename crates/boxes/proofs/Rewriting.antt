-- Laws of rewriting bodies. Assumes nothing.
use Prim.Native.Nat.{ℕ, ◌<◌}
use native.Mathlib.Omega.{arith}
use mathlib.Core.Path.{◌≡◌, refl, sym, ◌∙◌}
use mathlib.Core.List.{List, [], ◌∷◌, ◌++◌, map}
use lib.ListN.{length, length-append}
use Rattle.wire.specs.Numbers.{Bytes, bytes}
use Rattle.wire.proofs.Numbers.{bytes_append, bytes_bytes}
use Rattle.boxes.specs.declared.walk.Form.{Form}
use Rattle.boxes.specs.declared.walk.Form.TheVariants.{Plain, Wide, Open}
use Rattle.boxes.specs.Box.{Box, field_of, more_of, size, header, write}
use Rattle.boxes.specs.Boxes.{boxes, after}
use Rattle.boxes.specs.Rewrite.{Bodies, over, over_boxes}
use Rattle.boxes.proofs.Whole.{Good}
use Rattle.boxes.proofs.Reading.{All, Shut, Filled, parts, lengths, length_cons, write_boxes, bytes_after}
use Rattle.boxes.proofs.Reading.All.{none, some}
use Rattle.boxes.proofs.Reading.Shut.{end, next}
use Rattle.boxes.proofs.Written.{boxes_write, after_write}

pub open_over : (f : Bodies) (xs : List ℕ) → over_boxes f xs ≡ write (map (over f) (boxes xs)) ++ after xs
unfolding over_boxes
open_over f xs = refl

good_over : (f : Bodies) {l : List Box} → All Good l → All Good (map (over f) l)
good_over f none = none
good_over f (some {x} g a) = some {x = over f x} (record { code = g.code }) (good_over f a)

shut_over : (f : Bodies) {r : List ℕ} {l : List Box} → Shut r l → Shut r (map (over f) l)
shut_over f end = end
shut_over f (next {x} {l} o z) = next {x = over f x} {l = map (over f) l} (λ e. (rw (o e).0, (o e).1)) (shut_over f z)

-- ---- what a rewriting holds

module _ (f : Bodies) (xs : List ℕ) (h : Bytes xs) (s : length (over_boxes f xs) < 4294967296) where
  pub small : length (write (map (over f) (boxes xs))) < 4294967296
  unfolding over_boxes
  small = omega (arith, length-append (write (map (over f) (boxes xs))) (after xs))

  pub boxes_over : boxes (over_boxes f xs) ≡ map (over f) (boxes xs)
  unfolding over_boxes
  boxes_over = boxes_write (after xs) (parts xs h).rest (good_over f (parts xs h).good) (shut_over f (parts xs h).shut) small

  pub after_over : after (over_boxes f xs) ≡ after xs
  unfolding over_boxes
  after_over = after_write (after xs) (parts xs h).rest (good_over f (parts xs h).good) (shut_over f (parts xs h).shut) small

-- ---- lengths

module _ (f : Bodies) (keeps : (c : ℕ) (b : List ℕ) → length (f c b) ≡ length b) where
  length_map : (l : List Box) → length (write (map (over f) l)) ≡ length (write l)
  length_map [] = refl
  length_map (x ∷ l) = omega (arith, length_cons (over f x) (map (over f) l), length_cons x l, keeps x.code x.body, length_map l)

  pub length_over : (xs : List ℕ) → length (over_boxes f xs) ≡ length xs
  unfolding over_boxes
  length_over xs = length-append (write (map (over f) (boxes xs))) (after xs) ∙ omega (arith, length_map (boxes xs), lengths xs)

-- ---- a rewriting that changes nothing

module _ (f : Bodies) (stays : (c : ℕ) (b : List ℕ) → Bytes b → f c b ≡ b) where
  map_same : {l : List Box} → All Filled l → map (over f) l ≡ l
  map_same none = refl
  map_same (some {x} h a) = rw (stays x.code x.body h, map_same a)

  pub over_same : (xs : List ℕ) → Bytes xs → over_boxes f xs ≡ xs
  unfolding over_boxes
  over_same xs h = rw (map_same (parts xs h).filled) (write_boxes xs h)

-- ---- two rewritings in a row

module _ (f g e : Bodies) (joins : (c : ℕ) (b : List ℕ) → Bytes b → length (g c b) < 4294967296 → f c (g c b) ≡ e c b) where
  map_map : {l : List Box} → All Filled l → length (write (map (over g) l)) < 4294967296 → map (over f) (map (over g) l) ≡ map (over e) l
  map_map none s = refl
  map_map (some {x} {l} h a) s =
      let n = length_cons (over g x) (map (over g) l) in
      rw (joins x.code x.body h (omega arith), map_map a (omega arith))

  pub over_over : (xs : List ℕ) → Bytes xs → length (over_boxes g xs) < 4294967296 → over_boxes f (over_boxes g xs) ≡ over_boxes e xs
  over_over xs h s = open_over f (over_boxes g xs) ∙ rw (boxes_over g xs h s, after_over g xs h s, map_map (parts xs h).filled (small g xs h s)) (sym (open_over e xs))

-- ---- bytes

bytes_more : (f : Form) (n : ℕ) → Bytes (more_of f n)
bytes_more Plain n = λ i. omega arith
bytes_more Wide n = bytes_bytes 8 n
bytes_more Open n = λ i. omega arith

bytes_header : (x : Box) → Bytes (header x)
unfolding header
bytes_header x =
    bytes_append (bytes 4 (field_of x.form (size x))) (bytes 4 x.code ++ more_of x.form (size x)) (bytes_bytes 4 (field_of x.form (size x)))
    (bytes_append (bytes 4 x.code) (more_of x.form (size x)) (bytes_bytes 4 x.code) (bytes_more x.form (size x)))

pub bytes_write : {l : List Box} → All Filled l → Bytes (write l)
unfolding write
bytes_write none = λ i. omega arith
bytes_write (some {x} {l} h a) = bytes_append (header x) (x.body ++ write l) (bytes_header x) (bytes_append x.body (write l) h (bytes_write a))

module _ (f : Bodies) (bs : (c : ℕ) (b : List ℕ) → Bytes b → Bytes (f c b)) where
  filled_over : {l : List Box} → All Filled l → All Filled (map (over f) l)
  filled_over none = none
  filled_over (some {x} h a) = some {x = over f x} (bs x.code x.body h) (filled_over a)

  pub bytes_over : (xs : List ℕ) → Bytes xs → Bytes (over_boxes f xs)
  unfolding over_boxes
  bytes_over xs h = bytes_append (write (map (over f) (boxes xs))) (after xs) (bytes_write (filled_over (parts xs h).filled)) (bytes_after xs h)
