-- A whole box at the front of a part: its form, as facts, as bytes, and of a box that was written. Assumes nothing.
use Prim.Native.Nat.{ℕ, ◌+◌, ◌-◌, ◌<◌, ◌≤◌}
use native.Mathlib.Omega.{arith}
use mathlib.Core.Path.{◌≡◌, refl, sym, ap, ◌∙◌}
use mathlib.Core.Bool.{Bool, true, false}
use mathlib.Core.List.{List, [], ◌++◌, append_assoc, append-nil}
use lib.Dec.{eqb, leb}
use lib.ListN.{length, take, drop, length-append, length-drop, length-take, take-append-drop}
use lib.Seq.{take_at, drop_at, drop-drop, take-add}
use borrow.Author.Tests.{eqb-true, eqb-false, leb-true, le-leb}
use Rattle.wire.specs.Tests.{pick, if_eq, if_le}
use Rattle.wire.specs.Numbers.{Bytes, bytes, word}
use Rattle.wire.proofs.Tests.{eq_yea, eq_nay, both}
use Rattle.wire.proofs.Numbers.{length_bytes_lem, word_bytes, bytes_word, word_right}
use Rattle.boxes.specs.declared.walk.Form.{Form}
use Rattle.boxes.specs.declared.walk.Form.TheVariants.{Plain, Wide, Open}
use Rattle.boxes.specs.Box.{Box, head_of, field_of, more_of, header_by, head, size, header}
use Rattle.boxes.specs.Boxes.{form_of, size_by, head_front, size_of, whole, front_box}

-- ---- forms

pub head_least : (f : Form) → 8 ≤ head_of f
head_least Plain = omega arith
head_least Wide = omega arith
head_least Open = omega arith

pub head_most : (f : Form) → head_of f ≤ 16
head_most Plain = omega arith
head_most Wide = omega arith
head_most Open = omega arith

-- what holds in each case holds of the form at the front
pub form_by : (P : Form → Type 0) (xs : List ℕ) → (word 4 xs 0 ≡ 0 → P Open) → (word 4 xs 0 ≡ 1 → P Wide) → ((word 4 xs 0 ≡ 0 → ⊥) → (word 4 xs 0 ≡ 1 → ⊥) → P Plain) → P (form_of xs)
unfolding form_of if_eq
form_by P xs o w p = go _ _ refl refl
  where
    go : (s t : Bool) → eqb (word 4 xs 0) 0 ≡ s → eqb (word 4 xs 0) 1 ≡ t → P (pick s Open (pick t Wide Plain))
    go true t e f = o (eqb-true (word 4 xs 0) 0 e)
    go false true e f = w (eqb-true (word 4 xs 0) 1 f)
    go false false e f = p (eqb-false (word 4 xs 0) 0 e) (eqb-false (word 4 xs 0) 1 f)

-- ---- as facts

pub whole_true : (xs : List ℕ) → whole xs ≡ true → (head_front xs ≤ size_of xs) × (size_of xs ≤ length xs)
unfolding whole if_le
whole_true xs e =
    let a = both (leb (head_front xs) (size_of xs)) (pick (leb (size_of xs) (length xs)) true false) e in
    let b = both (leb (size_of xs) (length xs)) true a.1 in
    (leb-true _ _ a.0, leb-true _ _ b.0)

pub whole_of : (xs : List ℕ) → head_front xs ≤ size_of xs → size_of xs ≤ length xs → whole xs ≡ true
unfolding whole if_le
whole_of xs h l = simp (le-leb (head_front xs) (size_of xs) h, le-leb (size_of xs) (length xs) l)

pub not_whole : (xs : List ℕ) → (head_front xs ≤ size_of xs → size_of xs ≤ length xs → ⊥) → whole xs ≡ false
not_whole xs h = go (whole xs) refl
  where
    go : (t : Bool) → whole xs ≡ t → t ≡ false
    go true e = absurd (h (whole_true xs e).0 (whole_true xs e).1)
    go false e = refl

pub short_not : (xs : List ℕ) → length xs < 8 → whole xs ≡ false
short_not xs h = not_whole xs (λ k l. omega (arith, head_least (form_of xs)))

-- a whole box is not nothing
pub whole_least : (xs : List ℕ) → whole xs ≡ true → (8 ≤ size_of xs) × (size_of xs ≤ length xs)
whole_least xs e = let w = whole_true xs e in (omega (arith, head_least (form_of xs)), w.1)

-- ---- as bytes

pub length_more : (f : Form) (n : ℕ) → 8 + length (more_of f n) ≡ head_of f
length_more Plain n = refl
length_more Wide n = ap (λ (k : ℕ). 8 + k) (length_bytes_lem 8 n)
length_more Open n = refl

pub length_header_by : (f : Form) (n c : ℕ) → length (header_by f n c) ≡ head_of f
length_header_by f n c = rw (length-append, length-append) (omega (arith, length_bytes_lem 4 (field_of f n), length_bytes_lem 4 c, length_more f n))

pub length_header : (x : Box) → length (header x) ≡ head x
unfolding header
length_header x = length_header_by x.form (size x) x.code

pub size_front : (xs : List ℕ) → whole xs ≡ true → size (front_box xs) ≡ size_of xs
size_front xs e = let w = whole_true xs e in rw (length-take, length-drop) (omega arith)

-- the size field and what stands behind the code say the form and the size
field_front : (xs : List ℕ) → field_of (form_of xs) (size_of xs) ≡ word 4 xs 0
field_front xs = form_by (λ f. field_of f (size_by f xs) ≡ word 4 xs 0) xs sym sym (λ o w. refl)

more_front : (xs : List ℕ) → Bytes xs → head_front xs ≤ length xs → more_of (form_of xs) (size_of xs) ≡ take (head_front xs - 8) (drop 8 xs)
more_front xs h =
    form_by (λ f. head_of f ≤ length xs → more_of f (size_by f xs) ≡ take (head_of f - 8) (drop 8 xs)) xs
    (λ o l. refl) (λ w l. bytes_word 8 xs 8 h (omega arith)) (λ o w l. refl)

header_front : (xs : List ℕ) → Bytes xs → whole xs ≡ true → header (front_box xs) ≡ take (head_front xs) xs
unfolding header
header_front xs h e =
    let w = whole_true xs e in
    let l = head_least (form_of xs) in
    let n : 4 + (4 + (head_front xs - 8)) ≡ head_front xs = omega arith in
    rw (size_front xs e, field_front xs, more_front xs h (omega arith), bytes_word 4 xs 0 h (omega arith), bytes_word 4 xs 4 h (omega arith))
    (ap (λ (t : List ℕ). take 4 xs ++ t) (ap (λ (t : List ℕ). take 4 (drop 4 xs) ++ take (head_front xs - 8) t) (sym (drop-drop 4 4 xs)) ∙ sym (take-add 4 (head_front xs - 8) (drop 4 xs)))
    ∙ sym (take-add 4 (4 + (head_front xs - 8)) xs) ∙ ap (λ (k : ℕ). take k xs) n)

-- the box at the front, written again
pub rebox : (xs : List ℕ) → Bytes xs → whole xs ≡ true → header (front_box xs) ++ ((front_box xs).body ++ drop (size_of xs) xs) ≡ xs
rebox xs h e =
    let w = whole_true xs e in
    let s : head_front xs + (size_of xs - head_front xs) ≡ size_of xs = omega arith in
    let b : (front_box xs).body ++ drop (size_of xs) xs ≡ drop (head_front xs) xs =
    ap (λ (t : List ℕ). (front_box xs).body ++ t) (ap (λ (n : ℕ). drop n xs) (sym s) ∙ sym (drop-drop (size_of xs - head_front xs) (head_front xs) xs))
    ∙ take-append-drop (size_of xs - head_front xs) (drop (head_front xs) xs) in
    rw (header_front xs h e, b) (take-append-drop (head_front xs) xs)

-- ---- of a box that was written

-- a box whose header can be written
pub record Good (x : Box) : Type 0 where
  pub code : x.code < 4294967296

-- nothing stands past an open box
abbrev pub Ends : Box → List ℕ → Type 0
Ends x r = x.form ≡ Open → r ≡ []

-- the form and the size that a header says
form_told : (f : Form) (n : ℕ) (xs : List ℕ) → 8 ≤ n → word 4 xs 0 ≡ field_of f n → form_of xs ≡ f
unfolding form_of
form_told Plain n xs h e = sym (eq_nay _ _ _ _ _ (omega arith) (eq_nay _ _ _ _ _ (omega arith) refl))
form_told Wide n xs h e = sym (eq_nay _ _ _ _ _ (omega arith) (eq_yea _ _ _ _ _ e refl))
form_told Open n xs h e = sym (eq_yea _ _ _ _ _ e refl)

size_told : (f : Form) (n : ℕ) (xs : List ℕ) → word 4 xs 0 ≡ field_of f n → (f ≡ Wide → word 8 xs 8 ≡ n) → (f ≡ Open → length xs ≡ n) → size_by f xs ≡ n
size_told Plain n xs e w o = e
size_told Wide n xs e w o = w refl
size_told Open n xs e w o = o refl

field_fits : (f : Form) (n : ℕ) → n < 4294967296 → field_of f n < 4294967296
field_fits Plain n s = s
field_fits Wide n s = omega arith
field_fits Open n s = omega arith

module _ (x : Box) (r : List ℕ) (g : Good x) (s : size x < 4294967296) (o : Ends x r) where
  abbrev field : ℕ
  field = field_of x.form (size x)

  abbrev past : List ℕ
  past = more_of x.form (size x) ++ (x.body ++ r)

  -- the header in its pieces
  text_is : header x ++ (x.body ++ r) ≡ bytes 4 field ++ (bytes 4 x.code ++ past)
  unfolding header
  text_is = simp append_assoc

  field_box : word 4 (header x ++ (x.body ++ r)) 0 ≡ field
  field_box = rw text_is (word_bytes 4 field (bytes 4 x.code ++ past) (field_fits x.form (size x) s))

  code_box : word 4 (header x ++ (x.body ++ r)) 4 ≡ x.code
  code_box = rw text_is (word_right 4 (bytes 4 field) (bytes 4 x.code ++ past) 4 0 (length_bytes_lem 4 field) ∙ word_bytes 4 x.code past g.code)

  wide_box : x.form ≡ Wide → word 8 (header x ++ (x.body ++ r)) 8 ≡ size x
  wide_box e =
      rw (text_is) (word_right 8 (bytes 4 field) (bytes 4 x.code ++ past) 4 4 (length_bytes_lem 4 field) ∙ word_right 8 (bytes 4 x.code) past 4 0 (length_bytes_lem 4 x.code))
      ∙ ap (λ (f : Form). word 8 (more_of f (size x) ++ (x.body ++ r)) 0) e ∙ word_bytes 8 (size x) (x.body ++ r) (omega arith)

  open_box : x.form ≡ Open → length (header x ++ (x.body ++ r)) ≡ size x
  open_box e = rw (o e, append-nil, length-append, length_header)

  form_box : form_of (header x ++ (x.body ++ r)) ≡ x.form
  form_box = form_told x.form (size x) _ (omega (arith, head_least x.form)) field_box

  pub size_box : size_of (header x ++ (x.body ++ r)) ≡ size x
  size_box = rw form_box (size_told x.form (size x) _ field_box wide_box open_box)

  body_box : take (size x - head x) (drop (head x) (header x ++ (x.body ++ r))) ≡ x.body
  body_box = rw (drop_at (header x) (x.body ++ r) (head x) (length_header x)) (take_at x.body r (size x - head x) (omega arith))

  pub front_box_lem : front_box (header x ++ (x.body ++ r)) ≡ x
  front_box_lem = rw (size_box, form_box, code_box, body_box)

  pub rest_box : drop (size x) (header x ++ (x.body ++ r)) ≡ r
  rest_box = rw (← append_assoc) (drop_at (header x ++ x.body) r (size x) (rw (length-append, length_header)))

  pub whole_box : whole (header x ++ (x.body ++ r)) ≡ true
  whole_box = whole_of _ (rw (size_box, form_box) (omega arith)) (rw (size_box, length-append, length_header, length-append) (omega arith))
