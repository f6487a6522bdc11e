-- An edit that changes no opaque box of the file's own is one of its `moov`, where that stands. Assumes nothing.
use Prim.Native.Nat.{ℕ, ◌+◌, ◌-◌}
use native.Mathlib.Omega.{arith}
use mathlib.Core.Path.{◌≡◌, refl, sym, ap, ◌∙◌}
use mathlib.Core.List.{List, [], ◌∷◌, ◌++◌, map, append_assoc}
use lib.ListN.{length, take, drop, length-append}
use lib.Seq.{take_at, drop_at}
use Rattle.codes.specs.Codes.{MOOV, TRAK, MDIA, MINF, STBL, DINF}
use Rattle.wire.specs.Tests.{if_eq}
use Rattle.wire.specs.Numbers.{Bytes}
use Rattle.wire.proofs.Tests.{eq_nay, eq_any}
use Rattle.boxes.specs.declared.walk.BoxAt.{BoxAt}
use Rattle.boxes.specs.Box.{Box, head, size, header, write, remade}
use Rattle.boxes.specs.Boxes.{boxes, after, total}
use Rattle.boxes.specs.Containers.{FILE, DEPTH, parent, kind_in}
use Rattle.boxes.specs.Walk.{payload, box_at}
use Rattle.boxes.specs.Seek.{count, meant, Cut}
use Rattle.boxes.specs.Rewrite.{Bodies, Leaves, over, edit_box, edit_in, in_body}
use Rattle.boxes.proofs.Whole.{length_header}
use Rattle.boxes.proofs.Reading.{write_boxes, write_cons, write_append}
use Rattle.boxes.proofs.Meaning.{meant_yes}
use Rattle.boxes.proofs.Numbered.{count_append}
use Rattle.boxes.proofs.Rewriting.{open_over}
use Rattle.boxes.proofs.Editing.{edit_deep, edit_length, edit_leaf, edit_node}
use Rattle.boxes.proofs.InPlace.{header_same}
use Rattle.boxes.proofs.Placing.{length_write, total_before}
use Rattle.boxes.proofs.Cutting.{cut_size}

-- ---- the file's own boxes

abbrev Not : ℕ → Type 0
Not n = n ≡ FILE → ⊥

parent_other : (c : ℕ) → (c ≡ MOOV → ⊥) → Not (parent c)
unfolding parent
parent_other c h =
    let q : Not (if_eq c TRAK MOOV (if_eq c MDIA TRAK (if_eq c MINF MDIA (if_eq c STBL MINF (if_eq c DINF MINF 0))))) =
    eq_any Not c _ _ _ (λ z. omega arith) (eq_any Not c _ _ _ (λ z. omega arith) (eq_any Not c _ _ _ (λ z. omega arith) (eq_any Not c _ _ _ (λ z. omega arith) (eq_any Not c _ _ _ (λ z. omega arith) (λ z. omega arith))))) in
    λ e. q (eq_nay c MOOV _ _ _ h refl ∙ e)

-- only `moov` is a container
kind_other : (c : ℕ) → (c ≡ MOOV → ⊥) → 0 ≡ kind_in FILE c
unfolding kind_in
kind_other c h = eq_nay _ _ _ _ _ (parent_other c h) refl

kind_moov : MOOV ≡ kind_in FILE MOOV
unfolding kind_in parent if_eq
kind_moov = refl

-- ---- one box among others

spread : (p : List Box) (x : Box) (q : List Box) (a rest : List ℕ) → (write (p ++ x ∷ q) ++ a) ++ rest ≡ (write p ++ header x) ++ (x.body ++ ((write q ++ a) ++ rest))
spread p x q a rest = rw (write_append p (x ∷ q), append_assoc (write p) (write (x ∷ q)) a, write_cons x q a) (simp append_assoc)

-- ---- b is the only `moov` of a file: its box, those before it and those after it

pub record OneMoov (xs : List ℕ) (b : BoxAt) : Type 0 where
  pub p : List Box
  pub x : Box
  pub q : List Box
  pub list : boxes xs ≡ p ++ x ∷ q
  pub code : x.code ≡ MOOV
  pub before : count MOOV p ≡ 0
  pub behind : count MOOV q ≡ 0
  pub at : b.at ≡ total p
  pub head : b.head ≡ head x
  pub span : b.span ≡ size x

-- as a search finds it
pub only_moov : {xs : List ℕ} {b : BoxAt} → Bytes xs → count MOOV (boxes xs) ≡ 1 → Cut xs MOOV 0 b → b.code ≡ MOOV → OneMoov xs b
unfolding count
only_moov {xs} {b} v n c e =
    record {
      p = c.p;
      x = box_at xs b;
      q = c.q;
      list = c.list;
      code = e;
      before = c.nth;
      behind = omega (arith, n, ap (count MOOV) c.list, count_append MOOV c.p (box_at xs b ∷ c.q), c.hit, c.nth);
      at = sym (total_before v c);
      head = c.head;
      span = cut_size v c;
    }

module _ (g : Leaves) (outer : (c : ℕ) (b : List ℕ) → g FILE c b ≡ b) (keeps : (k c : ℕ) (b : List ℕ) → length (g k c b) ≡ length b) where
  abbrev f : Bodies
  f = edit_box g (edit_in g 5) FILE

  same : (y : Box) → meant MOOV y.code ≡ 0 → over f y ≡ y
  same y h =
      let n : y.code ≡ MOOV → ⊥ = λ e. omega (arith, meant_yes MOOV y.code (λ z. omega arith) e) in
      rw (← edit_leaf g (edit_in g 5) FILE y.code y.body (kind_other y.code n) refl (sym (outer y.code y.body)))

  map_same : (l : List Box) → count MOOV l ≡ 0 → map (over f) l ≡ l
  unfolding count
  map_same [] h = refl
  map_same (y ∷ l) h = rw (same y (omega arith), map_same l (omega arith))

  map_one : (p : List Box) (x : Box) (q : List Box) → count MOOV p ≡ 0 → count MOOV q ≡ 0 → map (over f) (p ++ x ∷ q) ≡ p ++ over f x ∷ q
  unfolding count
  map_one [] x q h k = rw (map_same q k)
  map_one (y ∷ p) x q h k = rw (same y (omega arith), map_one p x q (omega arith) k)

  moov_is : (x : Box) → x.code ≡ MOOV → over f x ≡ remade x (edit_in g 5 MOOV x.body)
  moov_is x e =
      let k : MOOV ≡ kind_in FILE x.code = rw e kind_moov in
      rw (← edit_node g (edit_in g 5) FILE x.code x.body {ys = edit_in g 5 MOOV x.body} k (λ z. omega arith) refl)

  module _ (xs rest : List ℕ) (v : Bytes xs) (b : BoxAt) (o : OneMoov xs b) where
    abbrev new : List ℕ
    new = edit_in g 5 MOOV o.x.body

    abbrev front : List ℕ
    front = write o.p ++ header o.x

    abbrev end : List ℕ
    end = write o.q ++ after xs ++ rest

    -- the file, and what is made of it
    file_is : xs ++ rest ≡ front ++ (o.x.body ++ end)
    file_is = ap (λ (ys : List ℕ). ys ++ rest) (sym (write_boxes xs v) ∙ ap (λ (l : List Box). write l ++ after xs) o.list) ∙ spread o.p o.x o.q (after xs) rest

    edit_is : edit_in g DEPTH FILE xs ++ rest ≡ front ++ (new ++ end)
    edit_is =
        let l : map (over f) (boxes xs) ≡ o.p ++ remade o.x new ∷ o.q =
        ap (map (over f)) o.list ∙ map_one o.p o.x o.q o.before o.behind ∙ ap (λ (y : Box). o.p ++ y ∷ o.q) (moov_is o.x o.code) in
        ap (λ (ys : List ℕ). ys ++ rest) (sym (edit_deep g DEPTH FILE xs (λ z. omega arith)) ∙ open_over f xs ∙ ap (λ (m : List Box). write m ++ after xs) l)
        ∙ spread o.p (remade o.x new) o.q (after xs) rest
        ∙ ap (λ (h : List ℕ). write o.p ++ h ++ (new ++ end)) (header_same o.x new (edit_length g keeps 5 MOOV o.x.body))

    front_length : length front ≡ b.at + b.head
    front_length = rw (length-append, length_header, length_write o.p) (omega (arith, o.at, o.head))

    past_length : length (front ++ o.x.body) ≡ b.at + b.span
    past_length = rw (length-append, front_length) (omega (arith, o.head, o.span))

    -- what code leaves
    pub moov_edit : in_body (xs ++ rest) b (edit_in g 5 MOOV (payload (xs ++ rest) b)) ≡ edit_in g DEPTH FILE xs ++ rest
    unfolding in_body
    moov_edit =
        let t : take (b.at + b.head) (xs ++ rest) ≡ front = ap (take (b.at + b.head)) file_is ∙ take_at front (o.x.body ++ end) (b.at + b.head) front_length in
        let d : drop (b.at + b.head) (xs ++ rest) ≡ o.x.body ++ end = ap (drop (b.at + b.head)) file_is ∙ drop_at front (o.x.body ++ end) (b.at + b.head) front_length in
        let e : drop (b.at + b.span) (xs ++ rest) ≡ end =
        ap (drop (b.at + b.span)) (file_is ∙ sym (append_assoc front o.x.body end)) ∙ drop_at (front ++ o.x.body) end (b.at + b.span) past_length in
        let n : length o.x.body ≡ b.at + b.span - (b.at + b.head) = omega (arith, past_length, front_length, length-append front o.x.body) in
        rw (t, d, e, take_at o.x.body end (b.at + b.span - (b.at + b.head)) n) (sym edit_is)
