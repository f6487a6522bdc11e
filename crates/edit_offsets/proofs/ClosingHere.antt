-- The one `moov` of a list of boxes closed where it stands. Assumes nothing.
use Prim.Native.Nat.{ℕ, ◌+◌, ◌<◌}
use native.Mathlib.Omega.{arith}
use mathlib.Core.Path.{◌≡◌, refl, sym, ap, ◌∙◌}
use mathlib.Core.List.{List, [], ◌∷◌, ◌++◌, map, append_assoc}
use lib.ListN.{length}
use lib.Seq.{take_at, drop_at}
use Rattle.wire.proofs.Lists.{drop_past}
use Rattle.wire.specs.Tests.{pick}
use Rattle.wire.specs.Numbers.{Bytes, bytes}
use Rattle.wire.specs.Writing.{put}
use Rattle.wire.proofs.Numbers.{length_bytes_lem}
use Rattle.codes.specs.Codes.{MOOV}
use Rattle.boxes.specs.declared.walk.BoxAt.{BoxAt}
use Rattle.boxes.specs.declared.walk.Form.{Form}
use Rattle.boxes.specs.declared.walk.Form.TheVariants.{Plain, Wide, Open}
use Rattle.boxes.specs.Box.{Box, is_open, head_of, size, header, write}
use Rattle.boxes.specs.Boxes.{boxes, total, after}
use Rattle.boxes.specs.Walk.{box_at}
use Rattle.boxes.specs.Seek.{count, meant, Cut}
use Rattle.boxes.proofs.Reading.{write_boxes, write_cons, write_append}
use Rattle.boxes.proofs.Meaning.{meant_yes}
use Rattle.boxes.proofs.Numbered.{count_append}
use Rattle.boxes.proofs.Placing.{length_write, total_before}
use Rattle.boxes.proofs.Cutting.{cut_size}
use Rattle.boxes.proofs.InMoov.{OneMoov}
use Rattle.edit_offsets.specs.Close.{shut_form, shut_box, closed, closed_at}
use Rattle.edit_offsets.proofs.Closing.{form_moov, form_other, form_head, shut_size, shut_total, shut_count}
use Rattle.edit_offsets.proofs.ClosedFile.{boxes_closed}

-- as many bytes in the place of others
put_there : (a u v w : List ℕ) (n : ℕ) → length a ≡ n → length u ≡ length v → put (a ++ (u ++ w)) n v ≡ a ++ (v ++ w)
unfolding put
put_there a u v w n e f = rw (take_at a (u ++ w) n e, drop_past a (u ++ w) n (length v) e, drop_at u w (length v) f)

-- ---- other boxes stay

other_box : (x : Box) → meant MOOV x.code ≡ 0 → shut_box x ≡ x
other_box x h =
    ap (λ (f : Form). record { form = f; code = x.code; body = x.body }) (form_other x.code x.form (λ e. omega (arith, meant_yes MOOV x.code (λ z. omega arith) e)))

others : (l : List Box) → count MOOV l ≡ 0 → map shut_box l ≡ l
unfolding count
others [] h = refl
others (x ∷ l) h = rw (other_box x (omega arith), others l (omega arith))

pub shut_one : (p : List Box) (x : Box) (q : List Box) → count MOOV p ≡ 0 → count MOOV q ≡ 0 → map shut_box (p ++ x ∷ q) ≡ p ++ shut_box x ∷ q
unfolding count
shut_one [] x q h k = rw (others q k)
shut_one (y ∷ p) x q h k = rw (other_box y (omega arith), shut_one p x q (omega arith) k)

-- ---- the `moov`

spread : (p : List Box) (x : Box) (q : List Box) (rest : List ℕ) → write (p ++ x ∷ q) ++ rest ≡ write p ++ (header x ++ (x.body ++ (write q ++ rest)))
spread p x q rest = rw (write_append p (x ∷ q), append_assoc) (ap (λ (t : List ℕ). write p ++ t) (write_cons x q rest))

module _ (p : List Box) (x : Box) (q : List Box) (rest : List ℕ) (n : ℕ) (at : n ≡ total p) where
  abbrev whole : List ℕ
  whole = write (p ++ x ∷ q) ++ rest

  abbrev made : Form → List ℕ
  made f = write (p ++ record { form = f; code = x.code; body = x.body } ∷ q) ++ rest

  by_form : (f : Form) → x.form ≡ f → pick (is_open f) (put whole n (bytes 4 (size x))) whole ≡ made (shut_form f)
  unfolding header
  by_form Plain e = ap (λ (g : Form). made g) e
  by_form Wide e = ap (λ (g : Form). made g) e
  by_form Open e =
      let y : Box = record { form = Open; code = x.code; body = x.body } in
      let w : whole ≡ made Open = ap made e in
      let m : List ℕ = bytes 4 x.code ++ [] in
      let t : List ℕ = x.body ++ (write q ++ rest) in
      let s : size x ≡ 8 + length x.body = ap (λ (g : Form). head_of g + length x.body) e in
      let v : List ℕ = bytes 4 (8 + length x.body) in
      let a : made Open ≡ write p ++ (bytes 4 0 ++ (m ++ t)) = spread p y q rest ∙ ap (λ (k : List ℕ). write p ++ k) (append_assoc (bytes 4 0) m t) in
      let b : made Plain ≡ write p ++ (v ++ (m ++ t)) =
      spread p (record { form = Plain; code = x.code; body = x.body }) q rest ∙ ap (λ (k : List ℕ). write p ++ k) (append_assoc v m t) in
      let c : put (write p ++ (bytes 4 0 ++ (m ++ t))) n v ≡ write p ++ (v ++ (m ++ t)) =
      put_there (write p) (bytes 4 0) v (m ++ t) n (length_write p ∙ sym at) (length_bytes_lem 4 0 ∙ sym (length_bytes_lem 4 _)) in
      ap (λ (k : List ℕ). put k n (bytes 4 (size x))) (w ∙ a) ∙ ap (λ (k : ℕ). put (write p ++ (bytes 4 0 ++ (m ++ t))) n (bytes 4 k)) s ∙ c ∙ sym b

-- b is the one `moov` of the list
pub closed_here : (p : List Box) (x : Box) (q : List Box) (rest : List ℕ) (b : BoxAt) → x.code ≡ MOOV → count MOOV p ≡ 0 → count MOOV q ≡ 0
    → b.at ≡ total p → b.form ≡ x.form → b.span ≡ size x → closed_at b (write (p ++ x ∷ q) ++ rest) ≡ write (map shut_box (p ++ x ∷ q)) ++ rest
unfolding closed_at
closed_here p x q rest b c h k at f s =
    rw (s, f, shut_one p x q h k, form_moov x.code x.form c) (by_form p x q rest b.at at x.form refl)

-- of a file, as a search finds it
pub closed_file : (xs rest : List ℕ) {b : BoxAt} → Bytes xs → count MOOV (boxes xs) ≡ 1 → Cut xs MOOV 0 b → b.code ≡ MOOV → closed_at b (xs ++ rest) ≡ closed xs ++ rest
unfolding closed count
closed_file xs rest {b} v n c e =
    let l : List Box = c.p ++ box_at xs b ∷ c.q in
    let k : count MOOV c.q ≡ 0 = omega (arith, n, ap (count MOOV) c.list, count_append MOOV c.p (box_at xs b ∷ c.q), c.hit, c.nth) in
    let w : xs ≡ write l ++ after xs = sym (write_boxes xs v) ∙ ap (λ (m : List Box). write m ++ after xs) c.list in
    let z : xs ++ rest ≡ write l ++ (after xs ++ rest) = ap (λ (t : List ℕ). t ++ rest) w ∙ append_assoc (write l) (after xs) rest in
    let h = closed_here c.p (box_at xs b) c.q (after xs ++ rest) b e c.nth k (sym (total_before v c)) refl (cut_size v c) in
    ap (closed_at b) z ∙ h ∙ sym (append_assoc (write (map shut_box l)) (after xs) rest) ∙ ap (λ (m : List Box). write (map shut_box m) ++ after xs ++ rest) (sym c.list)

-- it is then the one `moov` there
map_append : (p q : List Box) → map shut_box (p ++ q) ≡ map shut_box p ++ map shut_box q
map_append [] q = refl
map_append (x ∷ p) q = ap (λ (l : List Box). shut_box x ∷ l) (map_append p q)

pub only_closed : {xs : List ℕ} {b : BoxAt} → Bytes xs → length xs < 4294967296 → OneMoov xs b → OneMoov (closed xs) b
only_closed {xs} {b} v s o =
    record {
      p = map shut_box o.p;
      x = shut_box o.x;
      q = map shut_box o.q;
      list = boxes_closed xs v s ∙ ap (map shut_box) o.list ∙ map_append o.p (o.x ∷ o.q);
      code = o.code;
      before = shut_count MOOV o.p ∙ o.before;
      behind = shut_count MOOV o.q ∙ o.behind;
      at = o.at ∙ sym (shut_total o.p);
      head = o.head ∙ sym (form_head o.x.code o.x.form);
      span = o.span ∙ sym (shut_size o.x);
    }
