-- The entries of one `stsd`, of which one gets another record. Assumes nothing.
use Prim.Native.Nat.{ℕ, ◌+◌, ◌-◌, ◌≤◌, ◌<◌}
use native.Mathlib.Omega.{arith}
use mathlib.Core.Path.{◌≡◌, refl, sym, ap, ◌∙◌}
use mathlib.Core.List.{List, [], ◌∷◌, ◌++◌, map, map-append}
use lib.ListN.{length, take, drop, length-append, length-map}
use lib.Seq.{drop_at, length-take-le}
use Rattle.codes.specs.Codes.{STSD}
use Rattle.wire.specs.Numbers.{Bytes}
use Rattle.boxes.specs.declared.walk.Form.{Form}
use Rattle.boxes.specs.declared.walk.Form.TheVariants.{Plain}
use Rattle.boxes.specs.Box.{Box, head_of, size, header, remade}
use Rattle.boxes.specs.Boxes.{HEAD, FRONT, boxes}
use Rattle.boxes.specs.Seek.{ANY}
use Rattle.boxes.specs.Way.{nth_by, over_nth, over_turn, tail_by, box_by}
use Rattle.boxes.proofs.Whole.{Good, length_header}
use Rattle.boxes.proofs.Meaning.{meant_any}
use Rattle.boxes.proofs.Numbered.{count_any}
use Rattle.boxes.proofs.OneOfList.{nth_by_lem}
use Rattle.boxes.proofs.OneOfPart.{boxes_nth}
use Rattle.movie.specs.Ways.{follow}
use Rattle.movie.specs.Movie.{track, sample_table}
use Rattle.movie.specs.Stsds.{Stsd}
use Rattle.movie.specs.Entries.{Entry, entries_from, entries_of}
use Rattle.movie.proofs.Finding.{track_is, table_is}
use Rattle.entry_heads.specs.Heads.{head_size}
use Rattle.edit_replace.specs.Replace.{kind_at}
use Rattle.edit_replace.proofs.Taking.{code_told}
use Rattle.promise_kept.proofs.Named.{EntryIn}
use Rattle.promise_differs.specs.Differs.{with_record, kept_of}
use Rattle.promise_differs.specs.OneEntry.{entry_with}
use Rattle.promise_differs.proofs.OneOfEntries.{bare, OneOf}

pub stsd_short : (xs : List ℕ) (t : ℕ) → length (sample_table STSD (track xs t)) ≤ length xs
unfolding sample_table follow track
stsd_short xs t = omega (arith, (track_is xs refl t refl).1, (table_is (track xs t) refl STSD refl refl refl).1)

-- a box of track t, wherever it stands
abbrev boxed : ℕ → Box → Entry
boxed t x = record { track = t; place = 0; bytes = header x ++ x.body }

bare_from : (t : ℕ) (l : List Box) (p : ℕ) → bare (entries_from t l p) ≡ map (boxed t) l
unfolding entries_from
bare_from t [] p = refl
bare_from t (x ∷ l) p = ap (λ (es : List Entry). boxed t x ∷ es) (bare_from t l (p + size x))

bare_of : (s : Stsd) → bare (entries_of s) ≡ map (boxed s.track) (boxes (drop FRONT s.body))
unfolding entries_of
bare_of s = bare_from s.track _ _

-- one of the same bytes
pub stsd_same : (s r : Stsd) → r.track ≡ s.track → r.body ≡ s.body → bare (entries_of r) ≡ bare (entries_of s)
stsd_same s r e f = rw (bare_of s, bare_of r, e, f)

-- ---- another record

-- an entry is a plain box, and with another record it is that box with another body
with_body : (x : Box) → Good x → x.form ≡ Plain → (kind : ℕ) (new : List ℕ)
    → header (remade x (tail_by (head_size kind - HEAD) new x.body)) ++ tail_by (head_size kind - HEAD) new x.body ≡ entry_with kind new (header x ++ x.body)
unfolding box_by
with_body x g p kind new =
    let b = tail_by (head_size kind - HEAD) new x.body in
    rw (code_told x g, drop_at (header x) x.body HEAD (length_header x ∙ ap head_of p))
    (ap (λ (f : Form). header (record { form = f; code = x.code; body = b }) ++ b) p)

-- the boxes past the front
with_boxes : (n keep : ℕ) (new b : List ℕ) → FRONT ≤ length b → Bytes (drop FRONT b) → length (with_record n keep new b) < 4294967296
    → boxes (drop FRONT (with_record n keep new b)) ≡ nth_by ANY n (tail_by keep new) (boxes (drop FRONT b))
unfolding over_turn
with_boxes n keep new b h v s =
    let c = over_nth ANY n (tail_by keep new) (drop FRONT b) in
    rw (drop_at (take FRONT b) c FRONT (length-take-le FRONT b h))
    (boxes_nth ANY n (tail_by keep new) (drop FRONT b) v (omega (arith, length-append (take FRONT b) c)))

-- the entries
pub stsd_one : (xs : List ℕ) (i : ℕ) (new : List ℕ) (t n : ℕ) → EntryIn xs i t n → (s r : Stsd) → r.track ≡ s.track → s.body ≡ sample_table STSD (track xs t)
    → r.body ≡ with_record n (kept_of xs i) new (sample_table STSD (track xs t)) → length r.body < 4294967296
    → OneOf (entry_with (kind_at xs i) new) n (entries_of s) (entries_of r)
stsd_one xs i new t n k s r e f g small =
    let by = tail_by (kept_of xs i) new in
    let them : List Box → List Entry = map (boxed s.track) in
    let made : boxes (drop FRONT r.body) ≡ k.before ++ remade k.box (by k.box.body) ∷ k.past =
    rw (g, with_boxes n (kept_of xs i) new (sample_table STSD (track xs t)) k.room k.filled (rw g at small), k.list)
    (nth_by_lem ANY by n k.before k.box k.past k.nth (sym (meant_any ANY k.box.code refl))) in
    let entry_of : List ℕ → Entry = λ b. record { track = s.track; place = 0; bytes = b } in
    let body = with_body k.box k.good k.plain (kind_at xs i) new in
    record {
      before = them k.before;
      one = boxed s.track k.box;
      past = them k.past;
      was = rw (bare_of s, f, k.list) (map-append (boxed s.track) k.before _);
      made = rw (bare_of r, e, made, map-append) (ap (λ (b : List ℕ). them k.before ++ entry_of b ∷ them k.past) body);
      nth = rw length-map (sym (count_any k.before) ∙ k.nth);
    }
