-- The entry of a number in the `stsd` of its track. Assumes nothing.
use Prim.Native.Nat.{ℕ, ◌-◌, ◌≤◌}
use native.Mathlib.Omega.{arith}
use mathlib.Core.Path.{◌≡◌, refl, sym, ap, ◌∙◌}
use mathlib.Core.List.{List, ◌∷◌, ◌++◌}
use lib.ListN.{length, drop, length-append, length-drop}
use Rattle.codes.specs.Codes.{STSD}
use Rattle.wire.specs.Numbers.{Bytes, word}
use Rattle.wire.proofs.Tests.{eq_nay}
use Rattle.boxes.specs.declared.walk.Form.TheVariants.{Plain}
use Rattle.boxes.specs.Box.{Box, header, write}
use Rattle.boxes.specs.Boxes.{boxes, FRONT}
use Rattle.boxes.specs.Seek.{ANY, count}
use Rattle.boxes.proofs.Whole.{Good, head_least}
use Rattle.boxes.proofs.Reading.{parts, lengths, length_cons, write_append}
use Rattle.boxes.proofs.Every.{all_here}
use Rattle.boxes.proofs.Tallying.{each_plain}
use Rattle.movie.specs.Ways.{follow}
use Rattle.movie.specs.Movie.{track, sample_table}
use Rattle.movie.specs.Stsds.{stsds}
use Rattle.movie.specs.Entries.{entries}
use Rattle.movie.specs.Named.{list_in, spot_in, bytes_at, In}
use Rattle.movie.proofs.Finding.{track_is, table_is}
use Rattle.movie.proofs.Naming.{bytes_list}
use Rattle.entry_heads.specs.Kinds.{kind_of}
use Rattle.judge.specs.Acceptance.{Meets}
use Rattle.edit_replace.specs.Replace.{kind_at}
use Rattle.edit_replace.proofs.Taking.{code_told}
use Rattle.promise_kept.proofs.Tables.{track_plain}
use Rattle.promise_kept.proofs.Spot.{entry_split}

-- entry i, from 1, is box n of the `stsd` of track t, both from 0
pub record EntryIn (xs : List ℕ) (i t n : ℕ) : Type 0 where
  pub before : List Box
  pub box : Box
  pub past : List Box
  pub list : boxes (drop FRONT (sample_table STSD (track xs t))) ≡ before ++ box ∷ past
  pub nth : count ANY before ≡ n
  pub good : Good box
  pub plain : box.form ≡ Plain
  pub kind : kind_of box.code ≡ kind_at xs i
  pub filled : Bytes (drop FRONT (sample_table STSD (track xs t)))
  pub room : FRONT ≤ length (sample_table STSD (track xs t))
  pub short : length (sample_table STSD (track xs t)) ≤ length xs

-- a list of boxes is not behind a front that is too short
room_is : (b : List ℕ) (p : List Box) (x : Box) (q : List Box) → boxes (drop FRONT b) ≡ p ++ x ∷ q → FRONT ≤ length b
room_is b p x q e =
    let l = ap (λ (m : List Box). length (write m)) e ∙ ap length (write_append p (x ∷ q)) ∙ length-append (write p) (write (x ∷ q)) in
    omega (arith, length-drop FRONT b, lengths (drop FRONT b), l, length_cons x q, head_least x.form)

kind_at_lem : (xs : List ℕ) (i : ℕ) (x : Box) → Good x → 1 ≤ i → bytes_at (i - 1) (entries xs) ≡ header x ++ x.body → kind_of x.code ≡ kind_at xs i
unfolding kind_at
kind_at_lem xs i x g h e = eq_nay _ _ _ _ _ (λ z. omega arith) (ap kind_of (sym (code_told x g)) ∙ ap (λ (b : List ℕ). kind_of (word 4 b 4)) (sym e))

-- where its spot says
pub entry_in_lem : (xs : List ℕ) (i : ℕ) → Bytes xs → Meets xs → 1 ≤ i → (t n : ℕ) → spot_in (stsds xs) (i - 1) ≡ In t n → EntryIn xs i t n
unfolding list_in sample_table follow track
entry_in_lem xs i w m h t n e =
    let s = entry_split xs (i - 1) t n e in
    let f : Bytes (drop FRONT (sample_table STSD (track xs t))) = bytes_list xs t w in
    let g = all_here s.before s.box s.past (rw s.list at (parts (drop FRONT (sample_table STSD (track xs t))) f).good) in
    record {
      before = s.before;
      box = s.box;
      past = s.past;
      list = s.list;
      nth = s.nth;
      good = g;
      plain = all_here s.before s.box s.past (rw s.list at (each_plain (boxes (drop FRONT (sample_table STSD (track xs t)))) (track_plain xs m t)));
      kind = kind_at_lem xs i s.box g h s.bytes;
      filled = f;
      room = room_is (sample_table STSD (track xs t)) s.before s.box s.past s.list;
      short = omega (arith, (track_is xs refl t refl).1, (table_is (track xs t) refl STSD refl refl refl).1);
    }
