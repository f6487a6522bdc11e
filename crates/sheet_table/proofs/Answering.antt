-- What the table writer answers and leaves. Assumes nothing.
use Prim.Native.Nat.{ℕ, ◌+◌, ◌≤◌, ◌<◌}
use native.Mathlib.Omega.{arith}
use mathlib.Core.Path.{◌≡◌, sym, ◌∙◌}
use mathlib.Core.Bool.{Bool, true, false}
use mathlib.Core.List.{List, [], ◌∷◌}
use lib.ListN.{length, length-append}
use Rattle.codes.specs.Codes.{STSD}
use Rattle.wire.specs.Numbers.{bytes}
use Rattle.wire.specs.Writing.{Put}
use Rattle.wire.proofs.Numbers.{length_bytes_lem}
use Rattle.wire.proofs.Writing.{pen_then, pen_front}
use Rattle.boxes.specs.Containers.{LONGEST}
use Rattle.movie.specs.Entries.{Entry}
use Rattle.rule.specs.Results.{asked, in_limit, Exact}
use Rattle.rule.specs.Results.ToWrite.{gives}
use Rattle.rule.proofs.Results.{exact_short, exact_wrote, test_not, test_so, over_limit, in_limit_lem}
use Rattle.sheet.specs.Sheet.{bodies}
use Rattle.sheet_table.specs.Form.{read, unsheet, steps, formed}
use Rattle.sheet_table.specs.Table.{own_entries, table, track_table, table_result}
use Rattle.sheet_table.proofs.Opening.{Opened, opened}
use Rattle.sheet_table.proofs.Tracks.{formed_steps, has_track_lem, no_track}
use Rattle.rule.specs.Answers.{Answer, Done, Refused}

-- ---- the table

table_length : (es : List Entry) → length (table es) ≡ 16 + length (bodies es)
unfolding table
table_length es = rw (length-append, length-append, length-append, length-append, length_bytes_lem 4 (16 + length (bodies es)), length_bytes_lem 4 STSD, length_bytes_lem 4 0, length_bytes_lem 4 (length es))

pub table_put : (es : List Entry) {count span : ℕ} {out a b d e after : List ℕ} {i j l m r : ℕ} → count ≡ length es → span ≡ length (bodies es) → Put (bytes 4 (16 + span)) out 0 i a → Put (bytes 4 STSD) a i j b → Put (bytes 4 0) b j l d → Put (bytes 4 count) d l m e → Put (bodies es) e m r after → Put (table es) out 0 r after
unfolding table
table_put es c s pa pb pd pe po = pen_then (pen_then (pen_then (pen_then (rw s at pa) pb) pd) (rw c at pe)) po

-- ---- of a track's entries, the length of whose bodies a writer told first

module _ (es : List Entry) (out : List ℕ) {start after : List ℕ} {span : ℕ} (p : Put (bodies es) start 0 span after) where
  long : length (table es) ≡ 16 + span
  long = table_length es ∙ omega (arith, p.next)

  pub own_long : LONGEST < 16 + span → Exact (asked ((24, in_limit (table es)) ∷ []) (gives (table es))) out (Refused 24 0) out
  own_long l = over_limit (table es) out (omega (arith, long))

  module _ (l : 16 + span ≤ LONGEST) where
    pub own_short : length out < 16 + span → Exact (asked ((24, in_limit (table es)) ∷ []) (gives (table es))) out (Refused 25 0) out
    own_short m = in_limit_lem (table es) out (omega (arith, long)) (exact_short (table es) out (omega (arith, long)))

    pub own_done : {r : ℕ} {left : List ℕ} → 16 + span ≤ length out → Put (table es) out 0 r left → Exact (asked ((24, in_limit (table es)) ∷ []) (gives (table es))) out (Done r) left
    own_done m w = in_limit_lem (table es) out (omega (arith, long)) (exact_wrote (table es) out (omega (arith, long)) (pen_front w (omega (arith, long, w.next))))

-- ---- of a sheet

module _ (s out : List ℕ) (t : ℕ) {f : Bool} (e : f ≡ formed s) where
  pub sheet_torn : f ≡ false → Exact (table_result s t) out (Refused 30 0) out
  unfolding table_result
  sheet_torn z = test_not 30 _ _ _ out (sym e ∙ z)

  module _ (g : f ≡ true) {n : ℕ} {xs ys : List ℕ} (o : Opened s n xs ys) {count : ℕ} (c : count ≡ length (own_entries t (read n xs ys))) where
    few : count ≡ length (own_entries t (unsheet s))
    few = c ∙ rw (opened o)

    stepped : steps 0 (unsheet s) ≡ true
    stepped = formed_steps s (sym e ∙ g)

    pub sheet_track : count ≡ 0 → Exact (table_result s t) out (Refused 20 0) out
    unfolding table_result
    sheet_track z = test_so 30 _ _ _ out (sym e ∙ g) (test_not 20 _ _ _ out (sym (no_track t (unsheet s) stepped (sym few ∙ z))))

    pub sheet_own : (count ≡ 0 → ⊥) → {r : Answer} {left : List ℕ}
        → Exact (asked ((24, in_limit (table (own_entries t (read n xs ys)))) ∷ []) (gives (table (own_entries t (read n xs ys))))) out r left
        → Exact (table_result s t) out r left
    unfolding table_result track_table
    sheet_own h x =
        test_so 30 _ _ _ out (sym e ∙ g)
        (test_so 20 _ _ _ out (sym (has_track_lem t (unsheet s) stepped (omega (arith, few)))) (rw (opened o) at x))
