-- The slots of all entries, and the whole sheet, as they are written. Assumes nothing.
use Prim.Native.Nat.{ℕ, zero, suc, ◌+◌, ◌-◌, ◌*◌, ◌≤◌}
use native.Mathlib.Omega.{arith}
use mathlib.Core.Path.{◌≡◌, refl, sym, ap, ◌∙◌}
use mathlib.Core.List.{List, [], ◌∷◌, ◌++◌, append_assoc}
use lib.ListN.{length, take, drop, replicate, length-append, length-replicate}
use lib.Seq.{take-add, take_all}
use Rattle.wire.specs.Writing.{Put}
use Rattle.wire.proofs.Numbers.{length_bytes_lem}
use Rattle.wire.proofs.Writing.{pen_none, pen_then, pen_is}
use Rattle.movie.specs.Entries.{Entry, entries}
use Rattle.sheet.specs.declared.edition.Edition.{Edition}
use Rattle.sheet.specs.Sheet.{SLOT, edition_for, bodies_at, slot, slots, bodies, front, sheet}
use Rattle.sheet.specs.Fits.{SheetFits}
use Rattle.sheet.specs.Reader.{sheet_of}
use Rattle.sheet.proofs.Editions.{edition_suits}

-- ---- lengths

pub slot_length : (kind track place span : ℕ) → length (slot kind track place span) ≡ SLOT
unfolding slot
slot_length kind track place span = rw (length-append, length-append, length_bytes_lem 4 place, length_bytes_lem 4 span)

pub slots_length : (es : List Entry) → length (slots es) ≡ SLOT * length es
unfolding slots
slots_length [] = refl
slots_length (e ∷ es) = rw (length-append, slot_length, slots_length es) (omega arith)

pub front_length : (edition : Edition) (es : List Entry) → length es ≤ edition.slots → length (front edition es) ≡ bodies_at edition
unfolding front
front_length edition es h = rw (length-append, slots_length es, length-replicate) (omega arith)

-- bodies that were written from where they start end where the sheet ends
pub sheet_ends : (xs : List ℕ) → SheetFits xs → {n at : ℕ} → n ≡ length (entries xs) → at ≡ bodies_at (edition_for n)
    → {out after : List ℕ} {r : ℕ} → Put (bodies (entries xs)) out at r after → length (sheet_of xs) ≡ r
unfolding sheet_of sheet
sheet_ends xs f g h p =
    let l = front_length (edition_for (length (entries xs))) (entries xs) ((edition_suits _ refl).few f.few) in
    rw (length-append, l, ← g, ← h) (sym p.next)

-- ---- the slots

slots_append : (es fs : List Entry) → slots (es ++ fs) ≡ slots es ++ slots fs
unfolding slots
slots_append [] fs = refl
slots_append (e ∷ es) fs = rw (slots_append es fs, append_assoc)

pub slots_start : (es : List Entry) (out : List ℕ) (at : ℕ) → Put (slots (take 0 es)) out at at out
unfolding slots
slots_start es out at = pen_none out at

pub slots_more : (es : List Entry) (i : ℕ) {out mid after : List ℕ} {at m r : ℕ} → Put (slots (take i es)) out at m mid → Put (slots (take 1 (drop i es))) mid m r after
    → Put (slots (take (i + 1) es)) out at r after
slots_more es i p q = pen_is (sym (ap slots (take-add i 1 es) ∙ slots_append (take i es) (take 1 (drop i es)))) (pen_then p q)

-- ---- the whole

-- the first of so many zeros
pub zeros_first : (k n : ℕ) → k ≤ n → take k (replicate {A = ℕ} n 0) ≡ replicate k 0
zeros_first zero n h = refl
zeros_first (suc k) zero h = absurd (omega arith)
zeros_first (suc k) (suc n) h = ap (λ (l : List ℕ). 0 ∷ l) (zeros_first k n (omega arith))

pub sheet_put : (xs : List ℕ) {n : ℕ} {e : Edition} → n ≡ length (entries xs) → e ≡ edition_for n → {out a b c after : List ℕ} {i j k r : ℕ}
    → Put (e.number ∷ n ∷ 0 ∷ 0 ∷ []) out 0 i a → Put (slots (take n (entries xs))) a i j b → Put (replicate (SLOT * (e.slots - n)) 0) b j k c
    → Put (bodies (entries xs)) c k r after → Put (sheet_of xs) out 0 r after
unfolding sheet_of sheet front
sheet_put xs {n} g h pa pb pc po =
    let t : take n (entries xs) ≡ entries xs = take_all n (entries xs) (omega arith) in
    pen_is (rw (h, t, g)) (pen_then (pen_then (pen_then pa pb) pc) po)
