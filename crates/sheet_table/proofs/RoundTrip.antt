-- A sheet that is made of entries says those entries, and a sheet of the right form is made of what it says. Assumes nothing.
use Prim.Native.Nat.{ℕ, ◌-◌, ◌*◌, ◌^◌, ◌≤◌, ◌<◌}
use mathlib.Core.Path.{◌≡◌, refl, sym, ap, ◌∙◌}
use mathlib.Core.Bool.{true}
use mathlib.Core.List.{List, [], ◌∷◌, ◌++◌, append_assoc}
use lib.ListN.{length, drop, get_or, replicate}
use lib.Seq.{take-append_seam, drop-append_seam, drop_at}
use Rattle.wire.specs.Numbers.{bytes, word}
use Rattle.wire.proofs.Clauses.{is_le_lem, holds, done, clause}
use Rattle.wire.proofs.Numbers.{length_bytes_lem, word_bytes, word_right}
use lib.Pointwise.{bytes_decides}
use Rattle.movie.specs.Entries.{Entry}
use Rattle.sheet.specs.Sheet.{SLOTS, SLOT, edition_for, bodies_at, slot, slots, bodies, front, sheet}
use Rattle.sheet_table.specs.Form.{read, unsheet, steps, all_meet, formed}
use Rattle.sheet_table.proofs.Reading.{read_length}
use Rattle.sheet.proofs.Editions.{edition_suits}
use Rattle.sheet.proofs.Writing.{slot_length, front_length}

-- what an entry says fits its slot
pub record Small (e : Entry) : Type 0 where
  pub place : e.place < 2 ^ 32
  pub span : length e.bytes < 2 ^ 32

pub data AllSmall : List Entry → Type 0 where
  none : AllSmall []
  more : {e : Entry} {es : List Entry} → Small e → AllSmall es → AllSmall (e ∷ es)

-- ---- a slot read back

module _ (kind track place span : ℕ) (zs : List ℕ) where
  slot_track : get_or (slot kind track place span ++ zs) 1 0 ≡ track
  unfolding slot
  slot_track = refl

  slot_place : place < 2 ^ 32 → word 4 (slot kind track place span ++ zs) 4 ≡ place
  unfolding slot
  slot_place h =
      ap (λ (xs : List ℕ). word 4 xs 4) (append_assoc (kind ∷ track ∷ 0 ∷ 0 ∷ [] ++ bytes 4 place) (bytes 4 span) zs)
      ∙ word_right 4 (kind ∷ track ∷ 0 ∷ 0 ∷ []) (bytes 4 place ++ (bytes 4 span ++ zs)) 4 0 refl
      ∙ word_bytes 4 place (bytes 4 span ++ zs) h

  slot_size : span < 2 ^ 32 → word 4 (slot kind track place span ++ zs) 8 ≡ span
  unfolding slot
  slot_size h =
      ap (λ (xs : List ℕ). word 4 xs 8) (append_assoc (kind ∷ track ∷ 0 ∷ 0 ∷ [] ++ bytes 4 place) (bytes 4 span) zs)
      ∙ word_right 4 (kind ∷ track ∷ 0 ∷ 0 ∷ [] ++ bytes 4 place) (bytes 4 span ++ zs) 8 0 (rw (length_bytes_lem 4 place))
      ∙ word_bytes 4 span zs h

  slot_past : drop SLOT (slot kind track place span ++ zs) ≡ zs
  slot_past = drop_at (slot kind track place span) zs SLOT (slot_length kind track place span)

-- ---- there and back

back : (es : List Entry) (zs : List ℕ) → AllSmall es → read (length es) (slots es ++ zs) (bodies es) ≡ es
unfolding read slots bodies
back [] zs none = refl
back (e ∷ es) zs (more s a) =
    rw (append_assoc, slot_track, slot_place _ _ _ _ _ s.place, slot_size _ _ _ _ _ s.span, slot_past, take-append_seam, drop-append_seam)
    (ap (λ (t : List Entry). e ∷ t) (back es zs a))

count_sheet : (es : List Entry) → get_or (sheet es) 1 0 ≡ length es
unfolding sheet front
count_sheet es = refl

pub unsheet_sheet : (es : List Entry) → length es ≤ SLOTS → AllSmall es → unsheet (sheet es) ≡ es
unfolding unsheet sheet front
unsheet_sheet es h a =
    let edition = edition_for (length es) in
    rw (drop_at (front edition es) (bodies es) (bodies_at edition) (front_length edition es ((edition_suits _ refl).few h)), append_assoc)
    (back es (replicate (SLOT * (edition.slots - length es)) 0 ++ bodies es) a)

-- such a sheet has the form where its tracks and its bodies have
pub formed_sheet : (es : List Entry) → 1 ≤ length es → length es ≤ SLOTS → AllSmall es → steps 0 es ≡ true → all_meet es ≡ true
    → formed (sheet es) ≡ true
unfolding formed
formed_sheet es m h a s b =
    let n : get_or (sheet es) 1 0 ≡ length es = count_sheet es in
    sym (rw (unsheet_sheet es h a, n)
    (holds _ _ (is_le_lem _ _ m) (holds _ _ (is_le_lem _ _ h) (holds _ _ ((bytes_decides (sheet es) (sheet es)).1 refl) (holds _ _ s (holds _ _ b done))))))

-- and back: a sheet of the form is the sheet of its own entries
pub sheet_unsheet : (xs : List ℕ) → formed xs ≡ true → sheet (unsheet xs) ≡ xs
unfolding formed
sheet_unsheet xs f = sym ((bytes_decides xs (sheet (unsheet xs))).0 (clause 2 _ f))

-- its first byte is the number of the edition that its count asks for
pub formed_edition : (xs : List ℕ) → formed xs ≡ true → get_or xs 0 0 ≡ (edition_for (get_or xs 1 0)).number
unfolding sheet front unsheet
formed_edition xs f =
    ap (λ (ys : List ℕ). get_or ys 0 0) (sym (sheet_unsheet xs f)) ∙ ap (λ n. (edition_for n).number) (read_length (get_or xs 1 0) (drop 4 xs) _)

-- so two sheets of the form that say the same entries are one
pub unsheet_one : (xs ys : List ℕ) → formed xs ≡ true → formed ys ≡ true → unsheet xs ≡ unsheet ys → xs ≡ ys
unsheet_one xs ys f g e = sym (sheet_unsheet xs f) ∙ ap sheet e ∙ sheet_unsheet ys g
