-- A sheet's count, its slots and its bodies, as code takes them. Assumes nothing.
use Prim.Native.Nat.{ℕ, ◌+◌, ◌≤◌, max}
use native.Mathlib.Omega.{arith}
use mathlib.Core.Path.{◌≡◌, refl, sym, ◌∙◌}
use mathlib.Core.Bool.{Bool, true, false}
use mathlib.Core.List.{List, [], ◌∷◌, ◌++◌}
use lib.ListN.{length, take, drop, get_or, replicate, length-drop}
use Rattle.std.specs.Str.{bytes_eq}
use Rattle.wire.specs.Clauses.{is_eq}
use Rattle.wire.specs.Writing.{Put}
use Rattle.wire.proofs.Comparing.{same_bad, same_good}
use Rattle.sheet.specs.Sheet.{SLOTS, edition_for, Second, bodies_at, slots, bodies, front, sheet}
use Rattle.sheet_table.specs.Form.{read, unsheet}
use Rattle.sheet_table.proofs.Reading.{read_length}
use Rattle.sheet.proofs.Editions.{edition_suits}
use Rattle.sheet.proofs.Writing.{front_length}
use Rattle.sheet_table.proofs.Making.{front_made, bodies_prefix}

pub record Opened (sheet : List ℕ) (n : ℕ) (xs ys : List ℕ) : Type 0 where
  pub count : n ≡ get_or sheet 1 0
  pub slots : xs ≡ drop 4 sheet
  pub bodies : ys ≡ drop (bodies_at (edition_for n)) sheet

pub opened : {s : List ℕ} {n : ℕ} {xs ys : List ℕ} → Opened s n xs ys → read n xs ys ≡ unsheet s
unfolding unsheet
opened o = rw (o.slots, o.bodies, o.count)

-- room for a table's own 16 bytes
pub opened_short : (s : List ℕ) {n : ℕ} {xs ys : List ℕ} → Opened s n xs ys → 16 + length ys ≤ max 16 (length s)
opened_short s {n} o = rw (o.bodies, length-drop) (omega (arith, edition_suits n refl))

-- ---- a sheet and the front that was made again

module _ {n : ℕ} (s : List ℕ) {xs ys made start again : List ℕ} {k r : ℕ} {f : Bool} (o : Opened s n xs ys) (h : n ≤ SLOTS) (b : k ≡ bodies_at (edition_for n))
    (p : Put (((edition_for n).number ∷ n ∷ 0 ∷ 0 ∷ []) ++ slots (read n xs ys)) (replicate (bodies_at Second) 0) 0 r made)
    (t : start ≡ take k s) (u : again ≡ take k made) (e : f ≡ bytes_eq start again) where
  counted : length (unsheet s) ≡ n
  counted = rw (← opened o) (read_length n xs ys)

  long : length (front (edition_for n) (unsheet s)) ≡ bodies_at (edition_for n)
  long = front_length (edition_for n) (unsheet s) (rw counted ((edition_suits n refl).few h))

  is : f ≡ bytes_eq (take (bodies_at (edition_for n)) s) (front (edition_for n) (unsheet s))
  is =
      let g = edition_suits n refl in
      let m = front_made (edition_for n) (read n xs ys) (bodies_at Second) (sym (read_length n xs ys)) (g.few h) (omega (arith, g)) p in
      e ∙ rw (t, u, b, m, opened o)

  pub made_bad : f ≡ false → false ≡ bytes_eq s (sheet (unsheet s))
  unfolding sheet
  made_bad = rw counted (same_bad s (front (edition_for n) (unsheet s)) (bodies (unsheet s)) long is)

  pub made_good : {span : ℕ} {q : Bool} → f ≡ true → span ≡ length (bodies (read n xs ys)) → q ≡ is_eq span (length ys)
      → q ≡ bytes_eq s (sheet (unsheet s))
  unfolding sheet
  made_good z l g =
      rw counted
      (same_good s (front (edition_for n) (unsheet s)) (bodies (unsheet s)) long is z
      (rw (← opened o, ← o.bodies) (bodies_prefix n xs ys))
      (g ∙ rw (l, opened o, o.bodies)))
