-- The clauses of the form, one by one. Assumes nothing.
use Prim.Native.Nat.{ℕ, ◌≤◌, ◌<◌}
use native.Mathlib.Omega.{arith}
use mathlib.Core.Path.{◌≡◌, sym, ◌∙◌}
use mathlib.Core.Bool.{Bool, true, false}
use mathlib.Core.List.{List}
use lib.ListN.{get_or}
use Rattle.std.specs.Str.{bytes_eq}
use Rattle.wire.proofs.Clauses.{is_le_lem, not_le, fails, holds, decides}
use Rattle.sheet.specs.Sheet.{SLOTS, sheet}
use Rattle.sheet_table.specs.Form.{read, unsheet, steps, all_meet, formed}
use Rattle.sheet_table.proofs.Opening.{Opened, opened}

module _ (s : List ℕ) where
  pub form_none : get_or s 1 0 < 1 → false ≡ formed s
  unfolding formed
  form_none h = fails 0 _ (not_le _ _ h)

  pub form_over : SLOTS < get_or s 1 0 → false ≡ formed s
  unfolding formed
  form_over h = fails 1 _ (not_le _ _ h)

  pub form_unlike : bytes_eq s (sheet (unsheet s)) ≡ false → false ≡ formed s
  unfolding formed
  form_unlike h = fails 2 _ h

module _ {n : ℕ} (s : List ℕ) {xs ys : List ℕ} {f : Bool} (o : Opened s n xs ys) (e : f ≡ steps 0 (read n xs ys)) where
  stepped : f ≡ steps 0 (unsheet s)
  stepped = rw (opened o) at e

  pub form_skips : f ≡ false → false ≡ formed s
  unfolding formed
  form_skips z = fails 3 _ (sym stepped ∙ z)

  pub form_last : {m r : Bool} → 1 ≤ n → n ≤ SLOTS → m ≡ bytes_eq s (sheet (unsheet s)) → m ≡ true → f ≡ true
      → r ≡ all_meet (read n xs ys) → r ≡ formed s
  unfolding formed
  form_last a b d i z g =
      g
      ∙ rw (opened o)
      (holds _ _ (is_le_lem _ _ (omega (arith, o.count)))
      (holds _ _ (is_le_lem _ _ (omega (arith, o.count)))
      (holds _ _ (sym d ∙ i)
      (holds _ _ (sym stepped ∙ z) (decides _)))))
