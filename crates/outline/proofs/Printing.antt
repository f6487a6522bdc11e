-- Laws of printed lines. Assumes nothing.
use Prim.Native.Nat.{ℕ, zero, suc, ◌-◌, ◌/◌, ◌%◌}
use native.Mathlib.Omega.{arith}
use mathlib.Core.Path.{◌≡◌, refl, sym, ◌∙◌}
use mathlib.Core.Bool.{Bool, true, false}
use mathlib.Core.List.{List, [], ◌∷◌, ◌++◌, map, append_assoc, append-nil}
use Rattle.wire.specs.Clauses.{every}
use Rattle.wire.specs.Numbers.{bytes}
use Rattle.wire.specs.Text.{text}
use Rattle.wire.specs.Writing.{Put}
use Rattle.wire.proofs.Writing.{pen_none, pen_then}
use Rattle.outline.specs.Lines.{Line, prints, digit, hex, code_printed, line_text, printed}

-- ---- digits of base 16

pub hex_none : {w : ℕ} (n : ℕ) (out : List ℕ) (at : ℕ) → w ≡ 0 → Put (hex w n) out at at out
unfolding hex
hex_none n out at e = rw e (pen_none out at)

pub hex_more : (w n : ℕ) {b : ℕ} {out mid after : List ℕ} {at m r : ℕ} → (w ≡ 0 → ⊥) → Put (hex (w - 1) (n / 16)) out at m mid
    → b ≡ digit (n % 16) → Put (b ∷ []) mid m r after → Put (hex w n) out at r after
unfolding hex
hex_more zero n z p e q = absurd (z refl)
hex_more (suc w) n z p e q = let s : suc w - 1 ≡ w = omega arith in pen_then (rw s at p) (rw e at q)

-- ---- a code

module _ (c : ℕ) {i : Bool} (e : i ≡ every (map prints (bytes 4 c))) where
  pub code_stands : i ≡ true → bytes 4 c ≡ code_printed c
  unfolding code_printed
  code_stands z = rw (sym e ∙ z)

  pub code_hex : i ≡ false → text "0x" ++ hex 8 c ≡ code_printed c
  unfolding code_printed
  code_hex z = rw (sym e ∙ z)

-- ---- a line alone, and one list of lines after another

pub printed_one : (l : Line) → line_text l ≡ printed (l ∷ [])
unfolding printed
printed_one l = sym (append-nil (line_text l))

pub printed_append : (l m : List Line) → printed (l ++ m) ≡ printed l ++ printed m
unfolding printed
printed_append [] m = refl
printed_append (x ∷ l) m = rw (printed_append l m, append_assoc)
