-- Writing slots. Assumes nothing.
use Prim.Native.Nat.{ℕ, ◌-◌}
use mathlib.Core.Path.{◌≡◌}
use mathlib.Core.List.{List}
use lib.ListN.{length, take, get_or}
use Rattle.wire.specs.Numbers.{word}
use Rattle.wire.specs.Writing.{Put}
use Rattle.wire.proofs.Writing.{pen_none, pen_then, pen_is}
use Rattle.entry_heads.specs.Kinds.{kind_of}
use Rattle.sheet.specs.Sheet.{slot, slot_of, slots}
use Rattle.sheet_table.specs.Form.{first_of, read}
use Rattle.sheet_table.proofs.Reading.{Past, read_none, read_more}

pub slots_none : (n : ℕ) (xs ys out : List ℕ) (at : ℕ) → n ≡ 0 → Put (slots (read n xs ys)) out at at out
unfolding slots
slots_none n xs ys out at e = rw (read_none n xs ys e) (pen_none out at)

module _ {n : ℕ} {xs ys rest past : List ℕ} (h : n ≡ 0 → ⊥) (p : Past xs ys rest past) where
  pub slots_more : {out mid after : List ℕ} {at m r : ℕ} → Put (slot_of (first_of xs ys)) out at m mid → Put (slots (read (n - 1) rest past)) mid m r after → Put (slots (read n xs ys)) out at r after
  unfolding slots
  slots_more a b = rw (read_more h p) (pen_then a b)

-- the first slot as it should be
pub first_put : (xs ys : List ℕ) {first out after : List ℕ} {kind code track place at r : ℕ} → kind ≡ kind_of code → code ≡ word 4 first 4 → first ≡ take (word 4 xs 8) ys → track ≡ get_or xs 1 0 → place ≡ word 4 xs 4 → Put (slot kind track place (length first)) out at r after → Put (slot_of (first_of xs ys)) out at r after
first_put xs ys k o f t p w = pen_is (rw (k, o, f, t, p)) w
