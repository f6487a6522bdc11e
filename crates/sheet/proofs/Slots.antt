-- The slot of one entry, as it is written. Assumes nothing.
use Rattle.std.specs.Prelude.{Option, Some, None}
use Prim.Native.Nat.{ℕ, ◌+◌, ◌-◌, ◌*◌, ◌/◌, ◌%◌, ◌<◌}
use native.Mathlib.Omega.{arith}
use mathlib.Core.Path.{◌≡◌}
use mathlib.Core.List.{List, [], ◌∷◌, append-nil}
use lib.ListN.{length, take, drop, drop_of_length-le}
use Rattle.wire.specs.Tests.{if_eq}
use Rattle.wire.specs.Numbers.{bytes_on, bytes, word}
use Rattle.wire.specs.Writing.{Put}
use Rattle.wire.proofs.Writing.{pen_none, pen_is}
use Rattle.wire.proofs.Tests.{eq_any}
use Rattle.movie.specs.declared.entry.EntryAt.{EntryAt}
use Rattle.movie.specs.Entries.{Entry, entries}
use Rattle.movie.specs.Named.{entry_as, NamedAs}
use Rattle.movie.proofs.Asking.{named_at, named_none}
use Rattle.entry_heads.specs.Kinds.{kind_of}
use Rattle.sheet.specs.Sheet.{slot, slot_of, slots}

-- ---- a slot

either : (m n a b : ℕ) → a < 256 → b < 256 → if_eq m n a b < 256
either = eq_any (λ k. k < 256)

pub kind_byte : (code : ℕ) → kind_of code < 256
unfolding kind_of
kind_byte code =
    either _ _ _ _ (omega arith)
    (either _ _ _ _ (omega arith)
    (either _ _ _ _ (omega arith)
    (either _ _ _ _ (omega arith) (either _ _ _ _ (omega arith) (either _ _ _ _ (omega arith) (omega arith))))))

-- two bytes and two zeros, as one number
pub two_is : (a b : ℕ) → a < 256 → b < 256 → bytes 4 (a * 16777216 + b * 65536) ≡ a ∷ b ∷ 0 ∷ 0 ∷ []
unfolding bytes bytes_on
two_is a b h k =
    let p : (a * 16777216 + b * 65536) / 256 ≡ a * 65536 + b * 256 = omega arith in
    let q : (a * 65536 + b * 256) / 256 ≡ a * 256 + b = omega arith in
    let r : (a * 256 + b) / 256 ≡ a = omega arith in
    let x : (a * 16777216 + b * 65536) % 256 ≡ 0 = omega arith in
    let y : (a * 65536 + b * 256) % 256 ≡ 0 = omega arith in
    let z : (a * 256 + b) % 256 ≡ b = omega arith in
    let w : a % 256 ≡ a = omega arith in
    rw (p, q, r, x, y, z, w)

-- the slot of an entry whose bytes are ys
pub slot_of_lem : (xs : List ℕ) (e : EntryAt) {ys : List ℕ} {code kind : ℕ} {out after : List ℕ} {at r : ℕ} → ys ≡ take e.span (drop e.place xs) → code ≡ word 4 ys 4 → kind ≡ kind_of code → Put (slot kind e.track e.place (length ys)) out at r after → Put (slot_of (entry_as xs e)) out at r after
slot_of_lem xs e f g k p = pen_is (rw (k, g, f)) p

-- what `&file[from..to]` lends
pub part_is : (xs : List ℕ) (p n : ℕ) → take (p + n - p) (drop p xs) ≡ take n (drop p xs)
part_is xs p n = let e : p + n - p ≡ n = omega arith in rw e

-- ---- the entries one by one

module _ (xs : List ℕ) (i : ℕ) (r : Option EntryAt) (s : NamedAs xs i r) where
  pub one_at : (e : EntryAt) → r ≡ Some e → take 1 (drop i (entries xs)) ≡ entry_as xs e ∷ []
  one_at e f = rw (named_at xs i r s e f).is

  pub one_none : r ≡ None → take 1 (drop i (entries xs)) ≡ []
  one_none f = let z : drop i (entries xs) ≡ [] = drop_of_length-le (entries xs) {i = i} (named_none xs i r s f) in rw z

module _ {es : List Entry} {e : Entry} (f : es ≡ e ∷ []) {out after : List ℕ} {at r : ℕ} where
  pub slot_one : Put (slot_of e) out at r after → Put (slots es) out at r after
  unfolding slots
  slot_one p = pen_is (rw (f, append-nil)) p

module _ {es : List Entry} (f : es ≡ []) (out : List ℕ) (at : ℕ) where
  pub slot_none : Put (slots es) out at at out
  unfolding slots
  slot_none = pen_is (rw f) (pen_none out at)
