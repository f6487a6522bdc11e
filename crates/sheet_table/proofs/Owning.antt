-- Laws of a track's own entries. Assumes nothing.
use Prim.Native.Nat.{ℕ, suc, ◌+◌, ◌-◌, ◌≤◌}
use native.Mathlib.Omega.{arith}
use mathlib.Core.Path.{◌≡◌, refl, sym, ◌∙◌}
use mathlib.Core.List.{List, [], ◌∷◌, ◌++◌}
use lib.ListN.{length, take, get_or}
use Rattle.wire.specs.Tests.{if_eq}
use Rattle.wire.specs.Numbers.{word}
use Rattle.wire.specs.Writing.{Put}
use Rattle.wire.proofs.Tests.{eq_yea, eq_nay, eq_any, through}
use Rattle.wire.proofs.Writing.{pen_none, pen_then, pen_is}
use Rattle.movie.specs.Entries.{Entry}
use Rattle.sheet.specs.Sheet.{bodies}
use Rattle.sheet_table.specs.Form.{first_of, read}
use Rattle.sheet_table.specs.Table.{own_entries}
use Rattle.sheet_table.proofs.Reading.{Past, read_none, read_more}

if_length : (a t : ℕ) (e : Entry) (es : List Entry) → length (if_eq a t (e ∷ es) es) ≡ if_eq a t 1 0 + length es
if_length a t e es =
    let p : 1 + length es ≡ suc (length es) = omega arith in
    let q : 0 + length es ≡ length es = omega arith in
    through length a t (e ∷ es) es ∙ sym (rw (p, q) at (through (λ n. n + length es) a t 1 0))

if_bodies : (a t : ℕ) (e : Entry) (es : List Entry) → bodies (if_eq a t (e ∷ es) es) ≡ if_eq a t e.bytes [] ++ bodies es
unfolding bodies
if_bodies a t e es = through bodies a t (e ∷ es) es ∙ sym (through (λ xs. xs ++ bodies es) a t e.bytes [])

pub one_most : (a t : ℕ) → if_eq a t 1 0 ≤ 1
one_most a t = eq_any (λ n. n ≤ 1) a t 1 0 (omega arith) (omega arith)

-- ---- how many

pub count_none : (t n : ℕ) (xs ys : List ℕ) → n ≡ 0 → 0 ≡ length (own_entries t (read n xs ys))
unfolding own_entries
count_none t n xs ys e = rw (read_none n xs ys e)

module _ (t : ℕ) {n : ℕ} {xs ys rest past : List ℕ} (h : n ≡ 0 → ⊥) (p : Past xs ys rest past) where
  pub count_more : {a o r : ℕ} → a ≡ get_or xs 1 0 → o ≡ if_eq a t 1 0 → r ≡ length (own_entries t (read (n - 1) rest past)) → o + r ≡ length (own_entries t (read n xs ys))
  unfolding own_entries
  count_more e f g = rw (f, e, g, read_more h p) (sym (if_length (get_or xs 1 0) t (first_of xs ys) _))

  -- ---- their bodies

  pub own_more : {a : ℕ} {first out mid after : List ℕ} {at m r : ℕ} → a ≡ get_or xs 1 0 → first ≡ take (word 4 xs 8) ys → Put (if_eq a t first []) out at m mid → Put (bodies (own_entries t (read (n - 1) rest past))) mid m r after → Put (bodies (own_entries t (read n xs ys))) out at r after
  unfolding own_entries
  own_more e f a b = rw (read_more h p) (pen_is (rw (e, f) (sym (if_bodies (get_or xs 1 0) t (first_of xs ys) _))) (pen_then a b))

pub own_none : (t n : ℕ) (xs ys out : List ℕ) (at : ℕ) → n ≡ 0 → Put (bodies (own_entries t (read n xs ys))) out at at out
unfolding own_entries bodies
own_none t n xs ys out at e = rw (read_none n xs ys e) (pen_none out at)

-- ---- one body

pub if_own : {a t : ℕ} {first out after : List ℕ} {at r : ℕ} → a ≡ t → Put first out at r after → Put (if_eq a t first []) out at r after
if_own e p = pen_is (eq_yea _ _ _ _ _ e refl) p

pub if_other : (a t : ℕ) (first out : List ℕ) (at : ℕ) → (a ≡ t → ⊥) → Put (if_eq a t first []) out at at out
if_other a t first out at e = pen_is (eq_nay _ _ _ _ _ e refl) (pen_none out at)
