-- Laws of writing. Assumes nothing.
use Prim.Native.Nat.{ℕ, ◌+◌, ◌≤◌, ◌<◌}
use native.Mathlib.Omega.{arith}
use native.Mathlib.Nat.{add_assoc}
use native.Mathlib.Numerals.{add-one}
use mathlib.Core.Path.{◌≡◌, refl, sym, ap, ◌∙◌}
use mathlib.Core.List.{List, [], ◌∷◌, ◌++◌, append_assoc}
use lib.ListN.{length, take, drop, set, length-append, length-take, length-drop, take-append-drop}
use lib.Seq.{take-append-le, take-take, take_at, drop_at, drop-drop, length-take-le, set_split}
use Rattle.wire.specs.Writing.{put, Wrote, Put}

-- ---- put

pub open_put : (out : List ℕ) (at : ℕ) (xs : List ℕ) → put out at xs ≡ take at out ++ (xs ++ drop (at + length xs) out)
unfolding put
open_put out at xs = refl

pub put_one : (out : List ℕ) (at b : ℕ) → at < length out → set out at b ≡ put out at (b ∷ [])
unfolding put
put_one out at b h = rw add-one (set_split out at b h)

pub put_none : (out : List ℕ) (at : ℕ) → put out at [] ≡ out
unfolding put
put_none out at = let e : at + 0 ≡ at = omega arith in rw e (take-append-drop at out)

pub length_put : (out : List ℕ) (at : ℕ) (xs : List ℕ) → at + length xs ≤ length out → length (put out at xs) ≡ length out
unfolding put
length_put out at xs h = rw (length-append, length-append, length-take, length-drop) (omega arith)

pub take_put : (out : List ℕ) (at : ℕ) (xs : List ℕ) → at + length xs ≤ length out → take (at + length xs) (put out at xs) ≡ take at out ++ xs
unfolding put
take_put out at xs h = rw (← append_assoc) (take_at (take at out ++ xs) (drop (at + length xs) out) (at + length xs) (rw (length-append, length-take) (omega arith)))

pub drop_put : (out : List ℕ) (at : ℕ) (xs : List ℕ) → at + length xs ≤ length out → drop (at + length xs) (put out at xs) ≡ drop (at + length xs) out
unfolding put
drop_put out at xs h = rw (← append_assoc) (drop_at (take at out ++ xs) (drop (at + length xs) out) (at + length xs) (rw (length-append, length-take) (omega arith)))

-- one part right after another
pub put_put : (out : List ℕ) (at : ℕ) (xs ys : List ℕ) → at + length xs + length ys ≤ length out → put (put out at xs) (at + length xs) ys ≡ put out at (xs ++ ys)
put_put out at xs ys h =
    let d : drop (at + length xs + length ys) (put out at xs) ≡ drop (at + length xs + length ys) out =
    sym (drop-drop (length ys) (at + length xs) (put out at xs)) ∙ rw (drop_put out at xs (omega arith)) (drop-drop (length ys) (at + length xs) out) in
    open_put (put out at xs) (at + length xs) ys ∙ rw (take_put out at xs (omega arith), d, append_assoc, ← append_assoc xs) (sym (open_put out at (xs ++ ys) ∙ rw (length-append, add_assoc)))

-- one part right before another
pub put_before : (out : List ℕ) (at : ℕ) (xs ys : List ℕ) → at + length xs + length ys ≤ length out → put (put out (at + length xs) ys) at xs ≡ put out at (xs ++ ys)
unfolding put
put_before out at xs ys h =
    let l : length (take (at + length xs) out) ≡ at + length xs = length-take-le (at + length xs) out (omega arith) in
    let t : take at (take (at + length xs) out ++ (ys ++ drop (at + length xs + length ys) out)) ≡ take at out = take-append-le at (take (at + length xs) out) (ys ++ drop (at + length xs + length ys) out) (omega arith) ∙ take-take at (at + length xs) out (omega arith) in
    let d : drop (at + length xs) (take (at + length xs) out ++ (ys ++ drop (at + length xs + length ys) out)) ≡ ys ++ drop (at + length xs + length ys) out = drop_at (take (at + length xs) out) _ (at + length xs) l in
    rw (t, d, length-append, ← add_assoc) (simp append_assoc)

-- ---- to the front

pub wrote_put : {xs out after : List ℕ} → after ≡ put out 0 xs → Wrote xs out (length xs) after
unfolding put
wrote_put {xs} e = let z : 0 + length xs ≡ length xs = omega arith in record { span = refl; is = rw z at e }

-- ---- total writers

-- nothing
pub pen_none : (out : List ℕ) (at : ℕ) → Put [] out at at out
pen_none out at = record { next = omega arith; same = refl; is = λ h. sym (put_none out at) }

-- where it fits it was put, and where not nothing was
pub pen_put : (xs out : List ℕ) {at r : ℕ} {after : List ℕ} → r ≡ at + length xs → r ≤ length out → after ≡ put out at xs → Put xs out at r after
pen_put xs out {at} {r} n h e = record { next = n; same = ap length e ∙ length_put out at xs (omega arith); is = λ k. e }

pub pen_past : (xs out : List ℕ) {at r : ℕ} → r ≡ at + length xs → length out < r → Put xs out at r out
pen_past xs out n h = record { next = n; same = refl; is = λ k. absurd (omega arith) }

-- one text and then another
pub pen_then : {xs ys out mid after : List ℕ} {at m r : ℕ} → Put xs out at m mid → Put ys mid m r after → Put (xs ++ ys) out at r after
pen_then {xs} {ys} {out} {mid} {after} {at} {m} {r} a b =
    record {
      next = rw length-append (omega (arith, a.next, b.next));
      same = b.same ∙ a.same;
      is = λ h.
          let e : m ≡ at + length xs = a.next in
          b.is (omega (arith, a.same)) ∙ rw (a.is (omega (arith, b.next)), e) (put_put out at xs ys (omega (arith, b.next)));
    }

-- the same text, otherwise said
pub pen_is : {xs ys out after : List ℕ} {at r : ℕ} → xs ≡ ys → Put xs out at r after → Put ys out at r after
pen_is e p = rw e at p

-- a text at the front that has room
pub pen_front : {xs out after : List ℕ} {r : ℕ} → Put xs out 0 r after → r ≤ length out → Wrote xs out r after
pen_front {xs} {r = r} p h = let e : length xs ≡ r = omega (arith, p.next) in rw e at (wrote_put (p.is h))
