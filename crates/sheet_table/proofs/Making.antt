-- A sheet that is made again of its own entries. Assumes nothing.
use Prim.Native.Nat.{ℕ, zero, suc, ◌+◌, ◌-◌, ◌*◌, ◌≤◌}
use native.Mathlib.Omega.{arith}
use mathlib.Core.Path.{◌≡◌, refl, sym, ap, ◌∙◌}
use mathlib.Core.List.{List, [], ◌∷◌, ◌++◌, append-nil}
use lib.ListN.{length, take, drop, replicate, length-append, length-replicate, drop_of_length-le}
use lib.Seq.{take_all, take-length, take-add, length-take-le, take-nil, take_at, drop_at}
use Rattle.wire.specs.Numbers.{word}
use Rattle.wire.specs.Writing.{Put}
use Rattle.wire.proofs.Writing.{pen_front}
use Rattle.wire.proofs.Tests.{lt_or}
use Rattle.movie.specs.Entries.{Entry}
use Rattle.sheet.specs.declared.edition.Edition.{Edition}
use Rattle.sheet.specs.Sheet.{SLOT, bodies_at, slots, bodies, front}
use Rattle.sheet.proofs.Writing.{slots_length, zeros_first}
use Rattle.sheet_table.specs.Form.{read}

-- ---- the front

drop_zeros : (m n : ℕ) → drop m (replicate {A = ℕ} n 0) ≡ replicate (n - m) 0
drop_zeros zero n = let e : n - 0 ≡ n = omega arith in rw e
drop_zeros (suc m) zero = let e : 0 - suc m ≡ 0 = omega arith in rw e
drop_zeros (suc m) (suc n) = let e : suc n - suc m ≡ n - m = omega arith in rw e (drop_zeros m n)

-- written over zeros, which may go on after it
pub front_made : (edition : Edition) (es : List Entry) (zeros : ℕ) {n r : ℕ} {made : List ℕ}
    → n ≡ length es → n ≤ edition.slots → bodies_at edition ≤ zeros → Put ((edition.number ∷ n ∷ 0 ∷ 0 ∷ []) ++ slots es) (replicate zeros 0) 0 r made
    → take (bodies_at edition) made ≡ front edition es
unfolding front
front_made edition es zeros {n} {r} {made} e h k p =
    let m = SLOT * (edition.slots - length es) in
    let text : List ℕ = (edition.number ∷ n ∷ 0 ∷ 0 ∷ []) ++ slots es in
    let l : r ≡ 4 + SLOT * length es = p.next ∙ rw (slots_length es) (omega arith) in
    let t : length text ≡ r = omega (arith, p.next) in
    let b : bodies_at edition ≡ r + m = omega arith in
    let w : made ≡ text ++ replicate (zeros - r) 0 = (pen_front p (rw length-replicate (omega arith))).is ∙ rw drop_zeros in
    rw (b, take-add r m made, w, take_at text _ r t, drop_at text _ r t, zeros_first m (zeros - r) (omega arith), e)

-- ---- the bodies are what follows, as far as they go

prefix_step : (m : ℕ) (ys bs : List ℕ) → bs ≡ take (length bs) (drop m ys) → take m ys ++ bs ≡ take (length (take m ys ++ bs)) ys
prefix_step m ys bs h =
    lt_or (length ys) m
    (λ f.
    let d : drop m ys ≡ [] = drop_of_length-le ys {i = m} (omega arith) in
    let b : bs ≡ [] = h ∙ rw d (take-nil (length bs)) in
    let a : take m ys ≡ ys = take_all m ys (omega arith) in
    rw (b, a, append-nil) (sym (take-length ys)))
    (λ f.
    let l = length-take-le m ys f in
    rw (length-append, l, take-add m (length bs) ys) (ap (λ (t : List ℕ). take m ys ++ t) h))

pub bodies_prefix : (n : ℕ) (xs ys : List ℕ) → bodies (read n xs ys) ≡ take (length (bodies (read n xs ys))) ys
unfolding read bodies
bodies_prefix zero xs ys = refl
bodies_prefix (suc n) xs ys = prefix_step (word 4 xs 8) ys (bodies (read n (drop SLOT xs) (drop (word 4 xs 8) ys))) (bodies_prefix n (drop SLOT xs) (drop (word 4 xs 8) ys))
