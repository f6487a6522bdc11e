-- A payload's place in the file: it resolves to where it is, and its bytes stand there. Assumes nothing.
use Prim.Native.Nat.{ℕ, ◌+◌, ◌-◌, ◌≤◌, ◌<◌}
use native.Mathlib.Omega.{arith}
use mathlib.Core.Path.{◌≡◌, ap, ◌∙◌}
use mathlib.Core.List.{List, [], ◌∷◌, ◌++◌, append_assoc}
use lib.ListN.{length, get_or, take, drop, length-append, length-drop}
use lib.Seq.{take-append-le, drop-append-le}
use Rattle.codes.specs.Codes.{MDAT}
use Rattle.wire.proofs.Lists.{drop_past}
use Rattle.boxes.specs.Box.{Box, head, size, header, write}
use Rattle.boxes.proofs.Whole.{head_least, length_header}
use Rattle.mdat.specs.Payloads.{mdats, spot, resolve, place_of}
use Rattle.mdat.proofs.Payloads.{resolve_here, resolve_past, mdats_hit, place_hit, within_hit}
use Rattle.mdat.proofs.Behind.{Behind, front_or}

-- ---- a box that was written

module _ (x : Box) (l : List Box) where
  pub write_long : length (write (x ∷ l)) ≡ size x + length (write l)
  unfolding write
  write_long = rw (length-append, length-append, length_header x) (omega arith)

  drop_box : (p : ℕ) → drop (size x + p) (write (x ∷ l)) ≡ drop p (write l)
  unfolding write
  drop_box p = rw (← append_assoc) (drop_past (header x ++ x.body) (write l) (size x) p (rw (length-append, length_header x)))

  drop_head : (i : ℕ) → drop (head x + i) (write (x ∷ l)) ≡ drop i (x.body ++ write l)
  unfolding write
  drop_head i = drop_past (header x) (x.body ++ write l) (head x) i (length_header x)

-- n bytes from i on do not see what follows the list that they are in
take_inside : (xs ys : List ℕ) (i n : ℕ) → i + n ≤ length xs → take n (drop i (xs ++ ys)) ≡ take n (drop i xs)
take_inside xs ys i n h =
    let b : n ≤ length (drop i xs) = rw length-drop (omega arith) in
    rw (drop-append-le i xs ys (omega arith), take-append-le n (drop i xs) ys b)

-- ---- n bytes from i bytes into payload j on

pub record There (l : List Box) (j i n : ℕ) : Type 0 where
  pub low : 0 < place_of l j i
  pub high : place_of l j i + n ≤ length (write l)
  pub back : resolve l (place_of l j i) ≡ spot j i
  pub bytes : take n (drop (place_of l j i) (write l)) ≡ take n (drop i (get_or (mdats l) j []))

there_here : (x : Box) (l : List Box) (i n : ℕ) → x.code ≡ MDAT → i + n ≤ length x.body → There (x ∷ l) 0 i n
there_here x l i n e k =
    let p = place_hit x e l i in
    let q : head x + i - head x ≡ i = omega arith in
    record {
      low = rw p (omega (arith, head_least x.form));
      high = rw p (omega (arith, write_long x l));
      back = rw p (resolve_here x l (head x + i) (omega arith) ∙ within_hit x e (head x + i) (omega arith) ∙ ap (spot 0) q);
      bytes = rw (p, mdats_hit x e l, drop_head x l i) (take_inside x.body (write l) i n k);
    }

there_behind : (x : Box) (l : List Box) (j k i n : ℕ) → Behind x j k → There l j i n → There (x ∷ l) k i n
there_behind x l j k i n b t =
    let p = b.place l i in
    let q : size x + place_of l j i - size x ≡ place_of l j i = omega arith in
    record {
      low = rw p (omega (arith, t.low));
      high = rw p (omega (arith, write_long x l, t.high));
      back = rw p (resolve_past x l (size x + place_of l j i) (omega (arith, t.low)) ∙ rw (q, t.back) (b.spots i));
      bytes = rw (p, b.body l, drop_box x l (place_of l j i)) t.bytes;
    }

pub there : (l : List Box) (j i n : ℕ) → j < length (mdats l) → i + n ≤ length (get_or (mdats l) j []) → There l j i n
unfolding mdats
there [] j i n h k = absurd (omega arith)
there (x ∷ l) j i n h k =
    front_or x l j h
    (λ c e. rw (← e) (there_here x l i n c (rw (← e, mdats_hit x c l) at k)))
    (λ m b z. there_behind x l m j i n b (there l m i n z (rw (b.body l) at k)))
