-- The payload of a file's first `mdat`, by where it starts and how long it is: nothing else need be known of it to look there first. Assumes nothing.
use Prim.Native.Nat.{ℕ, ◌+◌, ◌<◌}
use native.Mathlib.Omega.{arith}
use mathlib.Core.Path.{◌≡◌, refl, ap}
use mathlib.Core.List.{List, [], ◌∷◌}
use lib.ListN.{length, drop}
use Rattle.codes.specs.Codes.{MDAT}
use Rattle.boxes.specs.Box.{Box, head}
use Rattle.boxes.specs.Boxes.{boxes}
use Rattle.boxes.specs.Seek.{meant, nth, find, start_in}
use Rattle.boxes.specs.Walk.{box_at, step_at, Ran, Stepped}
use Rattle.boxes.specs.declared.walk.Walk.{Walk}
use Rattle.boxes.specs.declared.walk.BoxAt.{BoxAt}
use Rattle.boxes.specs.declared.walk.Step.{Step}
use Rattle.boxes.specs.declared.walk.Step.TheVariants.{Found, End, Broken}
use Rattle.boxes.proofs.Meaning.{meant_or, meant_is, nth_hit, nth_miss, place_hit, place_miss}
use Rattle.boxes.proofs.Seeking.{length_payload, ran_size}
use Rattle.boxes.proofs.Walking.{stepped}
use Rattle.mdat.specs.declared.payload.Payload.{Payload}
use Rattle.mdat.specs.Search.{Start, Media, FirstMedia}
use Rattle.mdat.proofs.Starts.{start_front, start_next}
use Rattle.mdat.proofs.Searching.{start_media, media_none}

-- p is the payload of the first `mdat` of the boxes l, which stand from place `at` on
record Foremost (at : ℕ) (l : List Box) (p : Payload) : Type 0 where
  some : 0 < length (find MDAT l)
  start : p.start ≡ at + start_in MDAT 0 l
  end : p.end ≡ p.start + length (find MDAT l)

-- a payload with the same ends
media_as : {xs : List ℕ} {p q : Payload} → Media xs p → q.start ≡ p.start → q.end ≡ p.end → Media xs q
media_as m e f = record { inside = λ o n h k. m.inside o n (omega arith) (omega arith); next = rw f m.next }

-- the box at that place is the one, or the next ones have it
module _ {xs : List ℕ} {at : ℕ} {b : BoxAt} {w : Walk} (s : Start xs (at + 1) at) (r : Ran xs at b w) {l : List Box} {p : Payload} where
  first_here : meant MDAT b.code ≡ 1 → Foremost at (box_at xs b ∷ l) p → Media xs p
  unfolding start_in
  first_here m f =
      let n = nth_hit MDAT (box_at xs b) l m in
      let o = place_hit MDAT (box_at xs b) l m head in
      let k = length_payload r in
      media_as (start_media s r (meant_is MDAT b.code (λ z. omega arith) m)) (omega (arith, f.start, r.start))
      (omega (arith, f.start, f.end, ap length n, r.start, r.least))

  first_past : meant MDAT b.code ≡ 0 → Foremost at (box_at xs b ∷ l) p → Foremost w.at l p
  unfolding start_in
  first_past m f =
      let n = nth_miss MDAT (box_at xs b) l m 0 in
      let o = place_miss MDAT (box_at xs b) l m head 0 in
      record {
        some = rw n at f.some;
        start = omega (arith, f.start, o, r.next, ran_size r);
        end = rw n at f.end;
      }

-- from a place on, box by box
first_from : (xs : List ℕ) (p : Payload) (l : List Box) (at : ℕ) → boxes (drop at xs) ≡ l → Start xs (at + 1) at → Foremost at l p → Media xs p
unfolding nth
first_from xs p [] at e s f = absurd (omega (arith, f.some))
first_from xs p (x ∷ l) at e s f = go (step_at xs at) (stepped xs at) (first_from xs p l)
  where
    go : (t : Step) → Stepped xs at t → ((a : ℕ) → boxes (drop a xs) ≡ l → Start xs (a + 1) a → Foremost a l p → Media xs p) → Media xs p
    go (Found b w) r ih =
        let q : box_at xs b ≡ x = cc r.list in
        let g : Foremost at (box_at xs b ∷ l) p = rw q f in
        meant_or MDAT b.code (λ m. first_here s r m g) (λ m. ih w.at (cc r.list) (start_next s r) (first_past s r m g))
    go End r ih = let z : ◌≡◌ {A = ℕ} 0 1 = cc r.0.list in absurd (omega arith)
    go (Broken k) r ih = let z : ◌≡◌ {A = ℕ} 0 1 = cc r.0.list in absurd (omega arith)

-- of the whole file
pub first_media : {start end : ℕ} {r : Payload} → start < end → r.start ≡ start → r.end ≡ end → FirstMedia start end r
first_media {r = r} h e f =
    record {
      media = λ xs m k.
          first_from xs r (boxes xs) 0 refl (start_front xs 1) (record { some = omega arith; start = omega (arith, k (omega arith)); end = omega arith });
    }

pub first_none : {start end : ℕ} {r : Payload} → r.start ≡ 1 → r.end ≡ 0 → FirstMedia start end r
first_none {r = r} e f = record { media = λ xs m k. media_none xs r e f }
