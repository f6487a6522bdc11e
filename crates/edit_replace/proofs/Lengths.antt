-- How long a file with another record is, by the length of the entry. Assumes nothing.
use Prim.Native.Nat.{ℕ, ◌+◌, ◌-◌, ◌≤◌, ◌<◌, min}
use native.Mathlib.Omega.{arith}
use mathlib.Core.Path.{◌≡◌, refl, ap, ◌∙◌}
use mathlib.Core.List.{List, [], ◌∷◌, map}
use lib.ListN.{length, take, drop, length-append, length-take, length-drop}
use lib.Seq.{drop-nil}
use Rattle.codes.specs.Codes.{MDIA, MINF, STBL, STSD}
use Rattle.boxes.specs.declared.walk.BoxAt.{BoxAt}
use Rattle.boxes.specs.declared.way.Turn.{Turn}
use Rattle.boxes.specs.Box.{Box, write, remade}
use Rattle.boxes.specs.Boxes.{FRONT, boxes, after}
use Rattle.boxes.specs.Walk.{payload}
use Rattle.boxes.specs.Seek.{ANY, count, find, nth, Cut}
use Rattle.boxes.specs.Way.{nth_by, over_nth, over_turn, edit_way, tail_by, around, BoxInside}
use Rattle.boxes.proofs.Meaning.{nth_hit, nth_next, nth_miss, by_hit, by_next, by_miss}
use Rattle.boxes.proofs.Numbered.{by_number, nth_there, found_short}
use Rattle.boxes.proofs.Reading.{length_cons, lengths}
use Rattle.boxes.proofs.Seeking.{payload_length}
use Rattle.boxes.proofs.Cutting.{cut_payload, cut_some}
use Rattle.boxes.proofs.Turning.{length_box_by}
use Rattle.boxes.proofs.Down.{end_of}
use Rattle.movie.specs.Ways.{to_stsd, follow}
use Rattle.movie.specs.Movie.{mdia, minf}
use Rattle.movie.specs.Named.{list_in}
use Rattle.edit_offsets.specs.Close.{shut_at}
use Rattle.edit_replace.specs.declared.place.Place.{Place}
use Rattle.edit_replace.specs.Replace.{turn}
use Rattle.edit_replace.specs.Places.{Within, way_in, record_there, length_in}
use Rattle.edit_replace.proofs.Shutting.{cut_inside, shut_inside}
use Rattle.edit_replace.proofs.Changing.{to_entry}

-- ---- one box: the part grows by as much as its body

list_grows : (c : ℕ) (f : List ℕ → List ℕ) (n : ℕ) (l : List Box) → n < count c l → length (write (nth_by c n f l)) + length (nth c n l) ≡ length (write l) + length (f (nth c n l))
unfolding count
list_grows c f =
    by_number c (λ n l. n < count c l → length (write (nth_by c n f l)) + length (nth c n l) ≡ length (write l) + length (f (nth c n l)))
    (λ n k. absurd (omega arith))
    (λ n x l e ih k. rw (by_miss c x l e f n, nth_miss c x l e n) (omega (arith, ih (omega arith), length_cons x (nth_by c n f l), length_cons x l)))
    (λ x l e k. rw (by_hit c x l e f, nth_hit c x l e) (omega (arith, length_cons (remade x (f x.body)) l, length_cons x l)))
    (λ n x l e ih k. rw (by_next c x l e f n, nth_next c x l e n) (omega (arith, ih (omega arith), length_cons x (nth_by c n f l), length_cons x l)))

over_grows : (c n : ℕ) (f : List ℕ → List ℕ) (xs : List ℕ) → n < count c (boxes xs) → length (over_nth c n f xs) + length (nth c n (boxes xs)) ≡ length xs + length (f (nth c n (boxes xs)))
unfolding over_nth
over_grows c n f xs h = omega (arith, length-append (write (nth_by c n f (boxes xs))) (after xs), list_grows c f n (boxes xs) h, lengths xs)

around_grows : (xs : List ℕ) (b : BoxAt) (ys : List ℕ) → BoxInside xs b → length (around xs b ys) + length (payload xs b) ≡ length xs + length ys
unfolding around
around_grows xs b ys i =
    let n = payload_length xs b i.least i.inside in
    rw (length-append, length-append, length_box_by, length-drop, length-take) (omega (arith, i.head, i.least, i.inside))

-- ---- a way to what isn't empty

end_none : (w : List Turn) → end_of w [] ≡ []
unfolding end_of boxes nth
end_none [] = refl
end_none (t ∷ w) = ap (λ (l : List ℕ). end_of w (nth t.code t.nth (boxes l))) (drop-nil t.skip) ∙ end_none w

way_grows : (w : List Turn) (h : List ℕ → List ℕ) (xs : List ℕ) → 1 ≤ length (end_of w xs) → length (edit_way w h xs) + length (end_of w xs) ≡ length xs + length (h (end_of w xs))
unfolding edit_way over_turn end_of
way_grows [] h xs l = omega arith
way_grows (t ∷ w) h xs l =
    let ys : List ℕ = drop t.skip xs in
    let z : List ℕ = nth t.code t.nth (boxes ys) in
    let p = nth_there t.code t.nth (boxes ys) (λ q. let m = ap length (ap (end_of w) q ∙ end_none w) in omega arith) in
    rw length-append (omega (arith, way_grows w h z l, over_grows t.code t.nth (λ us. edit_way w h us) ys p, length-take t.skip xs, length-drop t.skip xs))

-- ---- the file

module _ (n keep : ℕ) (new ys : List ℕ) {e : BoxAt} (c : Cut (list_in ys) ANY n e) where
  abbrev stsd : List ℕ
  stsd = follow to_stsd ys

  body_length : length (payload (list_in ys) e) ≡ e.span - e.head
  body_length = payload_length (list_in ys) e c.least c.inside

  stsd_length : (16 ≤ length stsd) × (e.span + 8 ≤ length stsd)
  unfolding list_in
  stsd_length = let l = length-drop FRONT stsd in (omega (arith, c.inside, c.least, c.eight), omega (arith, c.inside, c.least, c.eight))

  -- a track
  track_grows : length (edit_way (way_in n) (tail_by keep new) ys) + (e.span - e.head) ≡ length ys + (min keep (e.span - e.head) + length new)
  unfolding edit_way over_turn end_of follow list_in
  track_grows =
      let h : List ℕ → List ℕ = λ b. edit_way (to_entry n) (tail_by keep new) b in
      let a = way_grows (map (λ k. turn k 0) to_stsd) h ys (omega (arith, stsd_length.0)) in
      let o = over_grows ANY n (tail_by keep new) (list_in ys) (cut_some c) in
      let q = cut_payload (list_in ys) ANY n e c in
      let t = length-append (take keep (payload (list_in ys) e)) new in
      let u = length-take keep (payload (list_in ys) e) in
      let r = rw (← q) at o in
      omega (arith, a, r, t, u, body_length, length-append (take FRONT stsd) (over_nth ANY n (tail_by keep new) (drop FRONT stsd)), length-take FRONT stsd, length-drop FRONT stsd, stsd_length.0)

follow_short : (ys : List ℕ) → length (follow to_stsd ys) ≤ length ys
unfolding follow
follow_short ys =
    omega (arith, found_short MDIA 0 ys refl, found_short MINF 0 (find MDIA (boxes ys)) refl, found_short STBL 0 (find MINF (mdia ys)) refl, found_short STSD 0 (find STBL (minf ys)) refl)

module _ (xs : List ℕ) (b : BoxAt) (p : Place) (i : Within xs b p) where
  abbrev moov : List ℕ
  moov = payload xs b

  abbrev trak : List ℕ
  trak = payload moov p.trak

  pub entry_fits : (p.entry.head ≤ p.entry.span) × (p.entry.span ≤ length xs)
  entry_fits =
      let e = i.place.entry in
      let m = payload_length xs b i.moov.least i.moov.inside in
      let t = payload_length moov p.trak i.place.trak.least i.place.trak.inside in
      (e.least, omega (arith, (stsd_length p.nth 0 [] trak e).1, follow_short trak, m, t, i.moov.inside, i.place.trak.inside))

  pub length_in_lem : (keep : ℕ) (new : List ℕ) → length_in (length xs) p.entry keep (length new) ≡ length (record_there xs (shut_at b) p keep new)
  unfolding record_there
  length_in_lem keep new =
      let made : List ℕ = edit_way (way_in p.nth) (tail_by keep new) trak in
      let z : List ℕ = around moov p.trak made in
      let o = around_grows xs (shut_at b) z (shut_inside (cut_inside i.moov)) in
      let k = around_grows moov p.trak made (cut_inside i.place.trak) in
      omega (arith, o, k, track_grows p.nth keep new trak i.place.entry, entry_fits.1, i.place.entry.least)
