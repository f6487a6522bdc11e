-- The list of a track, past the front of its `stsd`. Assumes nothing.
use Prim.Native.Nat.{ℕ, ◌+◌, ◌-◌, ◌≤◌, ◌<◌}
use native.Mathlib.Omega.{arith}
use mathlib.Core.Path.{◌≡◌, sym, ap, subst, ◌∙◌}
use mathlib.Core.List.{List}
use lib.ListN.{length, take, drop, length-drop}
use lib.Seq.{take_all}
use Rattle.codes.specs.Codes.{MOOV, TRAK}
use Rattle.boxes.specs.Boxes.{FRONT, boxes}
use Rattle.boxes.specs.Seek.{ANY, count, start_in}
use Rattle.movie.specs.Ways.{to_stsd, follow, start_along}
use Rattle.movie.specs.Movie.{movie, track}
use Rattle.movie.specs.Named.{list_in, list_start}
use Rattle.layout.specs.declared.gather.Slot.{Slot}
use Rattle.layout.specs.Slots.{slot_in, nowhere, Lies}
use Rattle.layout.specs.Track.{At}
use Rattle.layout.specs.Entries.{ListAt}
use Rattle.layout.proofs.Slots.{slot_part, slot_length}
use Rattle.layout.proofs.Few.{nil_of, no_boxes, none_counted}

-- ---- no list

list_empty : (xs : List ℕ) (t : ℕ) {s : Slot} → s ≡ nowhere → length (list_in (track xs t)) ≡ 0 → ListAt xs t s
list_empty xs t e z =
    subst (ListAt xs t) (sym e) (record {
      lies = record { order = omega arith; inside = omega arith };
      is = sym (nil_of (list_in (track xs t)) z);
      counted = sym (ap (count ANY) (no_boxes (list_in (track xs t)) z) ∙ none_counted ANY);
      place = λ h. absurd (omega arith);
    })

-- its `stsd` has no front
module _ (xs : List ℕ) (t : ℕ) {o : Slot} (a : At xs (follow to_stsd (track xs t)) o) where
  span_is : length (follow to_stsd (track xs t)) ≡ o.to - o.from
  span_is = sym (ap length a.is) ∙ slot_length a.lies

  pub list_short : {s : Slot} → s ≡ nowhere → o.to - o.from < FRONT → ListAt xs t s
  unfolding list_in
  list_short e h = list_empty xs t e (omega (arith, length-drop FRONT (follow to_stsd (track xs t)), span_is))

  -- ---- a list

  module _ (h : FRONT ≤ o.to - o.from) (s : Slot) (f : s.from ≡ o.from + FRONT) (g : s.to ≡ o.to) where
    pub list_lies : Lies xs s
    list_lies = record { order = omega (arith, a.lies.order); inside = omega (arith, a.lies.inside) }

    list_is : slot_in xs s ≡ list_in (track xs t)
    unfolding list_in
    list_is =
        let m : o.to ≡ o.from + (o.to - o.from) = omega (arith, a.lies.order) in
        let p : slot_in xs s ≡ take (o.to - o.from - FRONT) (drop FRONT (slot_in xs o)) =
        rw (f, g) (ap (λ (n : ℕ). take (n - (o.from + FRONT)) (drop (o.from + FRONT) xs)) m ∙ slot_part xs o FRONT (o.to - o.from)
        a.lies h (omega arith)) in
        p ∙ rw a.is (take_all (o.to - o.from - FRONT) (drop FRONT (follow to_stsd (track xs t))) (omega (
          arith,
          length-drop FRONT (follow to_stsd
              (track xs t)),
          span_is,
        )))

    pub list_at : s.n ≡ count ANY (boxes (slot_in xs s)) → (0 < length (follow to_stsd (track xs t)) → o.from ≡ start_in MOOV 0 (boxes xs) + start_in TRAK t
        (movie xs) + start_along to_stsd (track xs t)) → ListAt xs t s
    unfolding list_start
    list_at c e =
        record {
          lies = list_lies;
          is = list_is;
          counted = c ∙ ap (λ (l : List ℕ). count ANY (boxes l)) list_is;
          place = λ z. omega (arith, f, e (omega (arith, span_is, h)));
        }
