-- The walk that gathers: what a slot says of the boxes before a place, and one box more. Assumes nothing.
use Prim.Native.Nat.{ℕ, suc, ◌+◌, ◌-◌, ◌^◌, ◌≤◌, ◌<◌}
use native.Mathlib.Omega.{arith}
use mathlib.Core.Path.{◌≡◌, refl, sym, ap, subst, ◌∙◌}
use mathlib.Core.Bool.{Bool, true, false, not}
use mathlib.Core.List.{List, [], ◌∷◌}
use lib.ListN.{length, drop, length-take, length-drop, drop_of_length-le}
use Rattle.wire.specs.Tests.{pick}
use Rattle.wire.specs.Clauses.{one_if}
use Rattle.wire.proofs.Tests.{eq_yea, eq_nay, eq_or, lt_or}
use Rattle.wire.proofs.Clauses.{is_eq_lem}
use Rattle.boxes.specs.declared.walk.Walk.{Walk}
use Rattle.boxes.specs.declared.walk.BoxAt.{BoxAt}
use Rattle.boxes.specs.Box.{Box, is_open, head, size}
use Rattle.boxes.specs.Boxes.{boxes, total, after, tiles}
use Rattle.boxes.specs.Seek.{count, nth, start_in, meant}
use Rattle.boxes.specs.Walk.{box_at, Ran, Over}
use Rattle.boxes.proofs.Meaning.{meant_yes, meant_no, count_hit, count_miss, nth_hit, nth_next, nth_miss, place_hit, place_next, place_miss}
use Rattle.boxes.proofs.Placing.{total_is}
use Rattle.boxes.proofs.Whole.{head_least}
use Rattle.boxes.proofs.Seeking.{ran_next}
use Rattle.layout.specs.declared.gather.Slot.{Slot}
use Rattle.layout.specs.declared.gather.Want.{Want}
use Rattle.layout.specs.Slots.{slot_in, Lies, nowhere, Stands, note_of, opens, shut_past}
use Rattle.layout.proofs.Slots.{slot_part}

module _ (c : ℕ) (x : Box) (l : List Box) where
  start_hit : meant c x.code ≡ 1 → start_in c 0 (x ∷ l) ≡ head x
  unfolding start_in
  start_hit e = place_hit c x l e head

  start_next : meant c x.code ≡ 1 → (n : ℕ) → start_in c (suc n) (x ∷ l) ≡ size x + start_in c n l
  unfolding start_in
  start_next e n = place_next c x l e head n

  start_miss : meant c x.code ≡ 0 → (n : ℕ) → start_in c n (x ∷ l) ≡ size x + start_in c n l
  unfolding start_in
  start_miss e n = place_miss c x l e head n

-- of the boxes of the part ys before place at
pub record Noted (xs ys : List ℕ) (p : ℕ) (u : Want) (at : ℕ) (s : Slot) : Type 0 where
  pub code : 0 < u.code
  pub lies : Lies xs s
  pub few : s.n ≤ at
  pub counted : count u.code (boxes ys) ≡ s.n + count u.code (boxes (drop at ys))
  pub ahead : s.n ≤ u.nth → (slot_in xs s ≡ []) × (nth u.code u.nth (boxes ys) ≡ nth u.code (u.nth - s.n) (boxes (drop at ys)))
      × (start_in u.code u.nth (boxes ys) ≡ at + start_in u.code (u.nth - s.n) (boxes (drop at ys)))
  pub met : u.nth < s.n → (nth u.code u.nth (boxes ys) ≡ slot_in xs s) × (s.from ≡ p + start_in u.code u.nth (boxes ys))

pub noted_none : (xs ys : List ℕ) (p : ℕ) (u : Want) {s : Slot} → 0 < u.code → s ≡ nowhere → Noted xs ys p u 0 s
noted_none xs ys p u {s} z e =
    let n : u.nth - 0 ≡ u.nth = omega arith in
    subst (Noted xs ys p u 0) (sym e) (record {
      code = z;
      lies = record { order = omega arith; inside = omega arith };
      few = omega arith;
      counted = omega arith;
      ahead = λ h. (refl, rw n, rw n (omega arith));
      met = λ h. absurd (omega arith);
    })

module _ {xs ys : List ℕ} {o : Slot} (y : ys ≡ slot_in xs o) (w : Lies xs o) {u : Want} {at : ℕ} {s : Slot} (k : Noted xs ys
    o.from u at s) {b : BoxAt} {v : Walk} (r : Ran ys at b v) where
  within : b.at + b.span ≤ o.to - o.from
  within = omega (arith, r.start, rw (y, length-take, length-drop) at r.inside)

  pub note_fits : length xs < 2 ^ 63 → (s.n < 2 ^ 63) × (b.head ≤ b.span) × (o.from + (b.at + b.span) < 2 ^ 63)
  note_fits h = let m = within in (omega (arith, k.few, r.start, w.inside), r.least, omega (arith, w.order, w.inside))

  abbrev rest : List ℕ
  rest = drop v.at ys

  -- the box has the code
  module _ (e : b.code ≡ u.code) where
    hit : meant u.code b.code ≡ 1
    hit = sym (meant_yes u.code b.code (λ q. omega (arith, k.code)) e)

    more : count u.code (boxes ys) ≡ s.n + 1 + count u.code (boxes rest)
    more = omega (arith, k.counted, ap (count u.code) r.list, count_hit u.code (box_at ys b) (boxes rest) hit)

    -- and it is the one
    own : s.n ≡ u.nth → Noted xs ys o.from u v.at (record { n = s.n + 1; from = o.from + (b.at + b.head); to = o.from + (b.at + b.span) })
    own q =
        let z : u.nth - s.n ≡ 0 = omega arith in
        record {
          code = k.code;
          lies = record { order = omega (arith, r.least); inside = omega (arith, within, w.order, w.inside) };
          few = omega (arith, k.few, r.next, r.eight, r.least);
          counted = more;
          ahead = λ h. absurd (omega arith);
          met = λ h.
              let a = k.ahead (omega arith) in (
                a.1 ∙ ap (λ (m : ℕ). nth u.code m (boxes (drop at ys))) z ∙ ap (nth u.code 0) r.list ∙ nth_hit u.code (box_at ys b) (boxes rest) hit
                    ∙ rw y (sym (slot_part xs o (b.at + b.head) (b.at + b.span) w (omega (arith, r.least)) within)),
                let f : start_in u.code (u.nth - s.n) (boxes (drop at ys)) ≡ b.head = rw (z, r.list) (start_hit u.code (box_at ys b)
                    (boxes rest) hit ∙ sym r.head) in
                    omega (arith, a.2, f, r.start),
              );
        }

    -- or another
    other : (s.n ≡ u.nth → ⊥) → Noted xs ys o.from u v.at (record { n = s.n + 1; from = s.from; to = s.to })
    other q =
        record {
          code = k.code;
          lies = record { order = k.lies.order; inside = k.lies.inside };
          few = omega (arith, k.few, r.next, r.eight, r.least);
          counted = more;
          ahead = λ h.
              let m : u.nth - s.n ≡ suc (u.nth - (s.n + 1)) = omega arith in
              let a = k.ahead (omega arith) in
              let f : start_in u.code (u.nth - s.n) (boxes (drop at ys)) ≡ size (box_at ys b) + start_in u.code (u.nth - (s.n + 1)) (boxes rest) =
              rw (m, r.list) (start_next u.code (box_at ys b) (boxes rest) hit _) in (
                a.0,
                a.1 ∙ ap (λ (j : ℕ). nth u.code j (boxes (drop at ys))) m ∙ ap (nth u.code _) r.list ∙ nth_next u.code (box_at ys b)
                    (boxes rest) hit _,
                omega (arith, a.2, f, ran_next r 0),
              );
          met = λ h. k.met (omega arith);
        }

  miss : (b.code ≡ u.code → ⊥) → Noted xs ys o.from u v.at s
  miss n =
      let h : meant u.code b.code ≡ 0 = sym (meant_no u.code b.code (λ q. omega (arith, k.code)) n) in
      record {
        code = k.code;
        lies = k.lies;
        few = omega (arith, k.few, r.next);
        counted = omega (arith, k.counted, ap (count u.code) r.list, count_miss u.code (box_at ys b) (boxes rest) h);
        ahead = λ y.
            let a = k.ahead y in
            let f : start_in u.code (u.nth - s.n) (boxes (drop at ys)) ≡ size (box_at ys b) + start_in u.code (u.nth - s.n) (boxes rest) =
            rw r.list (start_miss u.code (box_at ys b) (boxes rest) h _) in
            (a.0, a.1 ∙ ap (nth u.code _) r.list ∙ nth_miss u.code (box_at ys b) (boxes rest) h _, omega (arith, a.2, f, ran_next r 0));
        met = k.met;
      }

  pub noted_more : {t : Slot} → t ≡ note_of s u b o.from → Noted xs ys o.from u v.at t
  unfolding note_of
  noted_more {t} e =
      let P = Noted xs ys o.from u v.at in
      eq_or b.code u.code
      (λ q. eq_or s.n u.nth
      (λ y. subst P (sym (e ∙ sym (eq_yea _ _ _ _ _ q (eq_yea _ _ _ _ _ y refl)))) (own q y))
      (λ y. subst P (sym (e ∙ sym (eq_yea _ _ _ _ _ q (eq_nay _ _ _ _ _ y refl)))) (other q y)))
      (λ n. subst P (sym (e ∙ sym (eq_nay _ _ _ _ _ n refl))) (miss n))

-- the end
pub stands : {xs ys : List ℕ} {w : Slot} → ys ≡ slot_in xs w → {u : Want} {at : ℕ} {s : Slot} → Noted xs ys w.from u at s → Over ys at → Stands xs w u s
unfolding count nth
stands {xs} {ys} {w} y {u} {at} {s} k o =
    record {
      lies = k.lies;
      counted = rw (← y) (omega (arith, k.counted, ap (count u.code) o.list));
      is = rw (← y) (lt_or u.nth s.n (λ h. sym (k.met h).0) (λ h. let a = k.ahead h in a.0 ∙ sym (a.1 ∙ ap (nth u.code _) o.list)));
      place = λ h. rw (← y) (k.met h).1;
    }

-- ---- what every such walk has of the boxes before a place: what stands past the last, and whether none is open

pub record Going (ys : List ℕ) (at : ℕ) (shut : Bool) : Type 0 where
  pub rest : after ys ≡ after (drop at ys)
  pub inside : at ≤ length ys
  pub opened : shut ≡ true → opens (boxes ys) ≡ opens (boxes (drop at ys))

pub going_none : (ys : List ℕ) → Going ys 0 true
going_none ys = record { rest = refl; inside = omega arith; opened = λ z. refl }

-- the open boxes are no more than their bytes, and so they are few in a slot of a file
pub one_most : (t : Bool) → one_if t ≤ 1
unfolding one_if
one_most true = omega arith
one_most false = omega arith

pub opens_few : (l : List Box) → opens l ≤ total l
unfolding opens total
opens_few [] = omega arith
opens_few (x ∷ l) = omega (arith, opens_few l, one_most (is_open x.form), head_least x.form)

pub opens_fits : (xs ys : List ℕ) (o : Slot) → ys ≡ slot_in xs o → length xs < 2 ^ 63 → opens (boxes ys) < 2 ^ 63
opens_fits xs ys o y h =
    omega (arith, opens_few (boxes ys), total_is ys, ap length y ∙ length-take (o.to - o.from) (drop o.from xs), length-drop o.from xs)

-- none was open, and this one isn't
still : (s t : Bool) → pick s (not t) false ≡ true → (s ≡ true) × (one_if t ≡ 0)
unfolding one_if
still true false e = (refl, refl)
still true true e = let z : ◌≡◌ {A = ℕ} 0 1 = cc in absurd (omega arith)
still false t e = let z : ◌≡◌ {A = ℕ} 0 1 = cc in absurd (omega arith)

module _ {ys : List ℕ} {at : ℕ} {shut : Bool} (g : Going ys at shut) where
  pub going_more : {b : BoxAt} {v : Walk} → Ran ys at b v → {s : Bool} → s ≡ shut_past shut b → Going ys v.at s
  unfolding opens
  going_more {b} {v} r e =
      record {
        rest = g.rest ∙ r.rest;
        inside = omega (arith, r.next, r.inside);
        opened = λ z. let q = still shut (is_open b.form) (sym e ∙ z) in omega (arith, g.opened q.0, ap opens r.list, q.1);
      }

  module _ (o : Over ys at) where
    pub going_tiled : length ys ≤ at → tiles ys ≡ true
    going_tiled h = is_eq_lem (length (after ys)) 0 (ap length (g.rest ∙ o.rest ∙ drop_of_length-le ys {i = at} h))

    pub going_shut : shut ≡ true → opens (boxes ys) ≡ 0
    unfolding opens
    going_shut z = omega (arith, g.opened z, ap opens o.list)
