-- One walk that fills five slots: what it has of the boxes before a place, one box more, and its end. Assumes nothing.
use Prim.Native.Nat.{ℕ, ◌+◌, ◌^◌, ◌≤◌, ◌<◌}
use native.Mathlib.Omega.{arith}
use mathlib.Core.Path.{◌≡◌, refl}
use mathlib.Core.Bool.{Bool, true, false, not}
use mathlib.Core.List.{List}
use lib.ListN.{length}
use Rattle.wire.specs.Tests.{pick}
use Rattle.boxes.specs.declared.walk.Form.{Form}
use Rattle.boxes.specs.declared.walk.Form.TheVariants.{Plain, Wide, Open}
use Rattle.boxes.specs.declared.walk.Walk.{Walk}
use Rattle.boxes.specs.declared.walk.BoxAt.{BoxAt}
use Rattle.boxes.specs.Box.{is_plain, is_open}
use Rattle.boxes.specs.Walk.{Ran, Over}
use Rattle.layout.specs.declared.gather.Slot.{Slot}
use Rattle.layout.specs.declared.gather.Want.{Want}
use Rattle.layout.specs.declared.gather.Five.{Five}
use Rattle.layout.specs.Slots.{slot_in, Lies, nowhere, note_of, shut_past, Gathered}
use Rattle.layout.proofs.Noting.{Noted, noted_none, note_fits, noted_more, stands, Going, going_none, going_more, going_tiled, going_shut}

-- of the container o, whose bytes are ys: five slots, for the boxes before place at, and whether none of these is open
pub record Walked (xs ys : List ℕ) (o : Slot) (at : ℕ) (shut : Bool) (a b c d e : Want) (i j k l m : Slot) : Type 0 where
  pub part : ys ≡ slot_in xs o
  pub lies : Lies xs o
  pub short : length xs < 2 ^ 63
  pub first : Noted xs ys o.from a at i
  pub second : Noted xs ys o.from b at j
  pub third : Noted xs ys o.from c at k
  pub fourth : Noted xs ys o.from d at l
  pub fifth : Noted xs ys o.from e at m
  pub going : Going ys at shut

pub walked_none : {xs ys : List ℕ} {o : Slot} {a b c d e : Want} {i j k l m : Slot} → ys ≡ slot_in xs o → Lies xs o → length xs < 2 ^ 63
    → (0 < a.code) × (0 < b.code) × (0 < c.code) × (0 < d.code) × (0 < e.code)
    → (i ≡ nowhere) × (j ≡ nowhere) × (k ≡ nowhere) × (l ≡ nowhere) × (m ≡ nowhere) → Walked xs ys o 0 true a b c d e i j k l m
walked_none y w h p q =
    record {
      part = y;
      lies = w;
      short = h;
      first = noted_none _ _ _ _ p.0 q.0;
      second = noted_none _ _ _ _ p.1 q.1;
      third = noted_none _ _ _ _ p.2 q.2;
      fourth = noted_none _ _ _ _ p.3 q.3;
      fifth = noted_none _ _ _ _ p.4 q.4;
      going = going_none _;
    }

-- a plain box is not open
none_open : (s : Bool) (f : Form) → is_plain f ≡ true → s ≡ pick s (not (is_open f)) false
none_open true Plain e = refl
none_open false Plain e = refl
none_open s Wide e = let z : ◌≡◌ {A = ℕ} 0 1 = cc in absurd (omega arith)
none_open s Open e = let z : ◌≡◌ {A = ℕ} 0 1 = cc in absurd (omega arith)

module _ {xs ys : List ℕ} {o : Slot} {at : ℕ} {shut : Bool} {a b c d e : Want} {i j k l m : Slot} (w : Walked xs ys o at shut a b c d e i j k l m) where
  module _ {x : BoxAt} {v : Walk} (r : Ran ys at x v) where
    pub walked_fits : {u : Want} {s : Slot} → Noted xs ys o.from u at s → (s.n < 2 ^ 63) × (x.head ≤ x.span) × (o.from + (x.at + x.span) < 2 ^ 63)
    walked_fits t = note_fits w.part w.lies t r w.short

    module _ {i' j' k' l' m' : Slot} (q : (i' ≡ note_of i a x o.from) × (j' ≡ note_of j b x o.from) × (k' ≡ note_of k c x o.from)
        × (l' ≡ note_of l d x o.from) × (m' ≡ note_of m e x o.from)) where
      pub walked_more : {s : Bool} → s ≡ shut_past shut x → Walked xs ys o v.at s a b c d e i' j' k' l' m'
      walked_more f =
          record {
            part = w.part;
            lies = w.lies;
            short = w.short;
            first = noted_more w.part w.lies w.first r q.0;
            second = noted_more w.part w.lies w.second r q.1;
            third = noted_more w.part w.lies w.third r q.2;
            fourth = noted_more w.part w.lies w.fourth r q.3;
            fifth = noted_more w.part w.lies w.fifth r q.4;
            going = going_more w.going r f;
          }

      pub walked_plain : is_plain x.form ≡ true → Walked xs ys o v.at shut a b c d e i' j' k' l' m'
      walked_plain h = walked_more (none_open shut x.form h)

  -- the end: of the whole container, or of its boxes
  module _ (q : Over ys at) where
    gathered : (t s : Bool) → (t ≡ true → length ys ≤ at) → (s ≡ true → shut ≡ true)
        → Gathered xs o a b c d e (record { a = i; b = j; c = k; d = l; e = m; tiled = t; shut = s })
    gathered t s f g =
        record {
          first = stands w.part w.first q;
          second = stands w.part w.second q;
          third = stands w.part w.third q;
          fourth = stands w.part w.fourth q;
          fifth = stands w.part w.fifth q;
          tiled = λ z. rw (← w.part) (going_tiled w.going q (f z));
          shut = λ z. rw (← w.part) (going_shut w.going q (g z));
        }

    pub walked_whole : length ys ≤ at → Gathered xs o a b c d e (record { a = i; b = j; c = k; d = l; e = m; tiled = true; shut = shut })
    walked_whole h = gathered true shut (λ z. h) (λ z. z)

    pub walked_torn : Gathered xs o a b c d e (record { a = i; b = j; c = k; d = l; e = m; tiled = false; shut = false })
    walked_torn = gathered false false (λ z. let y : ◌≡◌ {A = ℕ} 0 1 = cc in absurd (omega arith)) (λ z. let y : ◌≡◌ {A = ℕ} 0 1 = cc in absurd (omega arith))

-- five wanted boxes by other names
pub gathered_as : {xs : List ℕ} {o : Slot} {a b c d e a' b' c' d' e' : Want} {g : Five} → (a ≡ a') × (b ≡ b') × (c ≡ c') × (d ≡ d') × (e ≡ e')
    → Gathered xs o a b c d e g → Gathered xs o a' b' c' d' e' g
gathered_as q h = rw (← q.0, ← q.1, ← q.2, ← q.3, ← q.4) h
