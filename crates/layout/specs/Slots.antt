-- What one walk over the boxes of a container finds: of each code how many boxes it has, and where in the file the payload of one of them stands.
use Rattle.std.specs.Prelude.{ℕ, ◌+◌, ◌-◌, ◌≤◌, ◌<◌, ◌≡◌, Bool, true, false, not, List, [], ◌∷◌, length, take, drop}
use Rattle.wire.specs.Tests.{pick, if_eq}
use Rattle.wire.specs.Clauses.{is_eq, every, one_if}
use Rattle.boxes.specs.declared.walk.BoxAt.{BoxAt}
use Rattle.boxes.specs.Box.{Box, is_open}
use Rattle.boxes.specs.Boxes.{boxes, tiles}
use Rattle.boxes.specs.Seek.{count, nth, start_in}
use Rattle.layout.specs.declared.gather.Slot.{Slot}
use Rattle.layout.specs.declared.gather.Want.{Want}
use Rattle.layout.specs.declared.gather.Five.{Five}

-- the bytes of a slot of the file xs
abbrev pub slot_in : List ℕ → Slot → List ℕ
slot_in xs s = take (s.to - s.from) (drop s.from xs)

-- they lie inside it
pub record Lies (xs : List ℕ) (s : Slot) : Type 0 where
  pub order : s.from ≤ s.to
  pub inside : s.to ≤ length xs

-- of the container o, which is a slot: how many boxes it has of the code that is wanted, the payload of the wanted one, and its place
pub record Stands (xs : List ℕ) (o : Slot) (w : Want) (s : Slot) : Type 0 where
  pub lies : Lies xs s
  pub counted : s.n ≡ count w.code (boxes (slot_in xs o))
  pub is : slot_in xs s ≡ nth w.code w.nth (boxes (slot_in xs o))
  pub place : w.nth < s.n → s.from ≡ o.from + start_in w.code w.nth (boxes (slot_in xs o))

abbrev pub nowhere : Slot
nowhere = record { n = 0; from = 0; to = 0 }

abbrev pub first_with : ℕ → Want
first_with c = record { code = c; nth = 0 }

-- the slot of a wanted box, past one more box of a part that starts at place p
unfoldable pub note_of : Slot → Want → BoxAt → ℕ → Slot
note_of s w b p =
    if_eq b.code w.code
    (if_eq s.n w.nth
    (record { n = s.n + 1; from = p + (b.at + b.head); to = p + (b.at + b.span) })
    (record { n = s.n + 1; from = s.from; to = s.to })) s

-- how many boxes are open
unfoldable pub opens : List Box → ℕ
opens [] = 0
opens (x ∷ l) = one_if (is_open x.form) + opens l

-- whether none is, past one more box
abbrev pub shut_past : Bool → BoxAt → Bool
shut_past s b = pick s (not (is_open b.form)) false

-- of five wanted boxes; the container is shut only where none is open
pub record Gathered (xs : List ℕ) (o : Slot) (a b c d e : Want) (g : Five) : Type 0 where
  pub first : Stands xs o a g.a
  pub second : Stands xs o b g.b
  pub third : Stands xs o c g.c
  pub fourth : Stands xs o d g.d
  pub fifth : Stands xs o e g.e
  pub tiled : g.tiled ≡ true → tiles (slot_in xs o) ≡ true
  pub shut : g.shut ≡ true → opens (boxes (slot_in xs o)) ≡ 0

-- boxes tile the container and none is open, and each of five codes has one box
abbrev pub alone_of : Five → Bool
alone_of g = every (g.tiled ∷ g.shut ∷ is_eq g.a.n 1 ∷ is_eq g.b.n 1 ∷ is_eq g.c.n 1 ∷ is_eq g.d.n 1 ∷ is_eq g.e.n 1 ∷ [])
