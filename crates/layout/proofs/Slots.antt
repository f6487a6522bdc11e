-- The bytes of a slot, and of a part of it. Assumes nothing.
use Prim.Native.Nat.{ℕ, ◌+◌, ◌-◌, ◌≤◌}
use native.Mathlib.Omega.{arith}
use mathlib.Core.Path.{◌≡◌, sym, ap, ◌∙◌}
use mathlib.Core.List.{List}
use lib.ListN.{length, take, drop, length-take, length-drop}
use lib.Seq.{take-take, drop-drop, take-add, drop_at, length-take-le}
use Rattle.layout.specs.declared.gather.Slot.{Slot}
use Rattle.layout.specs.Slots.{slot_in, Lies}

-- ---- a part of a slot

drop_take : (f n : ℕ) (l : List ℕ) → f ≤ n → f ≤ length l → drop f (take n l) ≡ take (n - f) (drop f l)
drop_take f n l h k =
    let e : f + (n - f) ≡ n = omega arith in
    ap (λ (m : ℕ). drop f (take m l)) (sym e) ∙ ap (drop f) (take-add f (n - f) l) ∙ drop_at (take f l) _ f (length-take-le f l k)

-- the bytes from f to t of a slot are those of the file, as much further on
pub slot_part : (xs : List ℕ) (s : Slot) (f t : ℕ) → Lies xs s → f ≤ t → t ≤ s.to - s.from
    → take (s.from + t - (s.from + f)) (drop (s.from + f) xs) ≡ take (t - f) (drop f (slot_in xs s))
slot_part xs s f t i h k =
    let n : s.from + t - (s.from + f) ≡ t - f = omega arith in
    rw (
      n,
      drop_take f (s.to - s.from) (drop s.from xs) (omega arith) (rw length-drop (omega (arith, i.order, i.inside))),
      take-take (t - f) (s.to - s.from - f) (drop f (drop s.from xs)) (omega arith),
      drop-drop f s.from xs,
    )

pub slot_length : {xs : List ℕ} {s : Slot} → Lies xs s → length (slot_in xs s) ≡ s.to - s.from
slot_length {xs} {s} i = rw (length-take, length-drop) (omega (arith, i.order, i.inside))
