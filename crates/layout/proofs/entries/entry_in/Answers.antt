-- The box of a number in the list.
use native.Mathlib.Omega.{arith}
use lib.ListN.{length}
use Rattle.boxes.proofs.Cutting.{cut_as}
use Rattle.layout.proofs.Slots.{slot_length}
use Rattle.movie.proofs.Asking.{placed_at, placed_none}
use mathlib.Core.Path.{refl, ap, ◌∙◌}
use Rattle.layout.proofs.entries.entry_in.Goals as goal

pub overflow_add-result : goal.overflow_add-result
overflow_add-result c = omega (arith, c.requires.2)

pub overflow_add-result-in-Some : goal.overflow_add-result-in-Some
overflow_add-result-in-Some c = let p = c.requires in
    let s = cut_as _ _ _ _ c.nth.ensures _ c.in-Some.is in
    omega (
      arith,
      s.inside,
      ap length c.bytes.ensures,
      slot_length
          p.0.lies,
      p.0.lies.order,
      p.0.lies.inside,
      p.3,
    )

pub returns-in-Some : goal.returns-in-Some
returns-in-Some c = let p = c.requires in
    placed_at _ _ _ refl (c.bytes.ensures ∙ p.0.is) _
    c.nth.ensures _ c.in-Some.is (p.0.place (omega arith))

pub returns-in-None : goal.returns-in-None
returns-in-None c = let p = c.requires in
    placed_none _ _ _ refl (c.bytes.ensures ∙ p.0.is) _ c.nth.ensures c.in-None.is
