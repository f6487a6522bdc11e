-- The entry of that number, or no bytes.
use native.Mathlib.Omega.{arith}
use mathlib.Core.Path.{sym, ap, ◌∙◌}
use Rattle.boxes.proofs.Cutting.{cut_as, none_as}
use Rattle.modes.specs.Sample.{speech_of}
use Rattle.modes.proofs.Described.{entry_none, entry_cut}
use Rattle.modes.proofs.speech.described.Goals as goal

pub overflow_add-to : goal.overflow_add-to
overflow_add-to c = let s = cut_as _ _ _ _ c.nth.ensures _ c.in-Some.is in omega (arith, s.inside)

pub slice_bounds-read-end : goal.slice_bounds-read-end
slice_bounds-read-end c = let s = cut_as _ _ _ _ c.nth.ensures _ c.in-Some.is in s.inside

pub returns-in-Some : goal.returns-in-Some
returns-in-Some c =
    let s = cut_as _ _ _ _ c.nth.ensures _ c.in-Some.is in
    c.read.ensures ∙ ap speech_of (sym (entry_cut (λ i. (c.type_inv.list i).fits) s))

pub returns-in-None : goal.returns-in-None
returns-in-None c =
    c.read-in-None.ensures ∙ ap speech_of (sym (entry_none _ _ (none_as _ _ _ _ c.nth.ensures c.in-None.is)))
