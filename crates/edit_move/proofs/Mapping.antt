-- Boxes in another order, with their bodies rewritten. Assumes nothing.
use Prim.Native.Nat.{ℕ}
use mathlib.Core.Path.{◌≡◌, refl, sym}
use mathlib.Core.List.{List, [], ◌∷◌, map, map-append}
use Rattle.codes.specs.Codes.{MOOV}
use Rattle.wire.proofs.Tests.{through}
use Rattle.boxes.specs.Box.{Box}
use Rattle.boxes.specs.Rewrite.{Bodies, over}
use Rattle.edit_move.specs.Moving.{just, others, moov_second}

just_maps : (c : ℕ) (f : Bodies) (l : List Box) → just c (map (over f) l) ≡ map (over f) (just c l)
unfolding just
just_maps c f [] = refl
just_maps c f (x ∷ l) = rw (just_maps c f l) (sym (through (map (over f)) x.code c (x ∷ just c l) (just c l)))

others_maps : (c : ℕ) (f : Bodies) (l : List Box) → others c (map (over f) l) ≡ map (over f) (others c l)
unfolding others
others_maps c f [] = refl
others_maps c f (x ∷ l) = rw (others_maps c f l) (sym (through (map (over f)) x.code c (others c l) (x ∷ others c l)))

-- `moov` second, and bodies by f, in either order
pub second_maps : (f : Bodies) (l : List Box) → moov_second (map (over f) l) ≡ map (over f) (moov_second l)
unfolding moov_second
second_maps f [] = refl
second_maps f (x ∷ l) = rw (just_maps MOOV f l, others_maps MOOV f l, map-append (over f) (just MOOV l) (others MOOV l))
