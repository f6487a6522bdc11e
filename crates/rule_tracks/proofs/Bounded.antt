-- Rule 8 names a place of the `stbl` that it judges. Assumes nothing.
use native.Mathlib.Omega.{arith}
use mathlib.Core.List.{List}
use Rattle.codes.specs.Codes.{STBL, STCO}
use Rattle.boxes.specs.Box.{Box}
use Rattle.boxes.specs.Boxes.{boxes}
use Rattle.boxes.proofs.Placing.{total_is, place_most}
use Rattle.rule.proofs.Bounds.{Bounded, unless_most, if_most}
use Rattle.rule_tracks.specs.Eight.{eight_holds, eight_at, eight}

pub eight_bounded : (l : List Box) → Bounded (eight l)
unfolding eight_at
eight_bounded l =
    record {
      leaf = λ k c b p q h. omega arith;
      node = λ k xs home p h. if_most _ k STBL _ (unless_most _ (eight_holds l (boxes xs)) _ (omega (arith, place_most STCO 0 (boxes xs), total_is xs)));
      end = λ xs p. omega arith;
    }
