-- The headers of the movie and of the track, by the parts that code writes. Assumes nothing.
use Prim.Native.Nat.{ℕ}
use mathlib.Core.Path.{◌≡◌, refl}
use mathlib.Core.List.{[], ◌∷◌, ◌++◌}
use Rattle.wire.specs.Numbers.{bytes_on, bytes}
use Rattle.from_amr.specs.Fields.{fields}
use Rattle.from_amr.specs.Boxes.{mvhd, tkhd}

pub mvhd_parts : (scale ticks : ℕ)
    → fields (4 ∷ 0 ∷ 8 ∷ 0 ∷ 4 ∷ scale ∷ 4 ∷ ticks ∷ []) ++ fields (4 ∷ 0x00010000 ∷ 2 ∷ 0x0100 ∷ 10 ∷ 0 ∷ [])
    ++ fields (4 ∷ 0x00010000 ∷ 12 ∷ 0 ∷ 4 ∷ 0x00010000 ∷ 12 ∷ 0 ∷ 4 ∷ 0x40000000 ∷ []) ++ fields (24 ∷ 0 ∷ 4 ∷ 2 ∷ [])
    ≡ mvhd scale ticks
unfolding mvhd fields bytes bytes_on
mvhd_parts scale ticks = refl

pub tkhd_parts : (ticks : ℕ)
    → fields (4 ∷ 7 ∷ 8 ∷ 0 ∷ 4 ∷ 1 ∷ 4 ∷ 0 ∷ 4 ∷ ticks ∷ []) ++ fields (8 ∷ 0 ∷ 4 ∷ 0 ∷ 2 ∷ 0x0100 ∷ 2 ∷ 0 ∷ [])
    ++ fields (4 ∷ 0x00010000 ∷ 12 ∷ 0 ∷ 4 ∷ 0x00010000 ∷ 12 ∷ 0 ∷ 4 ∷ 0x40000000 ∷ []) ++ fields (8 ∷ 0 ∷ [])
    ≡ tkhd ticks
unfolding tkhd fields bytes bytes_on
tkhd_parts ticks = refl
