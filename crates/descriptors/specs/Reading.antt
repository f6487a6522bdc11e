-- How code reads a tree: what was read so far, and then each descriptor in turn.
use Rattle.std.specs.Prelude.{ℕ, false, List, [], ◌∷◌}
use Rattle.wire.specs.Tests.{pick, if_eq}
use Rattle.descriptors.specs.declared.list.Reading.{Reading}
use Rattle.descriptors.specs.Parts.{ES, CONFIGURATION, SPECIFIC, SL, TOP, OTHER, own_fits}
use Rattle.descriptors.specs.Trees.{Tree}
use Rattle.descriptors.specs.Trees.Tree.{end, loose, descriptor}

-- the part j where it may come right after the part `last`, else OTHER, after which none may come
unfoldable pub part_after : (last j : ℕ) → ℕ
part_after last j =
    if_eq last TOP (if_eq j ES j OTHER)
    (if_eq last ES (if_eq j CONFIGURATION j OTHER)
    (if_eq last CONFIGURATION (if_eq j SPECIFIC j (if_eq j SL j OTHER)) (if_eq last SPECIFIC (if_eq j SL j OTHER) OTHER)))

unfoldable pub parts_after : ℕ → List ℕ → ℕ
parts_after last [] = last
parts_after last (j ∷ l) = parts_after (part_after last j) l

-- one descriptor more
unfoldable pub met : Reading → ℕ → List ℕ → Reading
met r j own = record { fits = pick (own_fits j own) r.fits false; last = part_after r.last j }

-- a whole tree more
unfoldable pub read_on : Reading → Tree → Reading
read_on r end = r
read_on r loose = record { fits = false; last = r.last }
read_on r (descriptor j h own held next) = read_on (read_on (met r j own) held) next
