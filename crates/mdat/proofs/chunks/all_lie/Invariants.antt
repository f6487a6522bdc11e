-- The invariant: k chunks stand before run i, first counts their samples, all of them lie inside, and the last of them in `last`.
use Prim.Native.Nat.{◌-◌, ◌≤◌}
use Rattle.boxes.specs.Boxes.{boxes}
use Rattle.mdat.specs.Rules.{chunks_in}
use Rattle.mdat.specs.Search.{Media}
use Rattle.sample_tables.specs.Chunks.{first_sample}
use Rattle.sample_tables.specs.Runs.{run_start}
use Rattle.sample_tables.specs.Tables.{items}
use mathlib.Core.Bool.{true}
use mathlib.Core.Path.{◌≡◌}
use Rattle.mdat.proofs.chunks.all_lie.Given as goal

abbrev pub invariant-loop-i : goal.invariant-loop-i
invariant-loop-i l = (l.n ≡ items l.stsc) × (l.i ≤ l.n) × (l.k ≡ run_start l.stsc (items l.stco) l.i)
    × (l.first ≡ first_sample l.stsc l.k) × (chunks_in (boxes l.file) l.stsc l.stsz l.stco l.k ≡ true) × Media l.file l.last
