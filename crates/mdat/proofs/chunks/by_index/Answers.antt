-- An index of zeros is one, and one that has numbers is never given up.
use Rattle.mdat.proofs.Indexing.{index_none}
use Rattle.mdat.proofs.Searching.{looked_held}
use lib.ListN.{length}
use mathlib.Core.Path.{◌≡◌, ◌∙◌}
use native.Mathlib.Omega.{arith}
use Rattle.mdat.proofs.chunks.by_index.Goals as goal

pub fill-requires : goal.fill-requires
fill-requires c = (omega arith, index_none _ 4097)

pub all_lie-requires : goal.all_lie-requires
all_lie-requires c = let p = c.requires in (p.0, c.fill.ensures.1, p.1)

pub returns : goal.returns
returns c =
    let f : length c.fill.new.index ≡ 0 → ⊥ = λ z. omega arith in
    c.is_ok.ensures.value ∙ looked_held _ f c.all_lie.ensures
