-- 20, 25, or the chunk offsets of the track.
use native.Mathlib.Omega.{arith}
use Rattle.rule.proofs.Results.{exact_short, exact_wrote, test_not, test_so, test_all}
use Rattle.read_tracks.proofs.Reading.{numbered_at, numbered_none, numbered_readable, laid_offsets, offsets_length, offsets_wrote, offsets_table}
use Rattle.read_tracks.proofs.offsets_in.Goals as goal

pub bytes-stco-requires : goal.bytes-stco-requires
bytes-stco-requires c = (numbered_at _ _ _ c.numbered_track.ensures c.in-Some.is).laid.stco.lies

pub returns-then-list-items : goal.returns-then-list-items
returns-then-list-items c =
    let n = numbered_at _ _ _ c.numbered_track.ensures c.in-Some.is in
    let o = laid_offsets n.laid c.bytes-stco.ensures in
    test_so _ _ _ _ _ n.there (test_all _ _ (exact_short _ _ (omega (arith, offsets_length _ o c.items.ensures.0))))

pub put-requires : goal.put-requires
put-requires c =
    let n = numbered_at _ _ _ c.numbered_track.ensures c.in-Some.is in
    (offsets_table (laid_offsets n.laid c.bytes-stco.ensures) (numbered_readable _ _ c.requires n), omega arith)

pub returns : goal.returns
returns c =
    let n = numbered_at _ _ _ c.numbered_track.ensures c.in-Some.is in
    let o = laid_offsets n.laid c.bytes-stco.ensures in
    test_so _ _ _ _ _ n.there (test_all _ _ (exact_wrote _ _ (omega (arith, offsets_length _ o c.items.ensures.0))
    (offsets_wrote _ o c.put.ensures)))

pub returns-in_default : goal.returns-in_default
returns-in_default c = test_not _ _ _ _ _ (numbered_none _ _ _ c.numbered_track.ensures c.in_default.is)
