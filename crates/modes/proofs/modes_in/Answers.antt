-- 20, 25, or the first sample of the track that fails.
use Rattle.rule.proofs.Results.{test_not, test_so, test_all}
use Rattle.read_tracks.proofs.Reading.{numbered_at, numbered_none, laid_offsets}
use Rattle.read_samples.proofs.Tables.{numbered_walked, laid_runs, laid_sizes}
use Rattle.read_samples.proofs.Counting.{found_walked}
use mathlib.Core.Path.{sym, ◌∙◌}
use Rattle.modes.proofs.Found.{laid_list, found_only, found_failing}
use Rattle.modes.proofs.modes_in.Goals as goal

pub bytes-requires : goal.bytes-requires
bytes-requires c =
    (numbered_at _ _ _ c.numbered_track.ensures c.in-Some.is).laid.stsd.lies

pub returns-then-not-only : goal.returns-then-not-only
returns-then-not-only c =
    let n = numbered_at _ _ _ c.numbered_track.ensures c.in-Some.is in
    let l = laid_list n.laid c.bytes.ensures c.rest-list.ensures in
    test_so _ _ _ _ _ n.there (test_not _ _ _ _ _ (sym (found_only _ l c.only.ensures) ∙ c.if-not-only.true))

pub bytes-requires-2 : goal.bytes-requires-2
bytes-requires-2 c =
    (numbered_at _ _ _ c.numbered_track.ensures c.in-Some.is).laid.stsc.lies

pub bytes-requires-3 : goal.bytes-requires-3
bytes-requires-3 c =
    (numbered_at _ _ _ c.numbered_track.ensures c.in-Some.is).laid.stsz.lies

pub bytes-requires-4 : goal.bytes-requires-4
bytes-requires-4 c =
    (numbered_at _ _ _ c.numbered_track.ensures c.in-Some.is).laid.stco.lies

pub first_failing-f-requires : goal.first_failing-f-requires
first_failing-f-requires c =
    let n = numbered_at _ _ _ c.numbered_track.ensures c.in-Some.is in
    let l = n.laid in
    found_walked _ (laid_runs l c.bytes-2.ensures) (laid_sizes l c.bytes-3.ensures) (laid_offsets l c.bytes-4.ensures)
    (numbered_walked _ _ c.requires n)

pub returns : goal.returns
returns c =
    let n = numbered_at _ _ _ c.numbered_track.ensures c.in-Some.is in
    let l = n.laid in
    let i = laid_list l c.bytes.ensures c.rest-list.ensures in
    test_so _ _ _ _ _ n.there (test_so _ _ _ _ _ (sym (found_only _ i c.only.ensures) ∙ c.if-not-only.false) (test_all _ _
    (found_failing _ i _ (laid_runs l c.bytes-2.ensures) (laid_sizes l c.bytes-3.ensures) (laid_offsets l c.bytes-4.ensures)
    c.first_failing-f.ensures c.put.ensures)))

pub returns-in_default : goal.returns-in_default
returns-in_default c = test_not _ _ _ _ _ (numbered_none _ _ _ c.numbered_track.ensures c.in_default.is)
