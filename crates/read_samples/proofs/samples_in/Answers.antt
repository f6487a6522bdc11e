-- 20, 25, or the places and lengths of the track's samples.
use native.Mathlib.Omega.{arith}
use Rattle.rule.proofs.Results.{exact_short, exact_wrote, test_not, test_so, test_all}
use Rattle.read_tracks.proofs.Reading.{numbered_at, numbered_none, laid_offsets}
use Rattle.read_samples.proofs.Tables.{numbered_walked, laid_runs, laid_sizes}
use Rattle.read_samples.proofs.Counting.{samples_count, found_walked, found_count, found_wrote}
use Rattle.read_samples.proofs.samples_in.Goals as goal

pub bytes-sizes-requires : goal.bytes-sizes-requires
bytes-sizes-requires c =
    (numbered_at _ _ _ c.numbered_track.ensures c.in-Some.is).laid.stsz.lies

pub returns-then-out-samples : goal.returns-then-out-samples
returns-then-out-samples c =
    let n = numbered_at _ _ _ c.numbered_track.ensures c.in-Some.is in
    let w = numbered_walked _ _ c.requires n in
    let m = found_count _ w (laid_sizes n.laid c.bytes-sizes.ensures) c.samples.ensures.0 in
    test_so _ _ _ _ _ n.there (test_all _ _ (exact_short _ _ (omega (arith, m))))

pub bytes-requires : goal.bytes-requires
bytes-requires c =
    (numbered_at _ _ _ c.numbered_track.ensures c.in-Some.is).laid.stsc.lies

pub bytes-requires-2 : goal.bytes-requires-2
bytes-requires-2 c =
    (numbered_at _ _ _ c.numbered_track.ensures c.in-Some.is).laid.stco.lies

pub put-requires : goal.put-requires
put-requires c =
    let n = numbered_at _ _ _ c.numbered_track.ensures c.in-Some.is in
    let l = n.laid in
    let w = numbered_walked _ _ c.requires n in
    let d = found_walked _ (laid_runs l c.bytes.ensures) (laid_sizes l c.bytes-sizes.ensures) (laid_offsets l c.bytes-2.ensures) w in
    (d, omega (arith, samples_count _ _ _ d, c.samples.ensures.0))

pub returns : goal.returns
returns c =
    let n = numbered_at _ _ _ c.numbered_track.ensures c.in-Some.is in
    let l = n.laid in
    let w = numbered_walked _ _ c.requires n in
    let s = laid_sizes l c.bytes-sizes.ensures in
    let m = found_count _ w s c.samples.ensures.0 in
    test_so _ _ _ _ _ n.there (test_all _ _ (exact_wrote _ _ (omega (arith, m))
    (found_wrote _ (laid_runs l c.bytes.ensures) s (laid_offsets l c.bytes-2.ensures) c.put.ensures)))

pub returns-in_default : goal.returns-in_default
returns-in_default c = test_not _ _ _ _ _ (numbered_none _ _ _ c.numbered_track.ensures c.in_default.is)
