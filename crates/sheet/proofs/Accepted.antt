-- An accepted file has at most 4 tracks and at most as many sample entries as a sheet has slots. Assumes nothing.
use Prim.Native.Nat.{ℕ, ◌<◌}
use native.Mathlib.Omega.{arith}
use mathlib.Core.Path.{◌≡◌, refl}
use mathlib.Core.List.{List}
use lib.ListN.{length, length-append}
use Rattle.wire.specs.Tests.{if_eq}
use Rattle.codes.specs.Codes.{MOOV, TRAK, STSD}
use Rattle.wire.proofs.Clauses.{le_is}
use Rattle.boxes.specs.Boxes.{boxes}
use Rattle.boxes.specs.Containers.{parent, kind_in}
use Rattle.boxes.specs.Seek.{start_in}
use Rattle.movie.specs.Ways.{to_stsd, follow}
use Rattle.movie.specs.Movie.{movie, tracks}
use Rattle.movie.specs.Stsds.{Stsd, stsds_from, stsds}
use Rattle.movie.specs.Entries.{entries_in, entries}
use Rattle.movie.specs.Named.{list_in, stsd_at}
use Rattle.movie.proofs.Counting.{length_stsd}
use Rattle.movie.proofs.Stsds.{Each, each_stsd}
use Rattle.movie.proofs.Stsds.Each.{none, more}
use Rattle.rule_shape.specs.Three.{needed}
use Rattle.rule_shape.proofs.Descent.{Met, node_met, needed_leaf, in_moov, in_track, in_stbl, tracks_few}
use Rattle.rule_lists.specs.Five.{Listed, list_form_in, MOST, counted_in, five_rule}
use Rattle.rule_lists.proofs.Forms.{form_is}
use Rattle.rule_lists.proofs.Rules.{counted_anywhere}
use Rattle.judge.specs.Acceptance.{Meets}
use Rattle.judge.proofs.Tables.{file_met}
use Rattle.sheet.specs.Fits.{SheetFits}

-- rule 5: each `stsd` lists as many boxes as it counts
listed : {b : List ℕ} → Met five_rule 4 TRAK b → Listed (follow to_stsd b)
unfolding follow list_form_in needed kind_in parent if_eq
listed m = form_is _ (needed_leaf (in_stbl m) STSD refl refl)

pub listed_at : (xs : List ℕ) → Meets xs → (n : ℕ) → n < tracks xs → Listed (stsd_at xs n).body
listed_at xs m n k = listed (in_track (file_met xs m five_rule m.five) n k)

counted_all : {t : ℕ} {l : List Stsd} → Each (λ s. Listed s.body) t l → length (entries_in l) ≡ counted_in l
unfolding entries_in counted_in
counted_all none = refl
counted_all (more {s = s} q g a) = rw length-append (omega (arith, length_stsd s, g.counted, counted_all a))

pub accepted_fits : (xs : List ℕ) → Meets xs → SheetFits xs
unfolding stsds entries if_eq list_in
accepted_fits xs m =
    let h = le_is (counted_in (stsds_from 0 (movie xs) 0)) MOST (node_met (in_moov (file_met xs m five_rule m.five))) in
    let e = counted_all (each_stsd (λ s. Listed s.body) xs (listed_at xs m)) in
    record { most = m.most; few = rw (e, counted_anywhere (movie xs) 0 0 (start_in MOOV 0 (boxes xs)) 0) h; tracks = (tracks_few xs m.three).1; tiled = λ t h. (listed_at xs m t h).tiled }
