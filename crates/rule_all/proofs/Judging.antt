-- A track meets all rules where the tests of its boxes, by where they stand, all hold. Assumes nothing.
use Prim.Native.Nat.{ℕ, ◌≤◌}
use mathlib.Core.Path.{◌∙◌}
use mathlib.Core.List.{List}
use Rattle.wire.proofs.Clauses.{clause}
use Rattle.boxes.specs.Boxes.{boxes}
use Rattle.movie.specs.Ways.{follow}
use Rattle.movie.specs.Movie.{scale, handler, references}
use Rattle.layout.specs.declared.track.Track.{Track}
use Rattle.layout.specs.Track.{Shaped, Laid}
use Rattle.rule_entries.specs.Ten.{around_of}
use Rattle.rule_all.specs.declared.TrackSays.{TrackSays}
use Rattle.rule_all.specs.Track.{Inside, heads_fine, lists_fine, forms_fine, tables_fine, AllFine, Good, EntriesMeet, SaysOf, Judged}
use Rattle.rule_all.proofs.Containers.{dinf_all, stbl_all, minf_all, mdia_all, trak_all}

module _ {xs b : List ℕ} {t : Track} (h : Laid xs b t) where
  pub inside : Inside xs t
  inside =
      record {
        tkhd = h.tkhd.lies;
        mdhd = h.mdhd.lies;
        hdlr = h.hdlr.lies;
        dref = h.dref.lies;
        stsd = h.stsd.lies;
        stts = h.stts.lies;
        stsc = h.stsc.lies;
        stsz = h.stsz.lies;
        stco = h.stco.lies;
      }

  module _ (s : Shaped b) {r : ℕ} (f : AllFine xs t r) where
    pub good : 10 ≤ r → Good (boxes xs) b
    unfolding heads_fine lists_fine forms_fine tables_fine follow
    good z =
        let head = f.heads z in
        let list = f.lists z in
        let refs = rw h.dref.is at (clause 0 _ list) in
        let table = f.forms z in
        let both = f.tables z in
        trak_all (boxes xs) 3 s.trak (rw h.tkhd.is at (clause 0 _ head))
        (mdia_all (boxes xs) 2 s.mdia (rw h.mdhd.is at (clause 1 _ head)) (rw h.hdlr.is at (clause 2 _ head))
        (minf_all (boxes xs) 1 s.minf
        (dinf_all (boxes xs) 0 s.dinf (clause 0 _ refs) (clause 1 _ refs))
        (stbl_all (boxes xs) 0 s.stbl (rw h.stsd.is at (clause 1 _ list)) (rw h.stts.is at (clause 0 _ table))
        (rw h.stsc.is at (clause 1 _ table))
        (rw h.stsz.is at (clause 2 _ table)) (rw h.stco.is at (clause 3 _ table))
        (rw (h.stts.is, h.stsc.is, h.stsz.is, h.stco.is, h.stsd.is) at (clause 0 _ both)) (rw (h.stsc.is, h.stsz.is, h.stco.is) at
        (clause 1 _ both)))))

    pub listed : 11 ≤ r → EntriesMeet b
    unfolding around_of scale handler references
    listed z = rw (h.mdhd.is, h.hdlr.is, h.dref.is, h.stsd.is) at (f.entries z)

  pub judged : Shaped b → {r : TrackSays} → SaysOf xs t r → Judged (boxes xs) b r
  judged k s =
      let f = s.fine in
      record { most = f.most; good = good k f; listed = listed k f; identity = s.identity ∙ rw h.tkhd.is; entries = s.entries ∙ rw h.stsd.is }
