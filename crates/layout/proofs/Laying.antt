-- A track from what was gathered of its containers, each found in the one before it. Assumes nothing.
use Prim.Native.Nat.{ℕ, ◌+◌, ◌<◌}
use native.Mathlib.Omega.{arith}
use mathlib.Core.Path.{◌≡◌, refl, ap, subst, ◌∙◌}
use mathlib.Core.Bool.{true}
use mathlib.Core.List.{List}
use lib.ListN.{length}
use Rattle.codes.specs.Codes.{TRAK, TKHD, MDIA, MDHD, HDLR, MINF, DINF, DREF, STBL, STSD, STTS, STSC, STSZ, STCO}
use Rattle.boxes.specs.Boxes.{boxes}
use Rattle.boxes.specs.Seek.{count, find, start_in}
use Rattle.boxes.proofs.Numbered.{nth_there, found_short}
use Rattle.movie.specs.Ways.{follow, start_along}
use Rattle.movie.specs.Movie.{mdia as mdia_of, minf as minf_of}
use Rattle.layout.specs.declared.gather.Slot.{Slot}
use Rattle.layout.specs.declared.gather.Five.{Five}
use Rattle.layout.specs.declared.track.Track.{Track}
use Rattle.layout.specs.Slots.{slot_in, first_with, alone_of, Stands, Gathered}
use Rattle.layout.specs.Track.{At, Has, Shaped, Laid, StsdPlaced}
use Rattle.layout.proofs.Shaped.{trak_shape, mdia_shape, minf_shape, dinf_shape, stbl_shape, gathered_has}

pub at_in : {xs zs : List ℕ} {o : Slot} {c : ℕ} {s : Slot} → Stands xs o (first_with c) s → slot_in xs o ≡ zs → At xs (find c (boxes zs)) s
at_in {c = c} k e = record { lies = k.lies; is = k.is ∙ ap (λ (l : List ℕ). find c (boxes l)) e }

-- the place of a box that is there
pub place_in : {xs zs : List ℕ} {o : Slot} (c : ℕ) {s : Slot} → Stands xs o (first_with c) s → slot_in xs o ≡ zs → 0 < length (find c (boxes zs))
    → s.from ≡ o.from + start_in c 0 (boxes zs)
place_in {zs = zs} {o} c k e h =
    let n = nth_there c 0 (boxes zs) (λ q. let l = ap length q in omega arith) in
    k.place (omega (arith, k.counted, ap (λ (l : List ℕ). count c (boxes l)) e)) ∙ ap (λ (l : List ℕ). o.from + start_in c 0 (boxes l)) e

-- the boxes of a track, each found in the one before it
pub record Standing (xs : List ℕ) (trak mdia minf dinf stbl : Slot) (t : Track) : Type 0 where
  pub in_trak : Stands xs trak (first_with MDIA) mdia
  pub in_mdia : Stands xs mdia (first_with MINF) minf
  pub left : Stands xs minf (first_with DINF) dinf
  pub right : Stands xs minf (first_with STBL) stbl
  pub tkhd : Stands xs trak (first_with TKHD) t.tkhd
  pub mdhd : Stands xs mdia (first_with MDHD) t.mdhd
  pub hdlr : Stands xs mdia (first_with HDLR) t.hdlr
  pub dref : Stands xs dinf (first_with DREF) t.dref
  pub stsd : Stands xs stbl (first_with STSD) t.stsd
  pub stts : Stands xs stbl (first_with STTS) t.stts
  pub stsc : Stands xs stbl (first_with STSC) t.stsc
  pub stsz : Stands xs stbl (first_with STSZ) t.stsz
  pub stco : Stands xs stbl (first_with STCO) t.stco

module _ {xs : List ℕ} {trak mdia minf dinf stbl : Slot} {t : Track} (g : Standing xs trak mdia minf dinf stbl t) where
  abbrev b : List ℕ
  b = slot_in xs trak

  pub mdia_is : slot_in xs mdia ≡ find MDIA (boxes b)
  mdia_is = g.in_trak.is

  pub minf_is : slot_in xs minf ≡ find MINF (mdia_of b)
  minf_is = (at_in g.in_mdia mdia_is).is

  pub dinf_is : slot_in xs dinf ≡ find DINF (minf_of b)
  dinf_is = (at_in g.left minf_is).is

  pub stbl_is : slot_in xs stbl ≡ find STBL (minf_of b)
  stbl_is = (at_in g.right minf_is).is

  pub laid : (t.shaped ≡ true → Shaped b) → Laid xs b t
  unfolding follow
  laid h =
      record {
        shaped = h;
        tkhd = at_in g.tkhd refl;
        mdhd = at_in g.mdhd mdia_is;
        hdlr = at_in g.hdlr mdia_is;
        dref = at_in g.dref dinf_is;
        stsd = at_in g.stsd stbl_is;
        stts = at_in g.stts stbl_is;
        stsc = at_in g.stsc stbl_is;
        stsz = at_in g.stsz stbl_is;
        stco = at_in g.stco stbl_is;
      }

  pub listed : StsdPlaced xs trak t
  unfolding follow start_along
  listed =
      record {
        place = λ h.
            let in_stbl = found_short STSD 0 (find STBL (minf_of b)) refl in
            let in_minf = found_short STBL 0 (find MINF (mdia_of b)) refl in
            let in_mdia = found_short MINF 0 (find MDIA (boxes b)) refl in
            omega (
              arith,
              place_in MDIA g.in_trak refl (omega arith),
              place_in MINF g.in_mdia mdia_is (omega arith),
              place_in STBL g.right minf_is (omega arith),
              place_in STSD g.stsd stbl_is h,
            );
      }

-- ---- by one walk over each of five containers

module _ {xs : List ℕ} {trak : Slot} {t m i d s : Five}
    (gt : Gathered xs trak (first_with TKHD) (first_with MDIA) (first_with MDIA) (first_with MDIA) (first_with MDIA) t)
    (gm : Gathered xs t.b (first_with MDHD) (first_with HDLR) (first_with MINF) (first_with MINF) (first_with MINF) m)
    (gi : Gathered xs m.c (first_with DINF) (first_with STBL) (first_with STBL) (first_with STBL) (first_with STBL) i)
    (gs : Gathered xs i.b (first_with STSD) (first_with STTS) (first_with STSC) (first_with STSZ) (first_with STCO) s)
    (gd : Gathered xs i.a (first_with DREF) (first_with DREF) (first_with DREF) (first_with DREF) (first_with DREF) d) where
  abbrev gathered : Track
  gathered = record { shaped = true; tkhd = t.a; mdhd = m.a; hdlr = m.b; dref = d.a; stsd = s.a; stts = s.b; stsc = s.c; stsz = s.d; stco = s.e }

  standing : Standing xs trak t.b m.c i.a i.b gathered
  standing =
      record {
        in_trak = gt.second;
        in_mdia = gm.third;
        left = gi.first;
        right = gi.second;
        tkhd = gt.first;
        mdhd = gm.first;
        hdlr = gm.second;
        dref = gd.first;
        stsd = gs.first;
        stts = gs.second;
        stsc = gs.third;
        stsz = gs.fourth;
        stco = gs.fifth;
      }

  pub all_laid : alone_of t ≡ true → alone_of m ≡ true → alone_of i ≡ true → alone_of s ≡ true → alone_of d ≡ true
      → Shaped (slot_in xs trak) × Laid xs (slot_in xs trak) gathered × StsdPlaced xs trak gathered
  all_laid ot om oi os od =
      let g = standing in
      let s : Shaped (slot_in xs trak) = record {
        trak = gathered_has gt ot TRAK (λ a b c d e. trak_shape _ a b);
        mdia = subst (Has MDIA) (mdia_is g) (gathered_has gm om MDIA (λ a b c d e. mdia_shape _ a b c));
        minf = subst (Has MINF) (minf_is g) (gathered_has gi oi MINF (λ a b c d e. minf_shape _ a b));
        dinf = subst (Has DINF) (dinf_is g) (gathered_has gd od DINF (λ a b c d e. dinf_shape _ a));
        stbl = subst (Has STBL) (stbl_is g) (gathered_has gs os STBL (λ a b c d e. stbl_shape _ a b c d e));
      } in
      (s, laid g (λ z. s), listed g)
