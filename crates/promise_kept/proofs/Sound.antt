-- What the opaque boxes of an edit must keep, so that every rule is kept. Assumes nothing.
use Prim.Native.Nat.{ℕ}
use mathlib.Core.Path.{◌≡◌, ◌∙◌}
use mathlib.Core.Bool.{true}
use mathlib.Core.List.{List}
use Rattle.wire.specs.Numbers.{word}
use Rattle.codes.specs.Codes.{FTYP, TRAK, TKHD, DINF, DREF, STBL, STSD, MDAT}
use Rattle.boxes.specs.Containers.{FILE, kind_in}
use Rattle.boxes.specs.Kin.{Leaf}
use Rattle.boxes.proofs.Kin.{Then}
use Rattle.release.specs.declared.Release.{Release}
use Rattle.rule_lists.specs.Five.{list_form}
use Rattle.rule_lists.specs.Nine.{all_urls}
use Rattle.rule_headers.specs.Forms.{form}
use Rattle.rule_tracks.proofs.Kept.{Tables}
use Rattle.rule_entries.proofs.Kept.{Described}

-- how a box is related to what it becomes, by its container's kind and its code: each rule of a release but 8 is kept, and so are brands and payloads
pub record Sound (release : Release) (G : Leaf) : Type 0 where
  pub ftyp : (b b' : List ℕ) → G FILE FTYP b b' → b ≡ b'
  pub mdat : (b b' : List ℕ) → G FILE MDAT b b' → b ≡ b'
  pub forms : (k c : ℕ) (b b' : List ℕ) → kind_in k c ≡ 0 → G k c b b' → form k c b ≡ true → form k c b' ≡ true
  pub tkhd : (b b' : List ℕ) → G TRAK TKHD b b' → word 4 b 12 ≡ word 4 b' 12
  pub stsd : (b b' : List ℕ) → G STBL STSD b b' → list_form b ≡ true → list_form b' ≡ true
  pub dref : (b b' : List ℕ) → G DINF DREF b b' → list_form b ≡ true → list_form b' ≡ true
  pub urls : (b b' : List ℕ) → G DINF DREF b b' → all_urls b ≡ true → all_urls b' ≡ true
  pub tables : Tables G
  pub described : Described release G

-- a narrower relation is sound too
pub sound_less : {release : Release} {G H : Leaf} → ((k c : ℕ) (b b' : List ℕ) → H k c b b' → G k c b b') → Sound release G → Sound release H
sound_less h s =
    record {
      ftyp = λ b b' r. s.ftyp b b' (h _ _ b b' r);
      mdat = λ b b' r. s.mdat b b' (h _ _ b b' r);
      forms = λ k c b b' z r. s.forms k c b b' z (h k c b b' r);
      tkhd = λ b b' r. s.tkhd b b' (h _ _ b b' r);
      stsd = λ b b' r. s.stsd b b' (h _ _ b b' r);
      dref = λ b b' r. s.dref b b' (h _ _ b b' r);
      urls = λ b b' r. s.urls b b' (h _ _ b b' r);
      tables =
          let t = s.tables in
          record {
            stts = λ b b' r. t.stts b b' (h _ _ b b' r);
            stsc = λ b b' r. t.stsc b b' (h _ _ b b' r);
            stsz = λ b b' r. t.stsz b b' (h _ _ b b' r);
            stco = λ b b' r. t.stco b b' (h _ _ b b' r);
            stsd = λ b b' r. t.stsd b b' (h _ _ b b' r);
          };
      described =
          let d = s.described in
          record {
            mdhd = λ b b' r. d.mdhd b b' (h _ _ b b' r);
            hdlr = λ b b' r. d.hdlr b b' (h _ _ b b' r);
            dref = λ b b' r. d.dref b b' (h _ _ b b' r);
            stsd = λ b b' r. d.stsd b b' (h _ _ b b' r);
          };
    }

-- one after the other
pub sound_then : {release : Release} {G H : Leaf} → Sound release G → Sound release H → Sound release (Then G H)
sound_then s t =
    record {
      ftyp = λ b b'' r. s.ftyp b r.0 r.1 ∙ t.ftyp r.0 b'' r.2;
      mdat = λ b b'' r. s.mdat b r.0 r.1 ∙ t.mdat r.0 b'' r.2;
      forms = λ k c b b'' z r q. t.forms k c r.0 b'' z r.2 (s.forms k c b r.0 z r.1 q);
      tkhd = λ b b'' r. s.tkhd b r.0 r.1 ∙ t.tkhd r.0 b'' r.2;
      stsd = λ b b'' r q. t.stsd r.0 b'' r.2 (s.stsd b r.0 r.1 q);
      dref = λ b b'' r q. t.dref r.0 b'' r.2 (s.dref b r.0 r.1 q);
      urls = λ b b'' r q. t.urls r.0 b'' r.2 (s.urls b r.0 r.1 q);
      tables =
          let u = s.tables in
          let v = t.tables in
          record {
            stts = λ b b'' r. u.stts b r.0 r.1 ∙ v.stts r.0 b'' r.2;
            stsc = λ b b'' r. u.stsc b r.0 r.1 ∙ v.stsc r.0 b'' r.2;
            stsz = λ b b'' r. u.stsz b r.0 r.1 ∙ v.stsz r.0 b'' r.2;
            stco = λ b b'' r. let e = u.stco b r.0 r.1 in let f = v.stco r.0 b'' r.2 in (e.0 ∙ f.0, e.1 ∙ f.1);
            stsd = λ b b'' r. u.stsd b r.0 r.1 ∙ v.stsd r.0 b'' r.2;
          };
      described =
          let u = s.described in
          let v = t.described in
          record {
            mdhd = λ b b'' r. u.mdhd b r.0 r.1 ∙ v.mdhd r.0 b'' r.2;
            hdlr = λ b b'' r. u.hdlr b r.0 r.1 ∙ v.hdlr r.0 b'' r.2;
            dref = λ b b'' r. u.dref b r.0 r.1 ∙ v.dref r.0 b'' r.2;
            stsd = λ b b'' r a q. v.stsd r.0 b'' r.2 a (u.stsd b r.0 r.1 a q);
          };
    }
