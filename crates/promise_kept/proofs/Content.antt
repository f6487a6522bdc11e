-- An edit of a file's content: boxes are rewritten where they stand, before chunk offsets follow. Assumes nothing.
use Prim.Native.Nat.{ℕ, ◌≤◌}
use native.Mathlib.Omega.{arith}
use mathlib.Core.Path.{◌≡◌, sym, ◌∙◌}
use mathlib.Core.List.{List}
use mathlib.Core.Logic.{inl, inr}
use lib.ListN.{length}
use Rattle.wire.specs.Numbers.{Bytes}
use Rattle.codes.specs.Codes.{STBL, STCO}
use Rattle.boxes.specs.declared.walk.Form.TheVariants.{Plain, Open}
use Rattle.boxes.specs.Box.{Box}
use Rattle.boxes.specs.Boxes.{boxes}
use Rattle.boxes.specs.Containers.{FILE, DEPTH, LONGEST}
use Rattle.boxes.specs.Kin.{All2, Leaf, Formed, KinBox, Kin}
use Rattle.boxes.specs.Kin.All2.{nil, cons}
use Rattle.boxes.proofs.Reading.{All}
use Rattle.boxes.proofs.Reading.All.{none, some}
use Rattle.boxes.proofs.Kin.{Then, kin_then}
use Rattle.release.specs.declared.Release.{Release}
use Rattle.edit_offsets.specs.Close.{closed}
use Rattle.edit_offsets.proofs.Closing.{Equal, ShutMoov, moovs_shut}
use Rattle.edit_offsets.proofs.ClosedFile.{length_closed, boxes_closed, bytes_closed, kin_closed}
use Rattle.promise_kept.proofs.Sound.{Sound, sound_then}

-- the content of xs was edited to ys, which keeps the rules of a release
pub record Content (release : Release) (xs ys : List ℕ) : Type 1 where
  pub leaf : Leaf
  pub kin : Kin leaf DEPTH FILE xs ys
  pub sound : Sound release leaf
  pub stco : (b b' : List ℕ) → leaf STBL STCO b b' → b ≡ b'
  pub shut : All ShutMoov (boxes ys)
  pub bytes : Bytes ys
  pub small : length ys ≤ LONGEST

-- ---- no `moov` opens

plain_open : Plain ≡ Open → ⊥
plain_open e = let z : ◌≡◌ {A = ℕ} 0 1 = cc in omega arith

stays_shut : {k : ℕ} (x y : Box) → Formed k x.code x.form y.form → x.code ≡ y.code → ShutMoov x → ShutMoov y
stays_shut x y (inl e) c h o m = h (e ∙ o) (c ∙ m)
stays_shut x y (inr (z, n, f, p)) c h o m = plain_open (sym p ∙ o)

pub kin_shut : {G : Leaf} {go : ℕ → List ℕ → List ℕ → Type 0} {k : ℕ} {l m : List Box} → All2 (KinBox G go k) l m → All ShutMoov l → All ShutMoov m
kin_shut nil none = none
kin_shut (cons {x} {y} r a) (some h b) = some {x = y} (stays_shut x y r.form r.code h) (kin_shut a b)

-- ---- the file with its `moov` closed: no body changes

-- which is sound
pub equal_sound : (release : Release) → Sound release Equal
equal_sound release =
    record {
      ftyp = λ b b' r. r;
      mdat = λ b b' r. r;
      forms = λ k c b b' z r q. rw (← r) q;
      tkhd = λ b b' r. rw r;
      stsd = λ b b' r q. rw (← r) q;
      dref = λ b b' r q. rw (← r) q;
      urls = λ b b' r q. rw (← r) q;
      tables = record { stts = λ b b' r. r; stsc = λ b b' r. r; stsz = λ b b' r. r; stco = λ b b' r. (rw r, rw r); stsd = λ b b' r. rw r };
      described = record { mdhd = λ b b' r. rw r; hdlr = λ b b' r. rw r; dref = λ b b' r. rw r; stsd = λ b b' r a q. rw (← r) q };
    }

pub content_closed : (release : Release) (xs : List ℕ) → Bytes xs → length xs ≤ LONGEST → Content release xs (closed xs)
content_closed release xs w n =
    record {
      leaf = Equal;
      kin = kin_closed xs w (omega arith);
      sound = equal_sound release;
      stco = λ b b' r. r;
      shut = rw (boxes_closed xs w (omega arith)) (moovs_shut (boxes xs));
      bytes = bytes_closed xs w (omega arith);
      small = omega (arith, length_closed xs);
    }

-- one after the other
pub content_then : {release : Release} {xs ys zs : List ℕ} → Content release xs ys → Content release ys zs → Content release xs zs
content_then {release} {xs} {ys} {zs} c d =
    record {
      leaf = Then c.leaf d.leaf;
      kin = kin_then c.leaf d.leaf DEPTH FILE xs ys zs c.kin d.kin;
      sound = sound_then c.sound d.sound;
      stco = λ b b'' r. c.stco b r.0 r.1 ∙ d.stco r.0 b'' r.2;
      shut = d.shut;
      bytes = d.bytes;
      small = d.small;
    }
