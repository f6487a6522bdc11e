-- Each kind of container meets all rules where its boxes do. Assumes nothing.
use Prim.Native.Nat.{ℕ, suc}
use mathlib.Core.Path.{◌≡◌, refl}
use mathlib.Core.Bool.{true}
use mathlib.Core.List.{List}
use Rattle.wire.specs.Tests.{if_eq}
use Rattle.wire.specs.Numbers.{word}
use Rattle.codes.specs.Codes.{TRAK, TKHD, MDIA, MDHD, HDLR, MINF, DINF, DREF, STBL, STSD, STTS, STSC, STSZ, STCO}
use Rattle.boxes.specs.Box.{Box}
use Rattle.boxes.specs.Boxes.{boxes}
use Rattle.boxes.specs.Seek.{find}
use Rattle.boxes.proofs.Reading.{All}
use Rattle.boxes.proofs.Reading.All.{none, some}
use Rattle.boxes.proofs.Every.{all_map, all_with}
use Rattle.layout.specs.Track.{Has}
use Rattle.sample_tables.specs.Tables.{table_form}
use Rattle.sample_tables.specs.Sizes.{sizes_form}
use Rattle.sample_tables.specs.Rules.{tables_agree}
use Rattle.mdat.specs.Rules.{chunks_lie}
use Rattle.rule.specs.Rule.{all_in}
use Rattle.rule.proofs.Opened.{closed}
use Rattle.rule_shape.specs.Three.{needed}
use Rattle.rule_headers.specs.Forms.{form}
use Rattle.rule_headers.specs.Four.{tracks_fine}
use Rattle.rule_lists.specs.Five.{list_form}
use Rattle.rule_lists.specs.Nine.{all_urls}
use Rattle.rule_tracks.specs.Seven.{seven_holds, seven_in}
use Rattle.rule_tracks.specs.Eight.{eight_holds, eight_in}
use Rattle.rule_entries.specs.Ten.{ten_in}
use Rattle.rule_all.specs.All.{all_rules}
use Rattle.rule_all.proofs.Held.{leaf_trak, leaf_mdia, leaf_minf, leaf_dinf, leaf_stbl}
use Rattle.rule_all.proofs.Within.{all_any, sole_each, once, in_trak, in_mdia, in_minf, in_stbl, in_dinf}

all_five : {P Q R S T U : Box → Type 0} → ((x : Box) → P x → Q x → R x → S x → T x → U x) → {l : List Box}
    → All P l → All Q l → All R l → All S l → All T l → All U l
all_five f none none none none none = none
all_five f (some {x} a p) (some b q) (some c r) (some d s) (some e t) = some (f x a b c d e) (all_five f p q r s t)

-- ---- the containers, in a file with the boxes l

module _ (l : List Box) (d : ℕ) {xs : List ℕ} where
  pub dinf_all : Has DINF xs → list_form (find DREF (boxes xs)) ≡ true → all_urls (find DREF (boxes xs)) ≡ true → all_in (all_rules l) (suc d) DINF xs ≡ true
  unfolding needed tracks_fine seven_in eight_in ten_in if_eq
  dinf_all h f g =
      closed (all_rules l) d DINF xs (record {
        node = rw (h.shut, h.three);
        leaves = all_map (λ x p z. leaf_dinf l x.code x.body p) (sole_each h DREF refl (λ b. (list_form b ≡ true) × (all_urls b ≡ true)) (f, g));
        inside = in_dinf (all_rules l) d xs;
        end = rw h.two;
      })

  -- by the bytes of its five boxes
  module _ (h : Has STBL xs) (list : list_form (find STSD (boxes xs)) ≡ true) (times : table_form 8 (find STTS (boxes xs)) ≡ true)
      (runs : table_form 12 (find STSC (boxes xs)) ≡ true)
      (sizes : sizes_form (find STSZ (boxes xs)) ≡ true) (offsets : table_form 4 (find STCO (boxes xs)) ≡ true)
      (agree : tables_agree (find STTS (boxes xs)) (find STSC (boxes xs)) (find STSZ (boxes xs)) (find STCO (boxes xs)) (word 4 (find STSD (boxes xs)) 4) ≡ true)
      (lie : chunks_lie l (find STSC (boxes xs)) (find STSZ (boxes xs)) (find STCO (boxes xs)) ≡ true) where
    pub stbl_all : all_in (all_rules l) (suc d) STBL xs ≡ true
    unfolding needed tracks_fine seven_in seven_holds eight_in eight_holds ten_in if_eq
    stbl_all =
        closed (all_rules l) d STBL xs (record {
          node = rw (h.shut, h.three, agree, lie);
          leaves = all_five (λ x p q r s t z. leaf_stbl l x.code x.body p q r s t)
              (sole_each h STSD refl (λ b. list_form b ≡ true) list) (sole_each h STTS refl (λ b. table_form 8 b ≡ true) times)
              (sole_each h STSC refl (λ b. table_form 12 b ≡ true) runs)
              (sole_each h STSZ refl (λ b. sizes_form b ≡ true) sizes) (sole_each h STCO refl (λ b. table_form 4 b ≡ true) offsets);
          inside = in_stbl (all_rules l) d xs;
          end = rw h.two;
        })

  pub minf_all : Has MINF xs → all_in (all_rules l) d DINF (find DINF (boxes xs)) ≡ true → all_in (all_rules l) d STBL (find STBL (boxes xs)) ≡ true
      → all_in (all_rules l) (suc d) MINF xs ≡ true
  unfolding needed tracks_fine seven_in eight_in ten_in if_eq
  minf_all h f g =
      closed (all_rules l) d MINF xs (record {
        node = rw (h.shut, h.three);
        leaves = all_any (λ x z. leaf_minf l x.code x.body) (boxes xs);
        inside = in_minf (all_rules l) d xs (once (all_rules l) d xs h DINF refl f) (once (all_rules l) d xs h STBL refl g);
        end = rw h.two;
      })

  pub mdia_all : Has MDIA xs → form MDIA MDHD (find MDHD (boxes xs)) ≡ true → form MDIA HDLR (find HDLR (boxes xs)) ≡ true
      → all_in (all_rules l) d MINF (find MINF (boxes xs)) ≡ true → all_in (all_rules l) (suc d) MDIA xs ≡ true
  unfolding needed tracks_fine seven_in eight_in ten_in if_eq
  mdia_all h e f g =
      closed (all_rules l) d MDIA xs (record {
        node = rw (h.shut, h.three);
        leaves = all_with (λ x p q z. leaf_mdia l x.code x.body p q)
            (sole_each h MDHD refl (λ b. form MDIA MDHD b ≡ true) e) (sole_each h HDLR refl (λ b. form MDIA HDLR b ≡ true) f);
        inside = in_mdia (all_rules l) d xs (once (all_rules l) d xs h MINF refl g);
        end = rw h.two;
      })

  pub trak_all : Has TRAK xs → form TRAK TKHD (find TKHD (boxes xs)) ≡ true → all_in (all_rules l) d MDIA (find MDIA (boxes xs)) ≡ true
      → all_in (all_rules l) (suc d) TRAK xs ≡ true
  unfolding needed tracks_fine seven_in eight_in ten_in if_eq
  trak_all h e f =
      closed (all_rules l) d TRAK xs (record {
        node = rw (h.shut, h.three);
        leaves = all_map (λ x p z. leaf_trak l x.code x.body p) (sole_each h TKHD refl (λ b. form TRAK TKHD b ≡ true) e);
        inside = in_trak (all_rules l) d xs (once (all_rules l) d xs h MDIA refl f);
        end = rw h.two;
      })
