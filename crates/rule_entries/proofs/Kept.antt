-- Rule 10: acceptance without places, and what keeps it. Assumes nothing.
use Prim.Native.Nat.{ℕ, suc, ◌+◌}
use mathlib.Core.Path.{◌≡◌, refl, ◌∙◌}
use mathlib.Core.Bool.{true}
use mathlib.Core.List.{List, [], ◌∷◌}
use lib.ListN.{drop}
use Rattle.wire.specs.Numbers.{word}
use Rattle.codes.specs.Codes.{MOOV, TRAK, MDIA, MDHD, HDLR, DINF, DREF, STBL, STSD}
use Rattle.wire.proofs.Tests.{both, through}
use Rattle.boxes.specs.Box.{Box, size}
use Rattle.boxes.specs.Boxes.{boxes, FRONT}
use Rattle.boxes.specs.Kin.{Leaf, Kin}
use Rattle.boxes.proofs.Meaning.{meant_or}
use Rattle.movie.specs.Ways.{to_stsd, follow}
use Rattle.movie.specs.Stsds.{Stsd, stsds_from}
use Rattle.movie.proofs.Boxed.{stsds_hit, stsds_miss}
use Rattle.movie.proofs.Stsds.{Pairs, kin_stsds}
use Rattle.movie.proofs.Stsds.Pairs.{nil, cons}
use Rattle.movie.proofs.Kept.{kin_stsd, kin_scale, kin_handler, kin_references}
use Rattle.release.specs.declared.Release.{Release}
use Rattle.std.specs.Prelude.{Option}
use Rattle.entry_rules.specs.declared.entry.Around.{Around}
use Rattle.rule.specs.Verdict.{is_fine, Fine}
use Rattle.rule.specs.Rule.{all_in, Says}
use Rattle.rule.proofs.Acceptance.{list_fine}
use Rattle.rule.proofs.Keeping.{keep, kept_at}
use Rattle.rule.proofs.Places.{sooner_fine, unless_fine}
use Rattle.rule_entries.specs.Ten.{around_of, entry_fine, entries_judged, entries_fine, stsds_judged, stsds_fine, ten_at, ten_in, ten, ten_rule}
use Rattle.rule_entries.proofs.Entry.{entry_at, no_end}

pub entries_fine_lem : (a : Option Around) (release : Release) (xs : List ℕ) (p : ℕ) → is_fine (entries_judged a release xs p) ≡ entries_fine a release xs
unfolding entries_judged entries_fine
entries_fine_lem a release xs p = list_fine (entry_at a release) no_end (entry_fine a release) true (λ x q. unless_fine (entry_fine a release x) q) (λ q. refl) (boxes xs) p

judged_fine : (release : Release) (l : List Stsd) → is_fine (stsds_judged release l) ≡ stsds_fine release l
unfolding stsds_judged stsds_fine
judged_fine release [] = refl
judged_fine release (s ∷ l) = sooner_fine _ (stsds_judged release l) ∙ rw (entries_fine_lem, judged_fine release l)

-- it is the same wherever the boxes of `moov` start
fine_anywhere : (release : Release) (l : List Box) (t u p q : ℕ) → stsds_fine release (stsds_from t l p) ≡ stsds_fine release (stsds_from u l q)
unfolding stsds_from stsds_fine
fine_anywhere release [] t u p q = refl
fine_anywhere release (x ∷ l) t u p q =
    meant_or TRAK x.code
    (λ e. rw (stsds_hit x e l t p, stsds_hit x e l u q, fine_anywhere release l (t + 1) (u + 1) (p + size x) (q + size x)))
    (λ e. rw (stsds_miss x e l t p, stsds_miss x e l u q) (fine_anywhere release l t u (p + size x) (q + size x)))

pub ten_says : (release : Release) → Says (ten release) (ten_rule release)
unfolding ten_at ten_in
ten_says release = record { leaf = λ k c b p q. refl; node = λ k xs home p. through is_fine k MOOV _ Fine ∙ rw (judged_fine, fine_anywhere release (boxes xs) 0 0 p 0); end = λ xs p. refl }

-- ---- what keeps it

-- the scale, the handler and the count of data references are kept, and the entries meet their rule
pub record Described (release : Release) (G : Leaf) : Type 0 where
  pub mdhd : (b b' : List ℕ) → G MDIA MDHD b b' → word 4 b 12 ≡ word 4 b' 12
  pub hdlr : (b b' : List ℕ) → G MDIA HDLR b b' → word 4 b 8 ≡ word 4 b' 8
  pub dref : (b b' : List ℕ) → G DINF DREF b b' → word 4 b 4 ≡ word 4 b' 4
  pub stsd : (b b' : List ℕ) → G STBL STSD b b' → (a : Option Around) → entries_fine a release (drop FRONT b) ≡ true → entries_fine a release (drop FRONT b') ≡ true

-- the entries of the one track are fine, and so are those of the other
abbrev Meeting : Release → List ℕ → List ℕ → Type 0
Meeting release b b' = entries_fine (around_of b) release (drop FRONT (follow to_stsd b)) ≡ true → entries_fine (around_of b') release (drop FRONT (follow to_stsd b')) ≡ true

stsds_kept : (release : Release) {l m : List Stsd} → Pairs (Meeting release) l m → stsds_fine release l ≡ true → stsds_fine release m ≡ true
unfolding stsds_fine
stsds_kept release nil q = refl
stsds_kept release (cons t u i j {b} h a) q = let w = both (entries_fine (around_of b) release (drop FRONT (follow to_stsd b))) _ q in rw (h w.0) (stsds_kept release a w.1)

module _ (release : Release) (G : Leaf) (t : Described release G) where
  around_kept : (d : ℕ) (b b' : List ℕ) → Kin G d TRAK b b' → around_of b ≡ around_of b'
  unfolding around_of
  around_kept d b b' a = rw (kin_scale G t.mdhd d b b' a, kin_handler G t.hdlr d b b' a, kin_references G t.dref d b b' a)

  track_kept : (d : ℕ) (b b' : List ℕ) → Kin G d TRAK b b' → Meeting release b b'
  track_kept d b b' a =
      rw (← around_kept d b b' a)
      (kin_stsd G (λ c c'. (i : Option Around) → entries_fine i release (drop FRONT c) ≡ true → entries_fine i release (drop FRONT c') ≡ true) (λ c i q. q) t.stsd d b b' a (around_of b))

  in_kept : (d k : ℕ) (xs ys : List ℕ) → Kin G (suc d) k xs ys → ten_in release k xs ≡ true → ten_in release k ys ≡ true
  unfolding ten_in
  in_kept d k xs ys = kept_at G MOOV (λ zs. stsds_fine release (stsds_from 0 (boxes zs) 0)) (λ zs. stsds_fine release (stsds_from 0 (boxes zs) 0)) d k xs ys (λ a. stsds_kept release (kin_stsds (Meeting release) G d (track_kept d) xs ys a 0 0))

  pub kin_10 : (d k : ℕ) (xs ys : List ℕ) → Kin G d k xs ys → all_in (ten_rule release) d k xs ≡ true → all_in (ten_rule release) d k ys ≡ true
  kin_10 = keep (ten_rule release) (ten_rule release) G (λ k c b b' o g q. q) in_kept (λ xs q. q)
