-- An edit keeps the release and every rule, and refusal 23 lets the file pass again. Assumes nothing.
use Prim.Native.Nat.{ℕ, ◌≤◌}
use native.Mathlib.Omega.{arith}
use mathlib.Core.Path.{◌≡◌, refl, sym, ap, ◌∙◌}
use mathlib.Core.Bool.{true}
use mathlib.Core.List.{List, [], ◌∷◌}
use lib.ListN.{length}
use Rattle.wire.specs.Tests.{if_eq}
use Rattle.wire.specs.Numbers.{Bytes}
use Rattle.boxes.specs.Box.{Box, write}
use Rattle.boxes.specs.Boxes.{boxes}
use Rattle.codes.specs.Codes.{FTYP}
use Rattle.boxes.specs.Containers.{FILE, DEPTH, LONGEST, parent, kind_in}
use Rattle.boxes.specs.Seek.{find}
use Rattle.boxes.proofs.Kin.{kin_find}
use Rattle.rule.specs.Rule.{Rule, all_list}
use Rattle.rule_shape.specs.Three.{needed, besides, shape, three_rule}
use Rattle.rule_shape.specs.Two.{may_have, shut_in, two_rule}
use Rattle.rule_shape.specs.TwentyThree.{editable_rule}
use Rattle.rule_shape.proofs.Keeping.{same_exactly, kin_2, kin_3, kin_editable}
use Rattle.rule_lists.specs.Five.{five_rule}
use Rattle.rule_lists.specs.Nine.{nine_rule}
use Rattle.rule_lists.proofs.Keeping.{kin_5, kin_9}
use Rattle.rule_headers.specs.Four.{tracks_fine, four_rule}
use Rattle.rule_headers.proofs.Rule4.{kin_4}
use Rattle.rule_tracks.specs.Six.{six_rule}
use Rattle.rule_tracks.specs.Seven.{seven_in, seven_rule}
use Rattle.rule_tracks.specs.Eight.{eight_in, eight_rule}
use Rattle.rule_tracks.proofs.Kept.{kin_6, kin_7}
use Rattle.rule_tracks.proofs.KeptEight.{kin_8}
use Rattle.rule_entries.specs.Ten.{ten_in, ten_rule}
use Rattle.rule_entries.proofs.Kept.{kin_10}
use Rattle.release.specs.Releases.{release_in, release_of}
use Rattle.judge.specs.Acceptance.{Holds, Meets, editable}
use Rattle.promise_kept.proofs.Content.{Content}
use Rattle.promise_kept.proofs.Forms.{six_forms}
use Rattle.promise_kept.proofs.Arranges.{Arranges}
use Rattle.promise_kept.proofs.Arranging.{arranged_rule}
use Rattle.promise_kept.proofs.Settling.{new, new_bytes, new_tiled, new_small, new_shut, Changes, edit_kin, edit_sound}
use Rattle.promise_kept.proofs.Following.{in_order, edit_moved, same_payloads}

-- any box of the file may be open
all_may : (l : List Box) → all_list (shut_in FILE) true l ≡ true
unfolding all_list may_have if_eq
all_may [] = refl
all_may (x ∷ l) = all_may l

-- the file has its boxes, in whichever order
shape_arranged : {A : List Box → List Box} → Arranges A → (l : List Box) → shape FILE (A l) ≡ shape FILE l
unfolding shape besides if_eq
shape_arranged {A} a l = rw (same_exactly (A l) l (λ c. a.counts c l) 1 (needed FILE), a.first l)

module _ {A : List Box → List Box} (a : Arranges A) (xs ys : List ℕ) (w : Bytes xs) (m : Meets xs) (c : Content (release_of (boxes xs)) xs ys) where
  abbrev mid : List ℕ
  mid = new a xs ys w m c

  abbrev result : List ℕ
  result = write (A (boxes (new a xs ys w m c)))

  -- a rule of the content is one of the file
  to_file : (r : Rule) → (r.node FILE mid ≡ true → r.node FILE result ≡ true) → Holds r mid → Holds r result
  to_file r = arranged_rule a mid (new_bytes a xs ys w m c) (new_tiled a xs ys w m c) (new_small a xs ys w m c) (new_shut a xs ys w m c) r 5 FILE

  -- refusal 23 lets it pass again
  pub edit_plain : editable xs ≡ true → editable result ≡ true
  edit_plain q =
      to_file editable_rule (λ p. rw (in_order a xs ys w m c, same_exactly (A (boxes mid)) (boxes mid) (λ d. a.counts d (boxes mid)) 0) p)
      (kin_editable (Changes a xs ys w m c) DEPTH FILE xs mid (edit_kin a xs ys w m c) q)

  -- it has the same `ftyp`, and so it is of the same release
  pub same_release : release_of (boxes (write (A (boxes (new a xs ys w m c))))) ≡ release_of (boxes xs)
  unfolding kind_in parent if_eq
  same_release =
      let e = kin_find (Changes a xs ys w m c) 5 FILE xs mid (edit_kin a xs ys w m c) FTYP (λ z. omega arith) (λ b b'. b ≡ b') refl refl (edit_sound a xs ys w m c).ftyp 0 in
      ap release_in (ap (find FTYP) (in_order a xs ys w m c) ∙ a.found FTYP (λ z. omega arith) (boxes mid) ∙ sym e)

  -- every rule holds of it
  pub edit_meets : 8 ≤ length result → length result ≤ LONGEST → Meets result
  unfolding tracks_fine seven_in eight_in ten_in if_eq
  edit_meets n k =
      let G = Changes a xs ys w m c in
      let h = edit_kin a xs ys w m c in
      let s = edit_sound a xs ys w m c in
      record {
        least = n;
        most = k;
        two = to_file two_rule (λ p. all_may (boxes result)) (kin_2 G DEPTH FILE xs mid h m.two);
        three = to_file three_rule (λ p. rw (in_order a xs ys w m c, shape_arranged a (boxes mid)) p) (kin_3 G DEPTH FILE xs mid h m.three);
        four = to_file four_rule (λ p. refl) (kin_4 G s.forms s.tkhd DEPTH FILE xs mid h m.four);
        five = to_file five_rule (λ p. refl) (kin_5 G s.stsd s.tables.stsd s.dref DEPTH FILE xs mid h m.five);
        six = to_file six_rule (λ p. p) (kin_6 G (λ i d b b' z r. six_forms G s.tables i d b b' r) DEPTH FILE xs mid h m.six);
        seven = to_file seven_rule (λ p. refl) (kin_7 G s.tables DEPTH FILE xs mid h m.seven);
        eight =
            rw (in_order a xs ys w m c) (to_file (eight_rule (A (boxes mid))) (λ p. refl)
            (kin_8 G s.tables (boxes xs) (A (boxes mid)) (same_payloads a xs ys w m c) (edit_moved a xs ys w m c) DEPTH FILE xs mid h m.eight));
        nine = to_file nine_rule (λ p. p) (kin_9 G s.urls DEPTH FILE xs mid h m.nine);
        ten = rw same_release (to_file (ten_rule (release_of (boxes xs))) (λ p. refl) (kin_10 (release_of (boxes xs)) G s.described DEPTH FILE xs mid h m.ten));
      }
