-- An edit takes a container where none of its boxes is barred there, and it takes those in it. Assumes nothing.
use Prim.Native.Nat.{ℕ, suc, ◌≤◌, ◌<◌}
use native.Mathlib.Omega.{arith}
use mathlib.Core.Path.{◌≡◌, refl, subst}
use mathlib.Core.Bool.{true}
use mathlib.Core.List.{List}
use Rattle.wire.specs.Tests.{if_eq}
use Rattle.wire.proofs.Tests.{eq_or}
use Rattle.wire.proofs.Clauses.{is_eq_lem}
use Rattle.codes.specs.Codes.{MOOV, TRAK, MDIA, MINF, DINF, STBL, MOOF, MFRA, SIDX, META, CO64, SAIO}
use Rattle.boxes.specs.Boxes.{boxes}
use Rattle.boxes.specs.Containers.{FILE}
use Rattle.boxes.specs.Seek.{ANY, count, find, nth}
use Rattle.boxes.proofs.Every.{found_each}
use Rattle.rule.specs.Rule.{all_in}
use Rattle.rule.proofs.Opened.{closed}
use Rattle.rule_shape.specs.Three.{exactly}
use Rattle.rule_shape.specs.TwentyThree.{barred, editable_rule}
use Rattle.rule_all.proofs.Within.{all_any, Within, Each, in_dinf, in_stbl, in_minf, in_mdia, in_trak, in_moov, in_file, numbered}

abbrev Edits : ℕ → ℕ → List ℕ → Type 0
Edits d k xs = all_in editable_rule d k xs ≡ true

edits : (d k : ℕ) (xs : List ℕ) → exactly 0 (barred k) (boxes xs) ≡ true → Within editable_rule d k xs → Edits (suc d) k xs
edits d k xs n w = closed editable_rule d k xs (record { node = n; leaves = all_any (λ x z. refl) (boxes xs); inside = w; end = refl })

-- a code that stands once at most
few : (d k : ℕ) (xs : List ℕ) → (k ≡ ANY → ⊥) → count k (boxes xs) ≤ 1 → (0 < count k (boxes xs) → Edits d k (find k (boxes xs))) → Each editable_rule d k xs
few d k xs z h e = found_each k z (Edits d k) (boxes xs) e h

dinf_edits : (xs : List ℕ) → Edits 1 DINF xs
unfolding barred exactly if_eq
dinf_edits xs = edits 0 DINF xs refl (in_dinf editable_rule 0 xs)

module _ (xs : List ℕ) where
  abbrev n : ℕ → ℕ
  n c = count c (boxes xs)

  pub stbl_edits : n CO64 ≡ 0 → n SAIO ≡ 0 → Edits 1 STBL xs
  unfolding barred exactly if_eq
  stbl_edits a b = edits 0 STBL xs (rw (is_eq_lem _ _ a, is_eq_lem _ _ b)) (in_stbl editable_rule 0 xs)

  minf_edits : n STBL ≤ 1 → Edits 1 STBL (find STBL (boxes xs)) → Edits 2 MINF xs
  unfolding barred exactly if_eq
  minf_edits h e = edits 1 MINF xs refl (in_minf editable_rule 1 xs (all_any (λ x z. dinf_edits x.body) (boxes xs))
      (few 1 STBL xs (λ z. omega arith) h (λ q. e)))

  pub trak_edits : n MDIA ≤ 1 → n META ≡ 0 → (0 < n MDIA → Edits 3 MDIA (find MDIA (boxes xs))) → Edits 4 TRAK xs
  unfolding barred exactly if_eq
  trak_edits h a e = edits 3 TRAK xs (rw (is_eq_lem _ _ a)) (in_trak editable_rule 3 xs (few 3 MDIA xs (λ z. omega arith) h e))

  pub moov_edits : n META ≡ 0 → n TRAK ≤ 4 → Edits 4 TRAK (nth TRAK 0 (boxes xs)) → Edits 4 TRAK (nth TRAK 1 (boxes xs))
      → Edits 4 TRAK (nth TRAK 2 (boxes xs)) → Edits 4 TRAK (nth TRAK 3 (boxes xs)) → Edits 5 MOOV xs
  unfolding barred exactly if_eq
  moov_edits a h e f g i =
      edits 4 MOOV xs (rw (is_eq_lem _ _ a)) (in_moov editable_rule 4 xs (numbered editable_rule 4 xs (λ j k.
      eq_or j 0 (λ q. rw q e) (λ s. eq_or j 1 (λ q. rw q f) (λ t. eq_or j 2 (λ q. rw q g) (λ u. let q : j ≡ 3 = omega arith in rw q i))))))

pub mdia_edits : (xs : List ℕ) → count MINF (boxes xs) ≤ 1 → count STBL (boxes (find MINF (boxes xs))) ≤ 1
    → Edits 1 STBL (find STBL (boxes (find MINF (boxes xs)))) → Edits 3 MDIA xs
unfolding barred exactly if_eq
mdia_edits xs h k e = edits 2 MDIA xs refl (in_mdia editable_rule 2 xs (few 2 MINF xs (λ z. omega arith) h (λ q. minf_edits _ k e)))

-- the file, by a part that is all of it
pub file_edits : {xs ys : List ℕ} → ys ≡ xs → count MOOV (boxes ys) ≤ 1 → count MOOF (boxes ys) ≡ 0 → count MFRA (boxes ys) ≡ 0 → count SIDX (boxes ys) ≡ 0
    → count META (boxes ys) ≡ 0 → Edits 5 MOOV (find MOOV (boxes ys)) → Edits 6 FILE xs
unfolding barred exactly if_eq
file_edits {xs} {ys} q h a b c d e =
    subst (Edits 6 FILE) q (edits 5 FILE ys (rw (is_eq_lem _ _ a, is_eq_lem _ _ b, is_eq_lem _ _ c, is_eq_lem _ _ d)) (in_file editable_rule 5 ys (few 5 MOOV ys
    (λ z. omega arith) h (λ z. e))))
