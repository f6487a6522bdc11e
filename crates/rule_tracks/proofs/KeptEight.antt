-- Rule 8: acceptance without places, and what keeps it. Assumes nothing.
use Prim.Native.Nat.{ℕ, suc}
use native.Mathlib.Omega.{arith}
use mathlib.Core.Path.{◌≡◌, refl, ◌∙◌}
use mathlib.Core.Bool.{true}
use mathlib.Core.List.{List}
use Rattle.wire.specs.Tests.{if_eq}
use Rattle.codes.specs.Codes.{STBL, STSC, STSZ, STCO}
use Rattle.wire.proofs.Tests.{through}
use Rattle.boxes.specs.Box.{Box}
use Rattle.boxes.specs.Boxes.{boxes}
use Rattle.boxes.specs.Seek.{find}
use Rattle.boxes.specs.Containers.{kind_in, parent}
use Rattle.boxes.specs.Kin.{Leaf, Kin}
use Rattle.boxes.proofs.Kin.{kin_find}
use Rattle.mdat.specs.Payloads.{mdats}
use Rattle.mdat.specs.Relocate.{Relocated}
use Rattle.mdat.proofs.Keeping.{eight_kept}
use Rattle.mdat.proofs.Staying.{relocated_none}
use Rattle.rule.specs.Verdict.{is_fine, Fine}
use Rattle.rule.specs.Rule.{all_in, Says}
use Rattle.rule.proofs.Keeping.{keep, kept_at}
use Rattle.rule.proofs.Places.{unless_fine}
use Rattle.rule_tracks.specs.Eight.{eight_holds, eight_at, eight_in, eight, eight_rule}
use Rattle.rule_tracks.proofs.Kept.{Tables, same_table}

pub eight_says : (l : List Box) → Says (eight l) (eight_rule l)
unfolding eight_at eight_in
eight_says l = record { leaf = λ k c b p q. refl; node = λ k xs home p. through is_fine k STBL _ Fine ∙ rw unless_fine; end = λ xs p. refl }

-- from a file with the boxes l to one with the boxes m and the same payloads, where every chunk offset is relocated
module _ (G : Leaf) (t : Tables G) (l m : List Box) (same : mdats l ≡ mdats m)
    (moved : (b b' : List ℕ) → G STBL STCO b b' → Relocated l m b b') where
  holds_kept : (d : ℕ) (xs ys : List ℕ) → Kin G (suc d) STBL xs ys → eight_holds l (boxes xs) ≡ true → eight_holds m (boxes ys) ≡ true
  unfolding eight_holds kind_in parent if_eq
  holds_kept d xs ys a =
      rw (← same_table G t d xs ys a STSC (λ z. omega arith) refl t.stsc, ← same_table G t d xs ys a STSZ (λ z. omega arith) refl t.stsz)
      (eight_kept l m same (find STSC (boxes xs)) (find STSZ (boxes xs)) (find STCO (boxes xs)) (find STCO (boxes ys))
      (kin_find G d STBL xs ys a STCO (λ z. omega arith) (Relocated l m) (relocated_none l m) refl moved 0))

  in_kept : (d k : ℕ) (xs ys : List ℕ) → Kin G (suc d) k xs ys → eight_in l k xs ≡ true → eight_in m k ys ≡ true
  unfolding eight_in
  in_kept d k xs ys = kept_at G STBL (λ zs. eight_holds l (boxes zs)) (λ zs. eight_holds m (boxes zs)) d k xs ys (holds_kept d xs ys)

  pub kin_8 : (d k : ℕ) (xs ys : List ℕ) → Kin G d k xs ys → all_in (eight_rule l) d k xs ≡ true → all_in (eight_rule m) d k ys ≡ true
  kin_8 = keep (eight_rule l) (eight_rule m) G (λ k c b b' o g q. q) in_kept (λ xs q. q)
