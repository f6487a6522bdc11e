-- A file that meets the rules, as code parts it at its `moov`. Assumes nothing.
use Prim.Native.Nat.{ℕ, ◌+◌, ◌≤◌}
use native.Mathlib.Omega.{arith}
use mathlib.Core.Path.{◌≡◌, refl, sym, ap, ◌∙◌}
use mathlib.Core.List.{List, [], ◌∷◌, ◌++◌}
use lib.ListN.{length}
use Rattle.wire.specs.Numbers.{Bytes}
use Rattle.codes.specs.Codes.{FTYP, MOOV}
use Rattle.boxes.specs.declared.walk.BoxAt.{BoxAt}
use Rattle.boxes.specs.Box.{Box, head_of, size}
use Rattle.boxes.specs.Boxes.{boxes, total}
use Rattle.boxes.specs.Walk.{box_at}
use Rattle.boxes.specs.Seek.{ANY, meant, count, place_by, place_in, Cut}
use Rattle.boxes.proofs.Placing.{total_before}
use Rattle.boxes.proofs.Cutting.{cut_size}
use Rattle.boxes.proofs.Meaning.{place_hit, place_next, meant_any, meant_is}
use Rattle.boxes.proofs.Numbered.{count_append}
use Rattle.judge.specs.Acceptance.{Meets}
use Rattle.edit_offsets.proofs.Accepted.{one_moov, ftyp_first}
use Rattle.edit_move.specs.Moving.{moov_second}
use Rattle.edit_move.proofs.Order.{second_is}

-- ---- places

-- the first box of all starts where they do, and the second where the first ends
starts : (l : List Box) → place_in ANY 0 l ≡ 0
unfolding place_in place_by
starts [] = refl
starts (x ∷ l) = place_hit ANY x l (sym (meant_any ANY x.code refl)) (λ y. 0)

pub second_place : (x : Box) (l : List Box) → place_in ANY 1 (x ∷ l) ≡ size x
unfolding place_in
second_place x l = place_next ANY x l (sym (meant_any ANY x.code refl)) (λ y. 0) 0 ∙ omega (arith, starts l)

-- ---- the boxes before `moov`, itself, and those after it

pub record Parted (xs : List ℕ) (b : BoxAt) : Type 0 where
  pub ftyp : Box
  pub mid : List Box
  pub end : List Box
  pub list : boxes xs ≡ ftyp ∷ (mid ++ box_at xs b ∷ end)
  pub second : moov_second (boxes xs) ≡ ftyp ∷ (box_at xs b ∷ (mid ++ end))
  pub name : ftyp.code ≡ FTYP
  pub moov : b.code ≡ MOOV
  pub before : count MOOV (ftyp ∷ mid) ≡ 0
  pub behind : count MOOV end ≡ 0
  pub at : b.at ≡ size ftyp + total mid
  pub head : b.head ≡ head_of b.form
  pub span : b.span ≡ size (box_at xs b)
  pub inside : b.at + b.span ≤ length xs

module _ (xs : List ℕ) (v : Bytes xs) (m : Meets xs) {b : BoxAt} (c : Cut xs MOOV 0 b) where
  cut_moov : b.code ≡ MOOV
  cut_moov = meant_is MOOV b.code (λ z. omega arith) c.hit

  none_after : count MOOV c.q ≡ 0
  unfolding count
  none_after = omega (arith, one_moov xs m, ap (count MOOV) c.list, count_append MOOV c.p (box_at xs b ∷ c.q), c.hit, c.nth)

  parted_by : (p : List Box) → c.p ≡ p → Parted xs b
  unfolding total count
  parted_by [] e =
      let l : boxes xs ≡ box_at xs b ∷ c.q = rw e at c.list in
      absurd (omega (arith, cut_moov, ftyp_first xs m (box_at xs b) c.q l))
  parted_by (x ∷ p) e =
      let l : boxes xs ≡ x ∷ (p ++ box_at xs b ∷ c.q) = rw e at c.list in
      let n : meant MOOV x.code + count MOOV p ≡ 0 = rw e at c.nth in
      record {
        ftyp = x;
        mid = p;
        end = c.q;
        list = l;
        second = ap moov_second l ∙ second_is (box_at xs b) c.q cut_moov none_after x p (omega arith);
        name = ftyp_first xs m x (p ++ box_at xs b ∷ c.q) l;
        moov = cut_moov;
        before = omega arith;
        behind = none_after;
        at = sym (total_before v c) ∙ ap total e;
        head = c.head;
        span = cut_size v c;
        inside = c.inside;
      }

  pub parted : Parted xs b
  parted = parted_by c.p refl
