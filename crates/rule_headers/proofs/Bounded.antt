-- Rule 4 names places of what it judges. Assumes nothing.
use Prim.Native.Nat.{ℕ, zero, suc, ◌+◌, ◌≤◌}
use native.Mathlib.Omega.{arith}
use mathlib.Core.List.{List}
use lib.ListN.{length}
use Rattle.codes.specs.Codes.{MOOV, TRAK, TKHD}
use Rattle.boxes.specs.Boxes.{boxes}
use Rattle.boxes.specs.Seek.{count, nth}
use Rattle.boxes.proofs.Placing.{total_is, place_most, start_most}
use Rattle.rule.proofs.Bounds.{named, Bounded, sooner_most, unless_most, if_most}
use Rattle.rule_headers.specs.Forms.{form}
use Rattle.rule_headers.specs.Identities.{fresh, tkhd_place, fresh_to}
use Rattle.rule_headers.specs.Four.{tracks_in, four}

module _ (xs : List ℕ) (p : ℕ) where
  tkhd_most : (i : ℕ) → tkhd_place (boxes xs) p i ≤ p + length xs
  unfolding tkhd_place
  tkhd_most i = omega (arith, start_most TRAK i (boxes xs), total_is xs, place_most TKHD 0 (boxes (nth TRAK i (boxes xs))), total_is (nth TRAK i (boxes xs)))

  fresh_most : (n : ℕ) → named (fresh_to (boxes xs) p n) ≤ p + length xs
  unfolding fresh_to
  fresh_most zero = omega arith
  fresh_most (suc n) = sooner_most _ (fresh_to (boxes xs) p n) _ (fresh_most n) (unless_most _ (fresh (boxes xs) n n) _ (tkhd_most n))

pub four_bounded : Bounded four
unfolding tracks_in
four_bounded =
    record {
      leaf = λ k c b p q h. unless_most _ (form k c b) p (omega arith);
      node = λ k xs home p h. if_most _ k MOOV _ (fresh_most xs p (count TRAK (boxes xs)));
      end = λ xs p. omega arith;
    }
