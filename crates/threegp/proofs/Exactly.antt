-- The packed judgement of a file loses nothing: it is the number times 2^32 and the place. Assumes nothing.
use Prim.Native.Nat.{ℕ, ◌+◌, ◌*◌}
use native.Mathlib.Omega.{arith}
use mathlib.Core.Path.{◌≡◌}
use mathlib.Core.List.{List}
use Rattle.judge.specs.Judgement.{judged_number, judged_place, judged}
use Rattle.judge.proofs.Places.{number_most, place_most}
use Rattle.threegp.specs.Answers.{pair, judge_answer}

pub pair_exact : (xs : List ℕ) → judge_answer (judged xs) ≡ judged_number (judged xs) * 4294967296 + judged_place (judged xs)
unfolding pair
pair_exact xs = omega (arith, number_most xs, place_most xs)

-- so that it tells both
pub pair_tells : (xs ys : List ℕ) → judge_answer (judged xs) ≡ judge_answer (judged ys)
    → (judged_number (judged xs) ≡ judged_number (judged ys)) × (judged_place (judged xs) ≡ judged_place (judged ys))
unfolding pair
pair_tells xs ys e =
    (omega (arith, number_most xs, place_most xs, number_most ys, place_most ys), omega (arith, number_most xs, place_most xs, number_most ys, place_most ys))
