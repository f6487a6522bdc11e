-- The judgement's number is at most 10, and its place lies in the file. Assumes nothing.
use Rattle.std.specs.Prelude.{Err}
use Prim.Native.Nat.{ℕ, ◌+◌, ◌≤◌, ◌<◌}
use native.Mathlib.Omega.{arith}
use mathlib.Core.Path.{◌≡◌, refl}
use mathlib.Core.List.{List, [], ◌∷◌}
use lib.ListN.{length}
use Rattle.wire.proofs.Tests.{lt_or}
use Rattle.boxes.specs.Box.{Box}
use Rattle.boxes.specs.Boxes.{boxes}
use Rattle.boxes.specs.Containers.{FILE, DEPTH, LONGEST}
use Rattle.release.specs.Releases.{release_of}
use Rattle.rule.specs.Judge.{Judge}
use Rattle.rule.proofs.Bounds.{each_bounded, named, Bounded, placed_bounded, judge_most}
use Rattle.rule_shape.specs.Two.{tiled_rule, shut_in}
use Rattle.rule_shape.specs.Three.{three_rule}
use Rattle.rule_headers.proofs.Bounded.{four_bounded}
use Rattle.rule_tracks.specs.Six.{six_rule}
use Rattle.rule_tracks.specs.Seven.{seven_rule}
use Rattle.rule_tracks.proofs.Bounded.{eight_bounded}
use Rattle.judge.specs.One.{one_rule}
use Rattle.judge.specs.Judgement.{judged_number, judged_place, judges, verdict_by, unless_broken, judged_from, judged, Judgement, Accepted}
use Rattle.judge.proofs.Order.{too_long}
use Rattle.judge.proofs.Bounded.{five_bounded, nine_bounded, ten_bounded}
use Rattle.judge.proofs.Refusals.{refused_breaks}
use Rattle.rule.specs.Verdict.{Verdict, Fine, Bad}

-- judges that are bounded, one by one
data AllBounded : List Judge → Type 0 where
  none : AllBounded []
  more : {j : Judge} {js : List Judge} → Bounded j → AllBounded js → AllBounded (j ∷ js)

all_bounded : (l : List Box) → AllBounded (judges l)
all_bounded l =
    more (placed_bounded one_rule) (more (each_bounded shut_in tiled_rule) (more (placed_bounded three_rule) (more four_bounded (more five_bounded
    (more (placed_bounded six_rule) (more (placed_bounded seven_rule) (more (eight_bounded l) (more nine_bounded (more (ten_bounded (release_of l)) none)))))))))

first_most : (m n : ℕ) (v : Verdict) (j : Judgement) → named v ≤ m → judged_place j ≤ m → judged_place (unless_broken n v j) ≤ m
unfolding unless_broken
first_most m n Fine j h g = g
first_most m n (Bad p) j h g = h

from_most : {js : List Judge} → AllBounded js → (n : ℕ) (xs : List ℕ) → judged_place (judged_from n js xs) ≤ length xs
unfolding judged_from
from_most none n xs = omega arith
from_most (more {j} {js} b a) n xs =
    first_most (length xs) n (verdict_by j xs) (judged_from (n + 1) js xs)
    (omega (arith, judge_most j b DEPTH FILE xs 0 0 (omega arith))) (from_most a (n + 1) xs)

-- ---- the judgement of any file

pub number_most : (xs : List ℕ) → judged_number (judged xs) ≤ 10
number_most xs = go (judged xs) refl
  where
    go : (j : Judgement) → judged xs ≡ j → judged_number j ≤ 10
    go Accepted e = omega arith
    go (Err r) e = (refused_breaks xs r.number r.place e).most

pub place_in : (xs : List ℕ) → judged_place (judged xs) ≤ length xs
unfolding judged
place_in xs = from_most (all_bounded (boxes xs)) 1 xs

-- too long a file is refused at place 0
pub place_most : (xs : List ℕ) → judged_place (judged xs) ≤ LONGEST
place_most xs = lt_or LONGEST (length xs) (λ h. at_zero h) (λ h. omega (arith, place_in xs))
  where
    at_zero : LONGEST < length xs → judged_place (judged xs) ≤ LONGEST
    at_zero h = rw (← too_long xs h) (omega arith)
