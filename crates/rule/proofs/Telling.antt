-- A text that is written whole or not at all, by a total writer. Assumes nothing.
use Prim.Native.Nat.{ℕ, ◌≤◌, ◌<◌}
use native.Mathlib.Omega.{arith}
use mathlib.Core.Path.{◌≡◌, refl}
use mathlib.Core.List.{List, [], ◌∷◌, ◌++◌}
use lib.ListN.{length}
use Rattle.wire.specs.Writing.{Put}
use Rattle.wire.proofs.Writing.{pen_front}
use Rattle.rule.specs.Results.{Exact}
use Rattle.rule.specs.Results.ToWrite.{gives}
use Rattle.rule.proofs.Results.{exact_short, exact_wrote}
use Rattle.rule.specs.Answers.{Done, Refused}

-- ---- it certainly has room

pub at_once : (xs out : List ℕ) {left : List ℕ} {r : ℕ} → Put xs out 0 r left → r ≤ length out → Exact (gives xs) out (Done r) left
at_once xs out p h = exact_wrote xs out (omega (arith, p.next)) (pen_front p h)

-- ---- or a run into no room tells how long it is

nowhere : {xs after : List ℕ} {r : ℕ} → Put xs [] 0 r after → after ≡ []
nowhere {after = []} p = refl
nowhere {after = a ∷ bs} p = absurd (omega (arith, p.same))

module _ (xs out : List ℕ) {mid : List ℕ} {m : ℕ} (p : Put xs [] 0 m mid) where
  pub told_short : length (mid ++ out) < m → Exact (gives xs) out (Refused 25 0) (mid ++ out)
  told_short h = rw (nowhere p) (exact_short xs out (omega (arith, p.next, rw (nowhere p) at h)))

  pub told_wrote : {left : List ℕ} {r : ℕ} → Put xs (mid ++ out) 0 r left → m ≤ length (mid ++ out) → Exact (gives xs) out (Done r) left
  told_wrote q h = let z = rw (nowhere p) at q in at_once xs out z (omega (arith, p.next, z.next, rw (nowhere p) at h))
