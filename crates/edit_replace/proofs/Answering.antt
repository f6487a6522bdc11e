-- The result of a replacement, as code says it. Assumes nothing.
use Prim.Native.Nat.{ℕ, ◌≤◌, ◌<◌}
use native.Mathlib.Omega.{arith}
use mathlib.Core.Path.{◌≡◌}
use mathlib.Core.List.{List, [], ◌∷◌}
use lib.ListN.{length}
use Rattle.wire.specs.Writing.{Wrote}
use Rattle.boxes.specs.Containers.{LONGEST}
use Rattle.rule.specs.Results.{asked, in_limit, Exact}
use Rattle.rule.specs.Results.ToWrite.{gives}
use Rattle.rule.proofs.Results.{exact_short, exact_wrote, over_limit, in_limit_lem}
use Rattle.edit_offsets.specs.Settle.{settled}
use Rattle.edit_offsets.proofs.Settled.{settled_length}
use Rattle.rule.specs.Answers.{Done, Refused}

-- settling changes no length
module _ (xs zs out : List ℕ) {span : ℕ} (e : span ≡ length zs) where
  pub settled_over : LONGEST < span → Exact (asked ((24, in_limit (settled xs zs)) ∷ []) (gives (settled xs zs))) out (Refused 24 0) out
  settled_over h = over_limit (settled xs zs) out (rw (settled_length xs zs) (omega arith))

  module _ (h : span ≤ LONGEST) where
    limit : length (settled xs zs) ≤ LONGEST
    limit = rw (settled_length xs zs) (omega arith)

    pub settled_short : length out < span → Exact (asked ((24, in_limit (settled xs zs)) ∷ []) (gives (settled xs zs))) out (Refused 25 0) out
    settled_short k = in_limit_lem (settled xs zs) out limit (exact_short (settled xs zs) out (rw (settled_length xs zs) (omega arith)))

    pub settled_wrote : span ≤ length out → {r : ℕ} {left : List ℕ} → Wrote (settled xs zs) out r left → Exact (asked ((24, in_limit (settled xs zs)) ∷ []) (gives (settled xs zs))) out (Done r) left
    settled_wrote k w = in_limit_lem (settled xs zs) out limit (exact_wrote (settled xs zs) out (rw (settled_length xs zs) (omega arith)) w)
