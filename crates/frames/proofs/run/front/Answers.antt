-- The tests are those of the definition, in its order.
use borrow.Author.Rules.{rules}
use native.Mathlib.Omega.{arith}
use Rattle.frames.proofs.Fronts.{short_not, high_not, low_not}
use Rattle.frames.proofs.Answers.{front_none, unknown_none, cut_none, front_some}
use Rattle.frames.proofs.run.front.Goals as goal

pub returns-then-part-lt1 : goal.returns-then-part-lt1
returns-then-part-lt1 c = record { size = front_none _ _ (short_not _ _ (omega arith)); inside = search rules }

pub returns-then-header-ne0 : goal.returns-then-header-ne0
returns-then-header-ne0 c = record { size = front_none _ _ (high_not _ _ (λ e. omega arith)); inside = search rules }

pub returns-then-header-ne0-2 : goal.returns-then-header-ne0-2
returns-then-header-ne0-2 c = record { size = front_none _ _ (low_not _ _ (λ e. omega arith)); inside = search rules }

pub returns-then-data-ge-NONE : goal.returns-then-data-ge-NONE
returns-then-data-ge-NONE c = record { size = unknown_none _ _ _ _ c.byte-header.ensures.0 c.data_bytes-data.ensures.0 (omega arith); inside = search rules }

pub returns-then-part-data : goal.returns-then-part-data
returns-then-part-data c = record { size = cut_none _ _ _ _ c.byte-header.ensures.0 c.data_bytes-data.ensures.0 (omega arith); inside = search rules }

pub returns : goal.returns
returns c =
    let r = front_some _ _ _ _ c.byte-header.ensures.0 c.data_bytes-data.ensures.0 in
    record { size = r (omega arith) (omega arith) (omega arith) (omega arith); inside = search rules }
