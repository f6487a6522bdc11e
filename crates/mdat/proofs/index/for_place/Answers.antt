-- An empty index and the first byte have the front; else the number of the last stride before the place.
use Rattle.mdat.proofs.Indexing.{index_nearest}
use Rattle.mdat.proofs.Starts.{start_front}
use borrow.Author.Rules.{rules}
use native.Mathlib.Omega.{arith}
use Rattle.mdat.proofs.index.for_place.Goals as goal

pub returns-then-is_empty : goal.returns-then-is_empty
returns-then-is_empty c = record { start = λ xs s i. start_front xs _ }

pub returns-then-offset-eq0 : goal.returns-then-offset-eq0
returns-then-offset-eq0 c = record { start = λ xs s i. start_front xs _ }

pub returns : goal.returns
returns c = index_nearest _ c.min-j.result _ _ (search rules) (omega arith) c.wide.ensures
