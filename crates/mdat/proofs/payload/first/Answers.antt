-- An empty payload is none; any other is the first `mdat`'s.
use Rattle.mdat.proofs.First.{first_media, first_none}
use mathlib.Core.Path.{refl}
use native.Mathlib.Omega.{arith}
use Rattle.mdat.proofs.payload.first.Goals as goal

pub returns-then-end-start : goal.returns-then-end-start
returns-then-end-start c = first_none c.none.ensures.0 c.none.ensures.1

pub returns : goal.returns
returns c = first_media (omega arith) refl refl
