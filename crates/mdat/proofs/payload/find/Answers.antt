-- In the last payload, by what is known of it; else a search from a start, which an index keeps from being given up.
use Rattle.mdat.proofs.Searching.{looked_for}
use Rattle.wire.proofs.Clauses.{clause, le_is}
use mathlib.Core.Path.{sym, ◌∙◌}
use Rattle.mdat.proofs.payload.find.Goals as goal

pub returns-then-within : goal.returns-then-within
returns-then-within c = let p = c.requires.0 in let e = sym c.within.ensures ∙ c.if-within.true in
    record { says = (p.inside _ _ (le_is _ _ (clause 0 _ e)) (le_is _ _ (clause 1 _ e)), p) }

pub search-requires : goal.search-requires
search-requires c = let p = c.requires in c.start-from.ensures.start _ p.0.next p.1

pub returns : goal.returns
returns c = looked_for _ c.most.ensures c.search.ensures
