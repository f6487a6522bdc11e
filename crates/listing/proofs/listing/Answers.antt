-- The judgement, and then the lines of it.
use mathlib.Core.Path.{refl}
use Rattle.judge.proofs.Calls.{met}
use Rattle.listing.proofs.Judged.{listed_accepted, listed_refused}
use Rattle.listing.proofs.listing.Goals as goal

pub list_accepted-requires : goal.list_accepted-requires
list_accepted-requires c = let a = c.in-Ok.ensures in (met _ refl a.0, a.1)

pub returns-in-Ok : goal.returns-in-Ok
returns-in-Ok c = listed_accepted _ _ refl c.in-Ok.ensures.0 c.list_accepted.ensures

pub returns-in-Err : goal.returns-in-Err
returns-in-Err c = listed_refused _ _ refl c.in-Err.ensures c.list_refused.ensures
