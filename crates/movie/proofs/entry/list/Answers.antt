use Rattle.movie.proofs.Asking.{list_is}
use Rattle.movie.proofs.entry.list.Goals as goal

pub returns : goal.returns
returns c = list_is _ _ _ c.table.ensures.0 c.table.ensures.1 c.rest.ensures
