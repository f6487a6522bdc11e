-- An accepted file has a `moov`, and its second box is where that goes.
use Rattle.codes.specs.Codes.{MOOV}
use Rattle.boxes.proofs.Cutting.{cut_as, none_as}
use Rattle.edit_move.proofs.Calls.{move_none}
use Rattle.edit_move.proofs.write_moved.Goals as goal

pub shift-requires : goal.shift-requires
shift-requires c = (c.requires.0, cut_as c.args.file.now MOOV 0 _ c.nth.ensures _ c.in-Some.is, c.place-second.ensures.0, c.requires.1)

pub returns-in-None : goal.returns-in-None
returns-in-None c = let a = c.args in absurd (move_none a.file.now c.requires.0 (none_as a.file.now MOOV 0 _ c.nth.ensures c.in-None.is))
