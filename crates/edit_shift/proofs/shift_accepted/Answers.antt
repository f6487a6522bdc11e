-- It has a `moov`, since it meets the rules.
use native.Mathlib.Omega.{arith}
use Rattle.codes.specs.Codes.{MOOV}
use Rattle.boxes.proofs.Cutting.{cut_as, none_as}
use Rattle.edit_offsets.proofs.Accepted.{one_moov}
use Rattle.edit_shift.proofs.shift_accepted.Goals as goal

pub shift_by-requires : goal.shift_by-requires
shift_by-requires c = (c.requires.0, c.requires.1, cut_as c.args.file.now MOOV 0 _ c.nth.ensures _ c.in-Some.is)

pub returns-in_default : goal.returns-in_default
returns-in_default c = absurd (omega (arith, none_as c.args.file.now MOOV 0 _ c.nth.ensures c.in_default.is, one_moov _ c.requires.1))
