-- The box by its fields.
use native.Mathlib.Omega.{arith}
use Rattle.from_amr.specs.Boxes.{ftyp}
use Rattle.from_amr.proofs.file.put_ftyp.Goals as goal

pub returns : goal.returns
unfolding ftyp
returns c = (c.put_box.ensures.0, omega arith)
