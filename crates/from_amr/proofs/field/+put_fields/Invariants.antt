use Prim.Native.Nat.{◌-◌}
use lib.ListN.{length}
use Rattle.from_amr.proofs.field.+put_fields.Given as goal

abbrev pub decreases-put_fields : goal.decreases-put_fields
decreases-put_fields l = length l.fields.now - l.i
