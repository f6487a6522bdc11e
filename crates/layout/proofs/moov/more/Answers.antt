-- A box that is no track, a track past the fourth, and one of the four.
use Rattle.layout.specs.Slots.{note_of}
use Rattle.wire.proofs.Tests.{eq_yea, eq_nay}
use mathlib.Core.Path.{refl}
use native.Mathlib.Omega.{arith}
use Rattle.layout.proofs.moov.more.Goals as goal

pub returns-then-b-ne-TRAK : goal.returns-then-b-ne-TRAK
unfolding note_of
returns-then-b-ne-TRAK c = record { one = eq_nay _ _ _ _ _ (omega arith) refl; two = eq_nay _ _ _ _ _ (omega arith) refl; three = eq_nay _ _ _ _ _ (omega arith) refl; four = eq_nay _ _ _ _ _ (omega arith) refl }

pub returns-then-n-ge4 : goal.returns-then-n-ge4
unfolding note_of
returns-then-n-ge4 c = record { one = eq_yea _ _ _ _ _ (omega arith) (eq_nay _ _ _ _ _ (omega arith) refl); two = eq_yea _ _ _ _ _ (omega arith) (eq_nay _ _ _ _ _ (omega arith) refl); three = eq_yea _ _ _ _ _ (omega arith) (eq_nay _ _ _ _ _ (omega arith) refl); four = eq_yea _ _ _ _ _ (omega arith) (eq_nay _ _ _ _ _ (omega arith) refl) }

pub returns : goal.returns
unfolding note_of
returns c = record { one = eq_yea _ _ _ _ _ (omega arith) c.ends_past.ensures; two = eq_yea _ _ _ _ _ (omega arith) c.ends_past-2.ensures; three = eq_yea _ _ _ _ _ (omega arith) c.ends_past-3.ensures; four = eq_yea _ _ _ _ _ (omega arith) c.ends_past-4.ensures }
