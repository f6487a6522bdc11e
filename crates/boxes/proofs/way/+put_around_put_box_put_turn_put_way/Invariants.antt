-- The cycle of calls {put_around, put_box, put_turn, put_way}. With n numbers left the measures are 4n + 2, 4n + 1, 4n + 3 and 4n.
use Prim.Native.Nat.{◌+◌, ◌-◌, ◌*◌}
use lib.ListN.{length}
use Rattle.boxes.proofs.way.+put_around_put_box_put_turn_put_way.Given as goal

abbrev pub decreases-put_around : goal.decreases-put_around
decreases-put_around l = 4 * (length l.way.now - l.i) + 2

abbrev pub decreases-put_box : goal.decreases-put_box
decreases-put_box l = 4 * (length l.way.now - l.i) + 1

abbrev pub decreases-put_turn : goal.decreases-put_turn
decreases-put_turn l = 4 * (length l.way.now - l.i) + 3

abbrev pub decreases-put_way : goal.decreases-put_way
decreases-put_way l = 4 * (length l.way.now - l.i)
