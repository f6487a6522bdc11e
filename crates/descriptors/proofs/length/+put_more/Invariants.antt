-- No byte, or those before the last and then that; their number falls with each.
use Rattle.descriptors.proofs.length.+put_more.Given as goal

abbrev pub decreases-put_more : goal.decreases-put_more
decreases-put_more l = l.w
