use Rattle.std.specs.Vec.Iter.{into_iter_len}
use Rattle.fwd_core.proofs.lane.Lane.drop.Given as goal

abbrev pub decreases-loop-worker : goal.decreases-loop-worker
decreases-loop-worker l = into_iter_len l.rest
