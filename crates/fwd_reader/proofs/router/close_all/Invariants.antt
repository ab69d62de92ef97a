use Rattle.std.specs.Vec.Iter.{into_iter_len}
use Rattle.fwd_reader.proofs.router.close_all.Given as goal

abbrev pub decreases-loop-output_route : goal.decreases-loop-output_route
decreases-loop-output_route g l = into_iter_len l.rest
