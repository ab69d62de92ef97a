use Rattle.std.specs.Vec.Iter.{into_iter_len}
use Rattle.fwd_turns.proofs.turns.close_all.Given as goal

abbrev pub decreases-loop-reader : goal.decreases-loop-reader
decreases-loop-reader g l = into_iter_len l.rest
