use Rattle.std.specs.Vec.Iter.{into_iter_len}
use Rattle.fwd_reader.proofs.ticket_list.abandon_all.Given as goal

abbrev pub decreases-loop-ticket : goal.decreases-loop-ticket
decreases-loop-ticket g l = into_iter_len l.rest
