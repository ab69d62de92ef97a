use Rattle.std.specs.VecDeque.{deque_len}
use Rattle.fwd_reader.proofs.ticket_list.abandon_blocks.Given as goal

abbrev pub decreases-loop-block : goal.decreases-loop-block
decreases-loop-block g l = deque_len l.rest
