use Rattle.std.proofs.Common.{◌≡◌, ◌++◌, []}
use Rattle.std.specs.List.{flat_map}
use Rattle.std.specs.VecDeque.{deque_len}
use Rattle.fwd_reader.proofs.ticket_list.TicketList.destroy_empty.Given as goal

abbrev pub invariant-loop-block : goal.invariant-loop-block
invariant-loop-block l =
    flat_map (λ block. block.items) l.full.items ++ l.last.items ≡ []

abbrev pub decreases-loop-block : goal.decreases-loop-block
decreases-loop-block l = deque_len l.full
