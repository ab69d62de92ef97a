use Rattle.std.specs.Prelude.{length}
use Rattle.fwd_reader.proofs.ticket_store.TicketStore.close.Given as goal

abbrev pub decreases-loop-list : goal.decreases-loop-list
decreases-loop-list g l = length l.waiting
