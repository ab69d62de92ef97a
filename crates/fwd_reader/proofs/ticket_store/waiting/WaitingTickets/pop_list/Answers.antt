use Rattle.std.proofs.Common.{sym}
use Rattle.fwd_reader.proofs.Waiting.{newest-gone}
use Rattle.fwd_reader.proofs.ticket_store.waiting.WaitingTickets.pop_list.Goals as goal

pub returns-clause-some : goal.returns-clause-some
returns-clause-some c =
    newest-gone c.args.self.now c.self.inside.newest c.take.new.self c.in_ok-tickets.field-0
    c.self.inside.others.entries c.pop_first.new.self.entries c.self.view_is c.self.invariant
    (sym c.in_ok-tickets.ensures.value) c.take.ensures.after c.in_default.ensures.unchanged
