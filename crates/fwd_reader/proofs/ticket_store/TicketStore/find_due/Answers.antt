use Rattle.std.proofs.Common.{inr, arith, subst}
use Rattle.fwd_reader.specs.Stores.{Looks}
use Rattle.fwd_reader.proofs.ticket_store.TicketStore.find_due.Goals as goal

pub returns-then-self : goal.returns-then-self
returns-then-self c =
    subst (λ s. Looks s c.find_least.new.self) c.self.view_is
    (inr (inr (grind arith, grind arith, c.if-self.true, c.find_least.ensures.found, grind arith)))
