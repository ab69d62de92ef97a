use Rattle.std.specs.Prelude.{◌≢◌, []}
use Rattle.fwd_reader.proofs.Blocks.{all_rest}
use Rattle.fwd_reader.proofs.ticket_list.TicketList.pop_block.Goals as goal

pub invariant_of-self : goal.invariant_of-self
invariant_of-self c =
    all_rest (λ block. block.items ≢ []) c.self.inside.full.items c.pop_front.new.self.items
    c.in-Some.ensures.rest c.self.invariant
