use Rattle.std.proofs.Common.{◌∙◌, arith}
use Rattle.fwd_reader.proofs.Blocks.{no_ticket, of_blocks}
use Rattle.fwd_reader.proofs.ticket_list.TicketList.take_blocks.Goals as goal

pub returns-clause-taken : goal.returns-clause-taken
returns-clause-taken c =
    let none = no_ticket (λ block. block.items) c.self.inside.full.items c.self.inside.last.items c.self.invariant (c.self.view_is ∙ c.requires.none) in
    of_blocks (λ block. block.items) c.swap.new.x.items c.args.blocks.now.items
    c.self.inside.last.items none.1 (grind arith)

pub returns-clause-left : goal.returns-clause-left
returns-clause-left c =
    let none = no_ticket (λ block. block.items) c.self.inside.full.items c.self.inside.last.items c.self.invariant (c.self.view_is ∙ c.requires.none) in
    grind arith
