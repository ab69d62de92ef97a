use Rattle.std.specs.Prelude.{take}
use Rattle.fwd_output.specs.Turns.{AreDue}
use Rattle.fwd_output.proofs.collecting.receipts_of.Given as goal

-- each ticket so far has what it is due
abbrev pub invariant-loop-ticket : goal.invariant-loop-ticket
invariant-loop-ticket l = AreDue l.state.book (take l.ticket-index l.tickets) l.due.items
