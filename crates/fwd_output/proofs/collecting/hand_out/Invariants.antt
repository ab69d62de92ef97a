use Rattle.std.specs.Prelude.{◌≡◌, ◌≤◌, ◌+◌, vec_len, vec_capacity}
use Rattle.std.specs.Vec.Iter.{into_iter_items, into_iter_len}
use Rattle.fwd_model.specs.Outputs.{LiveOutput}
use Rattle.fwd_output.proofs.HandingOut.{Giving}
use Rattle.fwd_output.proofs.collecting.hand_out.Given as goal

abbrev pub decreases-loop-ticket : goal.decreases-loop-ticket
decreases-loop-ticket l = into_iter_len l.rest

-- the tickets so far are handed out, there is room for the rest, and the book alone has changed
abbrev pub invariant-loop-ticket : goal.invariant-loop-ticket
invariant-loop-ticket l = record {
  giving : Giving l.fn.state.book l.fn.tickets.items l.back.items (into_iter_items l.rest) (into_iter_items l.due) l.receipts.items l.state.book;
  told_room : vec_len l.receipts + into_iter_len l.rest ≤ vec_capacity l.receipts;
  back_room : vec_len l.back + into_iter_len l.rest ≤ vec_capacity l.back;
  others : ◌≡◌ {A = LiveOutput} l.state (record l.fn.state { book = l.state.book });
}
