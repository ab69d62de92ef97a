use Rattle.std.proofs.Common.{arith, ◌≡◌, ◌+◌, ◌++◌, ◌∷◌, [], ℕ, suc, List, take, sym, ap, subst, ◌∙◌}
use Rattle.std.proofs.Math.Seq.{take-suc}
use Rattle.fwd_output.specs.Tickets.{Ticket}
use Rattle.fwd_output.specs.Turns.{AreDue}
use Rattle.fwd_output.proofs.HandingOut.{due-then}
use Rattle.fwd_output.proofs.collecting.receipts_of.Goals as goal

pub loop-ticket-preserved : goal.loop-ticket-preserved
loop-ticket-preserved c =
    let b = c.args.state.now.book in
    let at : ℕ = c.loop-ticket.ticket-index in
    let done : List Ticket = take at c.args.tickets.now in
    let t : Ticket = c.ticket-item.result in
    let one_more : at + 1 ≡ suc at = omega arith in
    let next : take (at + 1) c.args.tickets.now ≡ done ++ t ∷ [] =
    ap (λ k. take k c.args.tickets.now) one_more
    ∙ take-suc c.args.tickets.now at t c.loop-ticket-test.true
    ∙ ap (λ u. done ++ u ∷ []) (sym c.ticket-item.is) in
    subst (λ ts. AreDue b ts c.push.new.self.items) (sym next)
    (subst (λ ds. AreDue b (done ++ t ∷ []) ds) (sym c.in_ok-push.ensures.items)
    (due-then b done c.loop-ticket.due.items t c.in_ok-receipt.receipt c.loop-ticket.invariant c.in_ok-receipt.ensures.due c.in_ok-receipt.ensures.other))
