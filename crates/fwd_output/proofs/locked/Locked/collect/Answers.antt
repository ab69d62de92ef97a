use Rattle.std.proofs.Common.{◌++◌, ◌∙◌, map, sym, subst}
use Rattle.std.specs.Prelude.{All}
use Rattle.std.specs.List.Sorted.{IsPermutation}
use Rattle.fwd_output.proofs.OutputLemmas.{given-live, same-setting}
use Rattle.fwd_output.proofs.Paging.{given-after}
use Rattle.fwd_output.specs.Paged.{AreGivenAfter}
use Rattle.fwd_output.specs.Tickets.{AreGiven, IsRight, ticket_of}
use Rattle.fwd_output.specs.Turns.{LockedState, origins_of}
use Rattle.fwd_output.proofs.HandingOut.{each-of, given-once, right-of}
use Rattle.fwd_output.proofs.locked.Locked.collect.Goals as goal

pub returns-clause-each : goal.returns-clause-each
returns-clause-each g c =
    let h = c.hand_out-receipts.ensures in
    let given = c.hand_out-receipts.result.0.items in
    let back = c.hand_out-receipts.result.1.items in
    subst (λ (s : LockedState). IsPermutation c.args.tickets.items (map (ticket_of s.output.book.setting) given ++ back)) c.self.view_is
    (each-of c.self.inside.state.book c.args.tickets.items h.0 back given c.is_sound.ensures.requests h.1 h.2)

pub returns-clause-right : goal.returns-clause-right
returns-clause-right g c =
    let h = c.hand_out-receipts.ensures in
    let given = c.hand_out-receipts.result.0.items in
    subst (λ (s : LockedState). All (λ r. IsRight r (ticket_of s.output.book.setting r)) given) c.self.view_is
    (right-of c.self.inside.state.book c.args.tickets.items h.0 c.hand_out-receipts.result.1.items given c.is_sound.ensures.requests h.1 h.2)

pub returns-clause-history : goal.returns-clause-history
returns-clause-history g c =
    let o = c.self.inside.state in
    let t = c.is_sound.ensures.reached in
    let h = c.hand_out-receipts.ensures in
    let origins = origins_of h.0 in
    subst (λ (s : LockedState). AreGiven s.output.book.setting c.hand_out-receipts.result.0.items) c.self.view_is
    (record {
      history = t.history;
      reached = t.reached;
      own = same-setting o t;
      origins = origins;
      is = h.2 ∙ given-once o.book c.args.tickets.items h.0 c.hand_out-receipts.result.1.items h.1 ∙ sym (given-live o origins t);
    })

pub returns-clause-reached : goal.returns-clause-reached
returns-clause-reached g c =
    let o = c.self.inside.state in
    let h = c.hand_out-receipts.ensures in
    let past = c.reached-reached.result in
    subst (λ (s : LockedState). AreGivenAfter past s.output.book.setting c.hand_out-receipts.result.0.items) c.self.view_is
    (subst (AreGivenAfter past o.book.setting) (sym (h.2 ∙ given-once o.book c.args.tickets.items h.0 c.hand_out-receipts.result.1.items h.1))
    (given-after past o (origins_of h.0) c.reached-reached.ensures))
