use Rattle.std.proofs.Common.{ℕ, List, sym, ap, ◌∙◌}
use Rattle.std.specs.Prelude.{option_copied}
use Rattle.slab.specs.Slab.{Slab}
use Rattle.fwd_book.specs.declared.connection_index.LinkedRequest.{LinkedRequest}
use Rattle.fwd_book.specs.History.{request_at}
use Rattle.fwd_book.specs.Slots.{Held, held_at, order_by}
use Rattle.fwd_book.proofs.Standing.{none-found, kept-found, kept-few}
use Rattle.fwd_book.proofs.requests.Requests.get_at.Goals as goal

pub returns-in_err-slot : goal.returns-in_err-slot
returns-in_err-slot c =
    let kept : Slab LinkedRequest = c.self.inside.by_connection.kept in
    let slots : List ℕ = c.self.inside.order.list in
    ap option_copied c.from_residual.ensures
    ∙ sym (none-found (held_at kept) c.args.origin slots (c.in_err-slot.ensures.none (order_by (held_at kept) slots) c.self.invariant.chained c.self.invariant.within (kept-few kept c.self.inside.by_connection.ends.entries slots c.self.invariant c.args.origin.conn)))
    ∙ ap (λ (h : Held). request_at h.items c.args.origin) c.self.view_is

pub returns : goal.returns
returns c =
    let kept : Slab LinkedRequest = c.self.inside.by_connection.kept in
    let slots : List ℕ = c.self.inside.order.list in
    c.at.ensures
    ∙ kept-found kept c.self.inside.by_connection.ends.entries slots c.self.invariant c.args.origin c.in_ok-slot.slot c.in_ok-slot.ensures.found
    ∙ ap (λ (h : Held). request_at h.items c.args.origin) c.self.view_is
