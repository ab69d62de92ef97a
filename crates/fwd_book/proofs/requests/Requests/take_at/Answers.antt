use Rattle.std.proofs.Common.{◌≡◌, ◌+◌, ℕ, None, List, sym, ap, subst, ◌∙◌}
use Rattle.std.specs.Prelude.{IfSome, filter, not}
use Rattle.slab.specs.Slab.{Slab, slab_len}
use Rattle.fwd_book.specs.declared.connection_index.LinkedRequest.{LinkedRequest}
use Rattle.fwd_book.specs.History.{is_origin, request_at}
use Rattle.fwd_book.specs.Slots.{Held, present, held_at, order_by}
use Rattle.fwd_book.specs.Links.{AreKept}
use Rattle.fwd_book.proofs.Facts.{any_none, filter_none}
use Rattle.fwd_book.proofs.Standing.{none-found, has-request, present-without, kept-found, kept-few, kept-without}
use Rattle.fwd_book.proofs.requests.Requests.take_at.Goals as goal

pub returns-in_err-slot-clause-taken : goal.returns-in_err-slot-clause-taken
returns-in_err-slot-clause-taken c =
    let kept : Slab LinkedRequest = c.self.inside.by_connection.kept in
    let slots : List ℕ = c.self.inside.order.list in
    c.from_residual.ensures
    ∙ sym (none-found (held_at kept) c.args.origin slots (c.in_err-slot.ensures.none (order_by (held_at kept) slots) c.self.invariant.chained c.self.invariant.within (kept-few kept c.self.inside.by_connection.ends.entries slots c.self.invariant c.args.origin.conn)))
    ∙ ap (λ (h : Held). request_at h.items c.args.origin) c.self.view_is

pub returns-in_err-slot-clause-left : goal.returns-in_err-slot-clause-left
returns-in_err-slot-clause-left c =
    let kept : Slab LinkedRequest = c.self.inside.by_connection.kept in
    let slots : List ℕ = c.self.inside.order.list in
    let none : request_at c.args.self.now.items c.args.origin ≡ None = sym (ap (λ (h : Held). request_at h.items c.args.origin) c.self.view_is) ∙ none-found (held_at kept) c.args.origin slots (c.in_err-slot.ensures.none (order_by (held_at kept) slots) c.self.invariant.chained c.self.invariant.within (kept-few kept c.self.inside.by_connection.ends.entries slots c.self.invariant c.args.origin.conn)) in
    sym (filter_none (λ q. is_origin c.args.origin q.origin) c.args.self.now.items (any_none (λ q. is_origin c.args.origin q.origin) c.args.self.now.items none))

pub invariant_of-self : goal.invariant_of-self
invariant_of-self c =
    let kept : Slab LinkedRequest = c.self.inside.by_connection.kept in
    let slots : List ℕ = c.self.inside.order.list in
    let slot : ℕ = c.in_ok-slot.slot in
    let its = has-request c.args.origin (held_at kept slot) c.in_ok-slot.ensures.found in
    subst (AreKept c.remove.new.self.kept c.remove.new.self.ends.entries) (sym c.without-self-inside.ensures)
    (kept-without kept c.self.inside.by_connection.ends.entries slots c.self.invariant c.remove.new.self.kept c.remove.new.self.ends.entries slot its.0
    (c.remove.ensures.within c.self.invariant.within)
    its.1 c.remove.ensures.held c.remove.ensures.chained
    (subst (λ o. IfSome o (λ _. slab_len c.remove.new.self.kept + 1 ≡ slab_len kept)) (c.remove.ensures.taken ∙ its.1) c.remove.ensures.len))

pub returns-clause-taken : goal.returns-clause-taken
returns-clause-taken c =
    let kept : Slab LinkedRequest = c.self.inside.by_connection.kept in
    let slots : List ℕ = c.self.inside.order.list in
    c.remove.ensures.taken
    ∙ kept-found kept c.self.inside.by_connection.ends.entries slots c.self.invariant c.args.origin c.in_ok-slot.slot c.in_ok-slot.ensures.found
    ∙ ap (λ (h : Held). request_at h.items c.args.origin) c.self.view_is

pub returns-clause-left : goal.returns-clause-left
returns-clause-left c =
    let kept : Slab LinkedRequest = c.self.inside.by_connection.kept in
    let slots : List ℕ = c.self.inside.order.list in
    let slot : ℕ = c.in_ok-slot.slot in
    let its = has-request c.args.origin (held_at kept slot) c.in_ok-slot.ensures.found in
    ap (present (held_at c.remove.new.self.kept)) c.without-self-inside.ensures
    ∙ present-without (held_at kept) (held_at c.remove.new.self.kept) slot c.remove.ensures.held c.self.invariant.unlike c.args.origin its.0 its.1 its.2 slots
    ∙ ap (λ (h : Held). filter (λ q. not (is_origin c.args.origin q.origin)) h.items) c.self.view_is
