use Rattle.std.proofs.Common.{◌≡◌, ℕ, None, List, ◌++◌, ◌∷◌, [], sym, ap, subst, ◌∙◌}
use Rattle.slab.specs.Slab.{Slab}
use Rattle.fwd_book.specs.declared.connection_index.LinkedRequest.{LinkedRequest}
use Rattle.fwd_book.specs.History.{request_at}
use Rattle.fwd_book.specs.Slots.{Held, present, held_at, order_by}
use Rattle.fwd_book.specs.Links.{AreKept}
use Rattle.fwd_book.proofs.Standing.{fresh-slot, present-with, kept-with}
use Rattle.fwd_book.proofs.requests.Requests.push.Goals as goal

pub invariant_of-self : goal.invariant_of-self
invariant_of-self c =
    let kept : Slab LinkedRequest = c.self.inside.by_connection.kept in
    let slots : List ℕ = c.self.inside.order.list in
    let none : request_at (present (held_at kept) slots) c.args.kept.origin ≡ None = ap (λ (h : Held). request_at h.items c.args.kept.origin) c.self.view_is ∙ c.requires.fresh in
    subst (AreKept c.push-slot.new.self.kept c.push-slot.new.self.ends.entries) (sym c.and-self-inside.ensures)
    (kept-with kept c.self.inside.by_connection.ends.entries slots c.self.invariant c.push-slot.new.self.kept c.push-slot.new.self.ends.entries c.push-slot.result c.args.kept
    (c.push-slot.ensures.within (order_by (held_at kept) slots) c.self.invariant.chained c.self.invariant.within)
    c.push-slot.ensures.empty c.push-slot.ensures.held c.push-slot.ensures.chained c.push-slot.ensures.len none)

pub returns : goal.returns
returns c =
    let kept : Slab LinkedRequest = c.self.inside.by_connection.kept in
    let slots : List ℕ = c.self.inside.order.list in
    ap (present (held_at c.push-slot.new.self.kept)) c.and-self-inside.ensures
    ∙ present-with (held_at kept) (held_at c.push-slot.new.self.kept) c.push-slot.result c.args.kept c.push-slot.ensures.held slots (fresh-slot (held_at kept) c.push-slot.result slots c.push-slot.ensures.empty c.self.invariant.held)
    ∙ ap (λ (h : Held). h.items ++ c.args.kept ∷ []) c.self.view_is
