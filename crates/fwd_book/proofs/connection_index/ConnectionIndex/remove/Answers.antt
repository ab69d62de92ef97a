use Rattle.std.proofs.Common.{◌≡◌, ℕ, Some, None, cond, sym, ap, subst, ◌∙◌}
use Rattle.std.specs.Prelude.{IsSome, ◌==◌, ◌&&◌, not, is_some, option_map}
use Rattle.slab.specs.Slab.{Slab, get}
use Rattle.fwd_modes.specs.declared.origin.Origin.{Origin}
use Rattle.fwd_book.specs.declared.connection_index.LinkedRequest.{LinkedRequest}
use Rattle.fwd_book.specs.Slots.{request_of, held_at}
use Rattle.fwd_book.specs.Links.{ends_at, is_the, link_of, link_at, leads_to, follows_on, order_without, AreChained}
use Rattle.fwd_book.proofs.Chaining.{chained_same, kept_without, kept_ends}
use Rattle.fwd_book.proofs.Seats.{updated, either-request, later-request, earlier-request, held-either}
use Rattle.fwd_book.proofs.Standing.{within-without}
use Rattle.fwd_book.proofs.connection_index.ConnectionIndex.remove.Goals as goal

pub returns-in_err-request-clause-chained : goal.returns-in_err-request-clause-chained
returns-in_err-request-clause-chained c = λ order chained.
    subst (λ (kept : Slab LinkedRequest). AreChained (link_at kept) c.args.self.now.ends.entries (order_without c.args.slot order)) (sym c.in_err-request.ensures.absent)
    (chained_same (link_at c.args.self.now.kept) c.args.self.now.ends.entries order c.args.slot (λ d. ap (link_of d) (sym c.in_err-request.ensures.value)) chained)

pub returns-clause-held : goal.returns-clause-held
returns-clause-held c = λ k.
    let link = c.in_ok-request.field-0.link in
    ap request_of (c.set_earlier.ensures.linked k)
    ∙ either-request (is_the link.later k) (option_map (follows_on link.earlier) (get c.set_later.new.kept k)) (get c.set_later.new.kept k) (earlier-request link.earlier (get c.set_later.new.kept k))
    ∙ ap request_of (c.set_later.ensures.linked k)
    ∙ either-request (is_the link.earlier k) (option_map (leads_to link.later) (get c.try_remove.new.self k)) (get c.try_remove.new.self k) (later-request link.later (get c.try_remove.new.self k))
    ∙ ap request_of (updated c.args.self.now.kept c.try_remove.new.self c.args.slot None c.in_ok-request.ensures.updates k)
    ∙ held-either (c.args.slot == k) None (get c.args.self.now.kept k)

pub returns-clause-chained : goal.returns-clause-chained
returns-clause-chained c = λ order chained.
    let own : LinkedRequest = c.in_ok-request.field-0 in
    let there : get c.args.self.now.kept c.args.slot ≡ Some own = sym c.in_ok-request.ensures.value in
    let ends : IsSome (ends_at c.args.self.now.ends.entries c.origin.result.conn) =
    subst (λ (o : Origin). IsSome (ends_at c.args.self.now.ends.entries o.conn)) (sym c.origin.ensures) (kept_ends (get c.args.self.now.kept) (get c.set_earlier.new.kept) c.args.self.now.ends.entries c.leave_ends.new.ends.entries order chained c.args.slot own there) in
    kept_without (get c.args.self.now.kept) (get c.set_earlier.new.kept) c.args.self.now.ends.entries c.leave_ends.new.ends.entries order chained c.args.slot own there
    (λ k.
    let left = updated c.args.self.now.kept c.try_remove.new.self c.args.slot None c.in_ok-request.ensures.updates k in
    let led = c.set_later.ensures.linked k ∙ ap (λ o. cond (is_the own.link.earlier k) (option_map (leads_to own.link.later) o) o) left in
    c.set_earlier.ensures.linked k ∙ ap (λ o. cond (is_the own.link.later k) (option_map (follows_on own.link.earlier) o) o) led)
    (subst (λ (o : Origin). (n : ℕ) → option_map (λ e. e.first) (ends_at c.leave_ends.new.ends.entries n) ≡ cond ((o.conn == n) && not (is_some own.link.earlier)) own.link.later (option_map (λ e. e.first) (ends_at c.args.self.now.ends.entries n))) c.origin.ensures (c.leave_ends.ensures.first ends))
    (subst (λ (o : Origin). (n : ℕ) → option_map (λ e. e.last) (ends_at c.leave_ends.new.ends.entries n) ≡ cond ((o.conn == n) && not (is_some own.link.later)) own.link.earlier (option_map (λ e. e.last) (ends_at c.args.self.now.ends.entries n))) c.origin.ensures (c.leave_ends.ensures.last ends))

pub returns-clause-within : goal.returns-clause-within
returns-clause-within c =
    within-without (held_at c.args.self.now.kept) (held_at c.set_earlier.new.kept) c.args.slot (returns-clause-held c) c.args.self.now.ends.entries c.leave_ends.new.ends.entries c.leave_ends.ensures.greatest
