use Rattle.std.proofs.Common.{ℕ, Some, Option, ap, ◌∙◌}
use Rattle.std.specs.Prelude.{find, option_map, option_and_then}
use Rattle.fwd_modes.specs.declared.origin.Origin.{Origin}
use Rattle.fwd_book.specs.History.{Entered, is_of}
use Rattle.fwd_book.specs.Slots.{Held, held_at}
use Rattle.fwd_book.proofs.Standing.{order-first}
use Rattle.fwd_book.proofs.requests.Requests.first_of.Goals as goal

abbrev its_origin : Option Entered → Option Origin
its_origin o = option_map (λ (q : Entered). q.origin) o

pub returns-in_err-slot : goal.returns-in_err-slot
returns-in_err-slot c =
    let held : ℕ → Option Entered = held_at c.self.inside.by_connection.kept in
    c.from_residual.ensures
    ∙ ap (λ o. its_origin (option_and_then held o)) (c.in_err-slot.ensures ∙ c.self.invariant.chained.first c.args.conn)
    ∙ ap its_origin (order-first held c.args.conn c.self.inside.order.list)
    ∙ ap (λ (h : Held). its_origin (find (is_of c.args.conn) h.items)) c.self.view_is

pub returns-in_err-at : goal.returns-in_err-at
returns-in_err-at c =
    let held : ℕ → Option Entered = held_at c.self.inside.by_connection.kept in
    c.from_residual-in_err-at.ensures
    ∙ ap its_origin c.in_err-at.ensures
    ∙ ap (λ o. its_origin (option_and_then held o)) (c.in_ok-slot.ensures ∙ c.self.invariant.chained.first c.args.conn)
    ∙ ap its_origin (order-first held c.args.conn c.self.inside.order.list)
    ∙ ap (λ (h : Held). its_origin (find (is_of c.args.conn) h.items)) c.self.view_is

pub returns : goal.returns
returns c =
    let held : ℕ → Option Entered = held_at c.self.inside.by_connection.kept in
    ap Some c.origin.ensures
    ∙ ap its_origin c.in_ok-at.ensures
    ∙ ap (λ o. its_origin (option_and_then held o)) (c.in_ok-slot.ensures ∙ c.self.invariant.chained.first c.args.conn)
    ∙ ap its_origin (order-first held c.args.conn c.self.inside.order.list)
    ∙ ap (λ (h : Held). its_origin (find (is_of c.args.conn) h.items)) c.self.view_is
