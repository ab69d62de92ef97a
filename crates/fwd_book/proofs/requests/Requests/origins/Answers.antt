use Rattle.std.proofs.Common.{◌≡◌, ℕ, Bool, List, ap, ◌∙◌}
use Rattle.std.specs.Prelude.{map, filter, option_copied, ◌&&◌}
use Rattle.std.specs.List.{flat_map}
use Rattle.slab.specs.Slab.{Slab}
use Rattle.fwd_book.specs.declared.connection_index.LinkedRequest.{LinkedRequest}
use Rattle.fwd_book.specs.History.{Entered, is_of}
use Rattle.fwd_book.specs.ChunkRefs.{is_asked}
use Rattle.fwd_book.specs.Slots.{Held, held_at, order_by}
use Rattle.fwd_book.specs.Links.{passing_at}
use Rattle.fwd_book.proofs.Standing.{order-passing, kept-few}
use Rattle.fwd_book.proofs.requests.Requests.origins.Goals as goal

pub returns-clause-asked : goal.returns-clause-asked
returns-clause-asked c =
    let kept : Slab LinkedRequest = c.self.inside.by_connection.kept in
    let slots : List ℕ = c.self.inside.order.list in
    let test : Entered → Bool = is_asked (option_copied c.args.chunk_refs) in
    let found : flat_map (passing_at test (held_at kept)) (order_by (held_at kept) slots c.args.conn) ≡ map (λ q. q.origin) (filter (λ q. is_of c.args.conn q && test q) c.args.self.now.items) =
    order-passing (held_at kept) c.args.conn test slots ∙ ap (λ (h : Held). map (λ q. q.origin) (filter (λ q. is_of c.args.conn q && test q) h.items)) c.self.view_is in
    rw found at (c.origins.ensures.asked (order_by (held_at kept) slots) c.self.invariant.chained (kept-few kept c.self.inside.by_connection.ends.entries slots c.self.invariant c.args.conn))

pub returns-clause-none : goal.returns-clause-none
returns-clause-none c = λ none.
    let kept : Slab LinkedRequest = c.self.inside.by_connection.kept in
    let slots : List ℕ = c.self.inside.order.list in
    let test : Entered → Bool = is_asked (option_copied c.args.chunk_refs) in
    c.origins.ensures.none (order_by (held_at kept) slots) c.self.invariant.chained
    (order-passing (held_at kept) c.args.conn test slots
    ∙ ap (λ (h : Held). map (λ q. q.origin) (filter (λ q. is_of c.args.conn q && test q) h.items)) c.self.view_is
    ∙ ap (map (λ q. q.origin)) none)
