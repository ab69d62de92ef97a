use Rattle.std.proofs.Common.{arith, length, ap}
use Rattle.fwd_book.specs.Slots.{Held, held_at}
use Rattle.fwd_book.proofs.Standing.{present-few}
use Rattle.fwd_book.proofs.requests.Requests.are_few.Goals as goal

pub returns : goal.returns
returns c =
    let few = present-few (held_at c.self.inside.by_connection.kept) c.self.inside.order.list in
    let items = ap (λ (h : Held). length h.items) c.self.view_is in
    let room = ap (λ (h : Held). h.room) c.self.view_is in
    omega (arith, few, items, room, c.self.invariant.count, c.capacity-most.ensures.room, c.capacity-most.ensures.all)
