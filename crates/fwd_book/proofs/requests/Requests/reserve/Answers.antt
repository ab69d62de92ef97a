use Rattle.std.proofs.Common.{ℕ, List, sym, subst}
use Rattle.slab.specs.Slab.{Slab}
use Rattle.fwd_book.specs.declared.connection_index.LinkedRequest.{LinkedRequest}
use Rattle.fwd_book.specs.declared.connection_index.Ends.{Ends}
use Rattle.fwd_book.specs.Links.{AreKept}
use Rattle.fwd_book.proofs.Standing.{kept-room}
use Rattle.fwd_book.proofs.requests.Requests.reserve.Goals as goal

pub invariant_of-self : goal.invariant_of-self
invariant_of-self c =
    let at = c.self.inside.by_connection in
    let slots : List ℕ = c.self.inside.order.list in
    subst (λ (kept : Slab LinkedRequest). AreKept kept c.reserve.new.self.ends.entries slots) (sym c.reserve.ensures.kept)
    (subst (λ (ends : List (ℕ × Ends)). AreKept (record at.kept { capacity = c.reserve.new.self.kept.capacity }) ends slots) (sym c.reserve.ensures.ends)
    (kept-room at.kept at.ends.entries slots c.self.invariant c.reserve.new.self.kept.capacity))
