use Rattle.std.proofs.Common.{List, sym, ap, ◌∙◌}
use Rattle.std.specs.Prelude.{nat_lt}
use Rattle.std.specs.List.{list_any}
use Rattle.fwd_chunks.specs.History.{CarriedChunk}
use Rattle.fwd_session.specs.Flights.{PendingChunk, pending_at}
use Rattle.fwd_session.proofs.Firsts.{any_map_all}
use Rattle.fwd_session.proofs.unacked.Unacked.any_handed_on.Goals as goal

pub returns : goal.returns
returns c =
    let u = c.self.inside in
    let chunks : List CarriedChunk = u.chunks.now in
    c.any_below.ensures
    ∙ ap (list_any (λ place. nat_lt place u.handed_on)) c.as_slice.ensures.value
    ∙ sym (any_map_all (λ (p : PendingChunk). p.is_handed_on) (pending_at u.handed_on chunks) u.left.items)
    ∙ ap (list_any (λ (p : PendingChunk). p.is_handed_on)) c.self.view_is
