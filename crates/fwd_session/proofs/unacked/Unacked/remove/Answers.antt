use Rattle.std.proofs.Common.{List, ap, ◌∙◌}
use Rattle.std.specs.Prelude.{map, remove}
use Rattle.fwd_chunks.specs.History.{CarriedChunk}
use Rattle.fwd_session.specs.Flights.{pending_at}
use Rattle.fwd_session.proofs.Firsts.{map_remove}
use Rattle.fwd_session.proofs.unacked.Unacked.remove.Goals as goal

pub returns : goal.returns
returns c =
    let u = c.self.inside in
    let chunks : List CarriedChunk = u.chunks.now in
    ap (map (pending_at u.handed_on chunks)) c.remove.ensures.items
    ∙ map_remove (pending_at u.handed_on chunks) u.left.items c.args.place
    ∙ ap (λ ps. remove ps c.args.place) c.self.view_is
