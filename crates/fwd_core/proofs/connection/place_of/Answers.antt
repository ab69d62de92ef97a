use Rattle.std.proofs.Common.{sym, ap, ◌∙◌}
use Rattle.fwd_core.proofs.PlaceLemmas.{place_here}
use Rattle.fwd_core.proofs.connection.place_of.Goals as goal

pub returns-then-connection-id : goal.returns-then-connection-id
returns-then-connection-id c =
    let x = c.index-connections-place.result in
    place_here c.args.id c.args.connections.now c.loop-place.place x c.loop-place-test.true c.index-connections-place.is (sym (ap (λ y. y.id) c.connection.view_is) ∙ c.if-connection-id.true) c.loop-place.invariant.found c.loop-place.invariant.put
