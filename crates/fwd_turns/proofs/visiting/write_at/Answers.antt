use Rattle.std.proofs.Common.{refl}
use Rattle.slab.specs.Slab as slots
use Rattle.fwd_turns.proofs.Keeping.{visited_at}
use Rattle.fwd_turns.proofs.visiting.write_at.Goals as goal

pub returns-in-Some-clause-visited : goal.returns-in-Some-clause-visited
returns-in-Some-clause-visited g c =
    visited_at c.args.connections.now c.args.ready.key
    (slots.get c.args.connections.now.opened c.args.ready.key) c.in-Some.connection.now
    c.write_peer.new.connection refl c.in-Some.ensures.value c.write_peer.ensures.stands
