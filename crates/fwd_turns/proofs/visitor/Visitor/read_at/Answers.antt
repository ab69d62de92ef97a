use Rattle.std.proofs.Common.{refl, sym}
use Rattle.slab.specs.Slab as slots
use Rattle.fwd_reader.specs.OpenConnections.{connection_at}
use Rattle.fwd_turns.proofs.Keeping.{read_none, read_there}
use Rattle.fwd_turns.proofs.visitor.Visitor.read_at.Goals as goal

pub returns-in-None : goal.returns-in-None
returns-in-None g c =
    read_none c.args.context.now.router.now (connection_at c.args.connections.now)
    c.args.ready.key (sym c.in-None.ensures.value)

pub returns-in-Some : goal.returns-in-Some
returns-in-Some g c =
    read_there c.args.connections.now c.args.ready.key
    (slots.get c.args.connections.now.opened c.args.ready.key) c.in-Some.connection.now
    c.read_peer.new.connection c.args.context.now.router.now
    c.read_peer.new.context.router.now c.read_peer.result refl c.in-Some.ensures.value
    c.read_peer.ensures
