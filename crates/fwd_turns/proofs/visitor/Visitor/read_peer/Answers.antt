use Rattle.std.proofs.Common.{refl}
use Rattle.fwd_reader.specs.declared.peer.Peer.TheVariants.{Source}
use Rattle.fwd_turns.proofs.Keeping.{was_read_to}
use Rattle.fwd_turns.proofs.visitor.Visitor.read_peer.Goals as goal

pub returns-in-Source : goal.returns-in-Source
returns-in-Source g c = λ source it.
    was_read_to c.args.context.now.router.now c.read_source.new.context.router.now
    c.args.connection.now (Source c.read_source.new.source) c.in-Source.source
    c.read_source.new.source source c.read_source.result c.in-Source.is refl
    c.read_source.ensures it
