use Rattle.fwd_reader.specs.OpenConnections.{connection_at}
use Rattle.fwd_turns.proofs.Keeping.{gone_then}
use Rattle.fwd_turns.proofs.places.part.Goals as goal

pub returns-clause-gone : goal.returns-clause-gone
returns-clause-gone g c =
    gone_then (connection_at c.args.connections.now) (connection_at c.leave.new.connections)
    (connection_at c.remove.new.self) c.args.key c.leave.ensures.others c.remove.ensures.gone
