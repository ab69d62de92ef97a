use Rattle.fwd_reader.specs.OpenConnections.{connection_at}
use Rattle.fwd_turns.proofs.Keeping.{all_stand, keeps}
use Rattle.fwd_turns.proofs.event_loop.EventLoop.write_next.Goals as goal

pub returns-in_default : goal.returns-in_default
returns-in_default g c =
    all_stand (connection_at c.args.self.now.connections)
    (connection_at c.next_writable.new.self) c.next_writable.ensures.stand

pub returns : goal.returns
returns g c =
    keeps (connection_at c.args.self.now.connections) (connection_at c.next_writable.new.self)
    (connection_at c.write_at-after.new.connections)
    (connection_at c.follow.new.self.connections) c.in-Some.ready.key c.write_at-after.result
    c.next_writable.ensures.stand c.write_at-after.ensures.visited c.write_at-after.ensures.keeps
    c.follow.ensures.keeps c.follow.ensures.goes
