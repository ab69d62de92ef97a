use Rattle.fwd_reader.specs.OpenConnections.{connection_at}
use Rattle.fwd_turns.proofs.Keeping.{all_served, keeps_served}
use Rattle.fwd_turns.proofs.event_loop.EventLoop.read_next.Goals as goal

pub returns-in_default : goal.returns-in_default
returns-in_default g c =
    all_served c.args.context.now.router.now (connection_at c.args.self.now.connections)
    (connection_at c.next_ready.new.self) c.next_ready.ensures.stand

pub returns : goal.returns
returns g c =
    keeps_served c.args.context.now.router.now c.read_at-after.new.context.router.now
    c.follow.new.router (connection_at c.args.self.now.connections)
    (connection_at c.next_ready.new.self) (connection_at c.read_at-after.new.connections)
    (connection_at c.follow.new.self.connections) c.in-Some.ready.key c.read_at-after.result
    c.next_ready.ensures.stand c.read_at-after.ensures c.follow.ensures.keeps
    c.follow.ensures.goes c.follow.ensures.router
