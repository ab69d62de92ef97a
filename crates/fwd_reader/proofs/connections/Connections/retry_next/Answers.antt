use Rattle.std.proofs.Common.{refl}
use Rattle.fwd_reader.proofs.Queueing.{first_retried}
use Rattle.fwd_reader.proofs.connections.Connections.retry_next.Goals as goal

pub returns-clause-retried : goal.returns-clause-retried
returns-clause-retried g c =
    first_retried c.args.self.now (record c.args.self.now { waiting = c.pop_front.new.self })
    c.retry.new.self c.in-Some.key c.in-Some.ensures.items refl refl c.retry.ensures.waiting
    c.retry.ensures.retried
