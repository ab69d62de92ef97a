use Rattle.std.proofs.Common.{refl}
use Rattle.fwd_core.proofs.WorkerLemmas.{late-same, same_work}
use Rattle.fwd_core.proofs.worker.Worker.late.Goals as goal

pub returns-clause-chunks : goal.returns-clause-chunks
returns-clause-chunks c =
    same_work c.args.self.now c.self.inside.taken c.self.inside.session c.in-Some.session c.late.new.self c.late.new.self c.self.view_is c.in-Some.is refl
    (late-same c.self.inside.taken c.in-Some.session c.late.new.self c.args.now (λ e. (c.late.ensures.down e).1) c.late.ensures.next)
