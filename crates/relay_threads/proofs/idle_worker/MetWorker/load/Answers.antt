use Rattle.std.proofs.Common.{Some}
use Rattle.fwd_workers.specs.Placed.{with}
use Rattle.fwd_workers.proofs.Placing.{stands-as}
use Rattle.relay_threads.proofs.idle_worker.MetWorker.load.Goals as goal

pub invariant_of-result : goal.invariant_of-result
invariant_of-result g c =
    stands-as c.self.inside.page c.load-taken.new.page (with c.self.inside.taken (Some c.self.inside.session))
    (with c.load-taken.result (Some c.load-taken.new.session)) c.self.inside.terms c.self.invariant c.load-taken.ensures
