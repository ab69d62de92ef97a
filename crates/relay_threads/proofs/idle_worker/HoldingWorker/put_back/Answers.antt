use Rattle.std.proofs.Common.{Some, None}
use Rattle.fwd_workers.specs.Placed.{with}
use Rattle.fwd_workers.proofs.Placing.{stands-as}
use Rattle.relay_threads.proofs.idle_worker.HoldingWorker.put_back.Goals as goal

pub invariant_of-result : goal.invariant_of-result
invariant_of-result g c =
    stands-as c.self.inside.page c.end.new.worker (with (Some c.self.inside.chunk) None) (with None None) c.self.inside.terms c.self.invariant
    c.end.ensures.ends
