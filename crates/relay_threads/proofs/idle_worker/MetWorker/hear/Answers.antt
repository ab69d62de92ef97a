use Rattle.std.proofs.Common.{Some}
use Rattle.fwd_workers.specs.Placed.{with}
use Rattle.fwd_workers.proofs.Placing.{moves-then, moves-with, stands-as}
use Rattle.relay_threads.proofs.idle_worker.MetWorker.hear.Goals as goal

pub invariant_of-result : goal.invariant_of-result
invariant_of-result g c =
    let page = c.self.inside.page in
    let taken = c.self.inside.taken in
    let session = c.self.inside.session in
    stands-as page c.hear.new.page (with taken (Some session)) (with taken (Some c.hear.new.session)) c.self.inside.terms c.self.invariant
    (moves-with page c.hear.new.page taken session c.hear.new.session c.self.invariant.has
    (moves-then page c.send.new.page c.hear.new.page session c.send.new.session c.hear.new.session c.send.ensures c.hear.ensures))
