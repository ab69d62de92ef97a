use Rattle.std.proofs.Common.{◌∙◌, Option, Some, None, ap}
use Rattle.fwd_chunks.specs.History.{CarriedChunk}
use Rattle.fwd_workers.specs.Placed.{with}
use Rattle.fwd_workers.proofs.Placing.{stands-as}
use Rattle.relay_threads.proofs.idle_worker.IdleWorker.take.Goals as goal

pub invariant_of-result : goal.invariant_of-result
invariant_of-result g c =
    let page = c.self.inside.page in
    stands-as page c.take.new.worker (with None None) (with (Some c.in-Ok-Some.chunk) None) c.self.inside.terms c.self.invariant
    (c.in-Ok-Some.ensures.takes (with None None) c.self.invariant.has
    ∙ ap (λ (t : Option CarriedChunk). record page { has = Some (with t None) }) c.in-Ok-Some.field-0-is)

pub invariant_of-result-in-Ok-None : goal.invariant_of-result-in-Ok-None
invariant_of-result-in-Ok-None g c =
    let page = c.self.inside.page in
    stands-as page c.take.new.worker (with None None) (with None None) c.self.inside.terms c.self.invariant
    (c.in-Ok-None.ensures.takes (with None None) c.self.invariant.has
    ∙ ap (λ (t : Option CarriedChunk). record page { has = Some (with t None) }) c.in-Ok-None.field-0-is)
