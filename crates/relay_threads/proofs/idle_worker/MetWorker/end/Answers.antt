use Rattle.std.proofs.Common.{◌∙◌, Some, None, refl, sym, ap}
use Rattle.fwd_session.specs.Live.{LiveSession}
use Rattle.fwd_workers.specs.Placed.{with}
use Rattle.fwd_workers.proofs.Placing.{stands-as}
use Rattle.relay_threads.proofs.idle_worker.MetWorker.end.Goals as goal

pub loop-acked-preserved : goal.loop-acked-preserved
loop-acked-preserved g c =
    let page = c.loop-acked.page in
    let taken = c.self.inside.taken in
    let session = c.loop-acked.session in
    let own = c.loop-acked.invariant in
    stands-as page c.settle-settled.new.worker (with taken (Some session)) (with taken (Some c.unload.new.session)) c.self.inside.terms own
    (c.settle-settled.ensures.settles (with taken (Some session)) session own.has refl
    ∙ ap (λ (s : LiveSession). record page { has = Some (with taken (Some s)) }) (sym c.in-Some.ensures.next))

pub invariant_of-result : goal.invariant_of-result
invariant_of-result g c =
    stands-as c.loop-acked.page c.end.new.worker (with c.self.inside.taken (Some c.loop-acked.session)) (with None None) c.self.inside.terms c.loop-acked.invariant
    c.end.ensures.ends
