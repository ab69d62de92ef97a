use Rattle.std.proofs.Common.{List, refl, subst}
use Rattle.std.specs.Prelude.{is_some}
use Rattle.fwd_environment.specs.Links.{Call}
use Rattle.fwd_workers.specs.Served.{IsOfLink, seen_in}
use Rattle.fwd_workers.proofs.Leading.{up-upstream}
use Rattle.fwd_workers.proofs.worker.Worker.stand.Goals as goal

pub returns-in-None-clause-stands : goal.returns-in-None-clause-stands
returns-in-None-clause-stands g c none =
    let calls : List Call = g.L.Link.calls c.args.free.upstream.link in
    let own = subst (λ o. ∥ IsOfLink c.args.free.upstream.session (seen_in calls) (is_some o) ∥₁) none c.args.free.upstream.of_link in
    (refl, up-upstream c.args.free.upstream.session calls own, refl)
