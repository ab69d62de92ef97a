use Rattle.std.proofs.Common.{subst, sym, ◌∙◌}
use Rattle.fwd_workers.specs.Working.{HasLost, IsTended}
use Rattle.fwd_workers.proofs.Adding.{added-settles}
use Rattle.fwd_workers.proofs.Keeping.{none-acked}
use Rattle.fwd_workers.proofs.worker.Worker.settle.Goals as goal

pub returns-in-Some-clause-lost : goal.returns-in-Some-clause-lost
returns-in-Some-clause-lost g c none =
    subst (λ at. HasLost at c.lose.new.self.event c.args.upstream.session c.args.context.now.now
    (g.L.Link.calls c.args.upstream.link)) (sym c.lose.ensures.seeks) (
      c.serve-upstream.result.session,
      g.L.Link.calls c.serve-upstream.result.link,
      c.in-Some.ending,
      subst (λ w. IsTended c.args.upstream.session c.serve-upstream.result.session c.args.context.now.now
          (g.L.Link.calls c.args.upstream.link) (g.L.Link.calls c.serve-upstream.result.link) w)
          c.in-Some.is (c.serve-upstream.ensures.turn none),
      c.lose.ensures.told,
    )

pub returns-in-None-clause-settled : goal.returns-in-None-clause-settled
returns-in-None-clause-settled g c =
    added-settles c.add.result c.serve-upstream.result.session c.args.upstream.session c.add.ensures.added
    (none-acked c.args.upstream.session (sym c.is_acked.ensures ∙ c.if-is_acked.false))
    (sym c.may_add-adds.ensures ∙ c.if-adds.true) c.serve-upstream.ensures.room
