use Rattle.std.proofs.Common.{ap, subst, ◌∙◌}
use Rattle.fwd_workers.specs.Endings.{news_of}
use Rattle.fwd_workers.specs.Working.{IsTended}
use Rattle.fwd_workers.proofs.worker.Worker.take_first.Goals as goal

pub returns-in-Some-clause-taken : goal.returns-in-Some-clause-taken
returns-in-Some-clause-taken g c none = (
  c.serve_free-free.result.upstream.session,
  g.L.Link.calls c.serve_free-free.result.upstream.link,
  c.in-Some.ending,
  subst (λ w. IsTended c.args.free.upstream.session c.serve_free-free.result.upstream.session
      c.args.context.now.now (g.L.Link.calls c.args.free.upstream.link)
      (g.L.Link.calls c.serve_free-free.result.upstream.link) w)
      c.in-Some.is (c.serve_free-free.ensures.turn none),
  c.tell_end.ensures.told ∙ ap (λ n. news_of c.in-Some.ending n 0) c.server-server.ensures,
)
