use Rattle.std.proofs.Common.{ap}
use Rattle.fwd_session.specs.Live.{LiveSession, session_begins}
use Rattle.fwd_workers.proofs.Keeping.{same-window}
use Rattle.fwd_workers.proofs.Leading.{begins-upstream}
use Rattle.fwd_workers.proofs.upstream_turn.free_upstream.Goals as goal

pub invariant_of-result : goal.invariant_of-result
invariant_of-result g c = record {
  of_link = begins-upstream c.requires.begun.0 c.args.session (g.L.Link.calls c.args.link)
      c.requires.begun.1 c.requires.fresh;
  window = same-window (session_begins c.requires.begun.0) c.args.session
      (ap (λ (x : LiveSession). x.setup) c.requires.begun.1) c.requires.begun.2;
}
