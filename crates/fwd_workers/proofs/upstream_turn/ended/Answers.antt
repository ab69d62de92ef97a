use Rattle.std.specs.Prelude.{is_some}
use Rattle.fwd_workers.proofs.Leading.{ending-upstream}
use Rattle.fwd_workers.proofs.upstream_turn.ended.Goals as goal

pub invariant_of-upstream : goal.invariant_of-upstream
invariant_of-upstream g c = record {
  of_link = ending-upstream c.args.upstream.session (g.L.Link.calls c.args.upstream.link)
      (is_some c.args.upstream.ending) c.args.upstream.of_link;
  window = c.args.upstream.window;
}
