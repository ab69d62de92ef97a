use Rattle.std.proofs.Common.{arith, ap, length, sym, Some, ◌∙◌}
use Rattle.std.specs.Prelude.{is_some}
use Rattle.fwd_session.specs.Live.{LiveSession}
use Rattle.fwd_model.specs.Step.{with_session}
use Rattle.fwd_workers.proofs.Keeping.{same-window}
use Rattle.fwd_workers.proofs.Leading.{acked-upstream}
use Rattle.fwd_workers.specs.Working.{next_entries}
use Rattle.fwd_workers.proofs.Earning.{kept-most}
use Rattle.fwd_workers.proofs.upstream_end.settle_upstream.Goals as goal

pub invariant_of-upstream : goal.invariant_of-upstream
invariant_of-upstream g c = record {
  of_link = acked-upstream c.args.upstream.now.session c.acked.new.self
      (g.L.Link.calls c.args.upstream.now.link) (is_some c.args.upstream.now.ending)
      c.args.upstream.now.of_link c.acked.ensures.next c.acked.ensures.none;
  window = same-window c.args.upstream.now.session c.acked.new.self
      (ap (λ (x : LiveSession). x.setup) c.acked.ensures.next) c.args.upstream.now.window;
}

pub returns-clause-most : goal.returns-clause-most
returns-clause-most g c =
    let kept = g.S.Tally.kept in
    omega (
      arith,
      c.settle.ensures.counted,
      kept-most kept g.met.S.Tally.kept_adds c.settle.result (length c.in_ok-acked.chunk.entries) c.settle.ensures.most,
      ap (λ next. kept (next_entries next)) c.in_ok-acked.ensures.chunk,
    )

pub returns-clause-moves : goal.returns-clause-moves
returns-clause-moves g c x has stands =
    c.settle.ensures.settles x c.args.upstream.now.session has stands
    ∙ ap (λ t. record c.args.page.now { has = Some (with_session x t) }) (sym c.acked.ensures.next)
