use Rattle.std.proofs.Common.{Some, None, refl, sym, ap, ◌∙◌}
use Rattle.std.specs.Prelude.{is_some}
use Rattle.fwd_session.specs.Live.{LiveSession}
use Rattle.fwd_workers.specs.Placed.{with}
use Rattle.fwd_workers.proofs.Keeping.{same-window}
use Rattle.fwd_workers.proofs.Leading.{loads-upstream}
use Rattle.fwd_workers.proofs.worker.Worker.load_more.Goals as goal

pub invariant_of-upstream : goal.invariant_of-upstream
invariant_of-upstream g c = record {
  of_link = loads-upstream c.args.roomy.upstream.session c.load.new.self c.args.chunk
      c.args.context.now.now (g.L.Link.calls c.args.roomy.upstream.link)
      (is_some c.args.roomy.upstream.ending) (ap is_some c.args.roomy.on)
      c.args.roomy.upstream.of_link c.args.roomy.room c.args.roomy.ready c.in-Ok.ensures.ok;
  window = same-window c.args.roomy.upstream.session c.load.new.self
      (ap (λ (x : LiveSession). x.setup) c.in-Ok.ensures.ok) c.args.roomy.upstream.window;
}

pub returns-in-Ok-clause-has : goal.returns-in-Ok-clause-has
returns-in-Ok-clause-has g c =
    let s = c.args.roomy.upstream.session in
    let k = c.args.self.now.page in
    ap (λ w. w.page) c.go_to.ensures.kept
    ∙ (c.load-in-Ok.ensures (with (Some c.args.chunk) (Some s)) s c.args.chunk c.requires refl refl c.args.roomy.room c.args.roomy.ready
    ∙ ap (λ (t : LiveSession). record k { has = Some (with None (Some t)) }) (sym c.in-Ok.ensures.ok))
