use Rattle.std.proofs.Common.{Some, None, refl, ap, sym, ◌∙◌}
use Rattle.std.specs.Prelude.{is_some}
use Rattle.fwd_session.specs.Live.{LiveSession}
use Rattle.fwd_workers.specs.Placed.{with}
use Rattle.fwd_workers.proofs.Keeping.{free-room, same-window}
use Rattle.fwd_workers.proofs.Leading.{loads-upstream}
use Rattle.fwd_workers.proofs.worker.Worker.load.Goals as goal

pub invariant_of-upstream : goal.invariant_of-upstream
invariant_of-upstream g c = record {
  of_link = loads-upstream c.args.free.upstream.session c.load.new.self c.args.chunk
      c.args.context.now.now (g.L.Link.calls c.args.free.upstream.link)
      (is_some c.args.free.upstream.ending) (sym c.is_some.ensures ∙ c.if-is_some.false)
      c.args.free.upstream.of_link
      (free-room c.args.free.upstream.session c.args.free.free c.args.free.upstream.window)
      (sym c.is_ready.ensures ∙ c.if-not-is_ready.false) c.in-Ok.ensures.ok;
  window = same-window c.args.free.upstream.session c.load.new.self
      (ap (λ (x : LiveSession). x.setup) c.in-Ok.ensures.ok) c.args.free.upstream.window;
}

pub returns-in-Ok-clause-has : goal.returns-in-Ok-clause-has
returns-in-Ok-clause-has g c =
    let s = c.args.free.upstream.session in
    let k = c.args.self.now.page in
    ap (λ w. w.page) c.go_to.ensures.kept
    ∙ (c.load-in-Ok.ensures (with (Some c.args.chunk) (Some s)) s c.args.chunk c.requires refl refl
    (free-room s c.args.free.free c.args.free.upstream.window) (sym c.is_ready.ensures ∙ c.if-not-is_ready.false)
    ∙ ap (λ (t : LiveSession). record k { has = Some (with None (Some t)) }) (sym c.in-Ok.ensures.ok))
