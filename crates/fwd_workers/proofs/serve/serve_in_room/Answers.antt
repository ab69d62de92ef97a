use Rattle.std.proofs.Common.{subst, ◌∙◌}
use Rattle.fwd_workers.specs.Served.{IsServed, seen_in}
use Rattle.fwd_workers.proofs.serve.serve_in_room.Goals as goal

pub returns-then-is_empty-clause-served : goal.returns-then-is_empty-clause-served
returns-then-is_empty-clause-served g c =
    subst (λ s. IsServed c.serve_gathered.result s c.serve_gathered.new.session
    (seen_in (g.L.Link.calls c.args.link.now)) (seen_in (g.L.Link.calls c.serve_gathered.new.link)))
    (c.deref_mut.ensures.value ∙ c.session.view_is) c.serve_gathered.ensures.served

pub returns-clause-served : goal.returns-clause-served
returns-clause-served g c =
    subst (λ s. IsServed c.serve_gathered-2.result s c.serve_gathered-2.new.session
    (seen_in (g.L.Link.calls c.args.link.now)) (seen_in (g.L.Link.calls c.serve_gathered-2.new.link)))
    (c.deref_mut-2.ensures.value ∙ c.session.view_is) c.serve_gathered-2.ensures.served
