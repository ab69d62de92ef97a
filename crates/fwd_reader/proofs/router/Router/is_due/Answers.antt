use Rattle.std.proofs.Common.{arith, ◌≡◌, get_or, length, take, ap, subst, sym, ◌+◌}
use Rattle.std.specs.Prelude.{All}
use Rattle.fwd_reader.specs.OpenTickets.{AreQuiet}
use Rattle.fwd_reader.specs.Routers.{RouterShown}
use Rattle.fwd_reader.proofs.Collecting.{quiet_all, quiet_at, quiet_more}
use Rattle.fwd_reader.proofs.router.Router.is_due.Goals as goal

pub returns-then-is_due-clause-due : goal.returns-then-is_due-clause-due
returns-then-is_due-clause-due g c = λ yes all.
    let there : c.output_route-item.result
    ≡ get_or c.self.inside.all.items c.loop-output_route.output_route-index c.output_route-item.result =
    cc in
    c.is_due.ensures.due c.if-is_due.true
    (quiet_at c.self.inside.all.items c.loop-output_route.output_route-index
    c.output_route-item.result (omega (arith, ap length c.deref-output_route-items.ensures.value))
    there (subst (λ (o : RouterShown). All AreQuiet o.stores) (sym c.self.view_is) all))

pub loop-output_route-preserved : goal.loop-output_route-preserved
loop-output_route-preserved g c =
    let there : c.output_route-item.result
    ≡ get_or c.self.inside.all.items c.loop-output_route.output_route-index c.output_route-item.result =
    cc in
    subst
    (λ (o : RouterShown). All AreQuiet (take (c.loop-output_route.output_route-index + 1) o.stores))
    c.self.view_is
    (quiet_more c.self.inside.all.items c.loop-output_route.output_route-index
    c.output_route-item.result (omega (arith, ap length c.deref-output_route-items.ensures.value))
    there (c.is_due.ensures.quiet c.if-is_due.false)
    (subst
    (λ (o : RouterShown). All AreQuiet (take c.loop-output_route.output_route-index o.stores))
    (sym c.self.view_is) c.loop-output_route.invariant))

pub returns-clause-quiet : goal.returns-clause-quiet
returns-clause-quiet g c = λ no.
    subst (λ (o : RouterShown). All AreQuiet o.stores) c.self.view_is
    (quiet_all c.self.inside.all.items c.loop-output_route.output_route-index
    (omega (arith, ap length c.deref-output_route-items.ensures.value))
    (subst
    (λ (o : RouterShown). All AreQuiet (take c.loop-output_route.output_route-index o.stores))
    (sym c.self.view_is) c.loop-output_route.invariant))
