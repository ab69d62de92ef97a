use Rattle.std.proofs.Common.{arith, ◌≤◌, refl, ap, vec_len, ◌∙◌}
use Rattle.fwd_reader.specs.OpenTickets.{due_at}
use Rattle.fwd_reader.specs.Routers.{RouterShown}
use Rattle.fwd_reader.proofs.Admitting.{at_place, put_place}
use Rattle.fwd_reader.proofs.Refusing.{past}
use Rattle.fwd_reader.proofs.Routed.{open_tickets_all_due}
use Rattle.fwd_reader.proofs.Settling.{due_nowhere, due_place}
use Rattle.fwd_reader.proofs.router.Router.settle_at.Goals as goal

pub invariant_of-self-2 : goal.invariant_of-self-2
invariant_of-self-2 g c = (
  let held = at_place c.self.inside.routes.now c.self.inside.all.items c.args.place c.in-Some.output_route.now
      (omega (arith, c.in-Some.ensures.variant.0 refl)) c.in-Some.ensures.value c.self.invariant.0 in
      put_place c.self.inside.routes.now c.self.inside.all.items c.args.place
      (record c.in-Some.output_route.now { open_tickets = c.settle_all.new.self })
      (open_tickets_all_due c.self.inside.routes.now c.in-Some.output_route.now.open_tickets c.settle_all.new.self
      c.settle_all.ensures held)
      c.self.invariant.0,
  c.self.invariant.1,
)

pub returns-in_default-clause-due : goal.returns-in_default-clause-due
returns-in_default-clause-due g c =
    let none : vec_len c.self.inside.all ≤ c.args.place =
    past c.args.place (vec_len c.self.inside.all) c.in_default.ensures.variant.1 in
    due_nowhere c.self.inside.all.items c.args.place (omega arith)
    ∙ ap (λ (o : RouterShown). due_at c.args.place o.stores) c.self.view_is

pub returns-clause-due : goal.returns-clause-due
returns-clause-due g c =
    due_place c.self.inside.all.items c.args.place c.in-Some.output_route.now
    (record c.in-Some.output_route.now { open_tickets = c.settle_all.new.self })
    (omega (arith, c.in-Some.ensures.variant.0 refl)) c.in-Some.ensures.value
    c.settle_all.ensures
    ∙ ap (λ (o : RouterShown). due_at c.args.place o.stores) c.self.view_is
