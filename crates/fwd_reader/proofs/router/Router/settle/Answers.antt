use Rattle.std.proofs.Common.{arith, refl, subst}
use Rattle.std.specs.Prelude.{slice_set}
use Rattle.fwd_reader.specs.Routers.{RouterShown, stores_of}
use Rattle.fwd_reader.specs.Settlements.{SettlesAt}
use Rattle.fwd_reader.proofs.Admitting.{at_place, put_place}
use Rattle.fwd_reader.proofs.Routed.{open_tickets_settled}
use Rattle.fwd_reader.proofs.Settling.{settles}
use Rattle.fwd_reader.proofs.router.Router.settle.Goals as goal

pub invariant_of-self-2 : goal.invariant_of-self-2
invariant_of-self-2 g c = (
  let held = at_place c.self.inside.routes.now c.self.inside.all.items c.args.place c.in-Some.output_route.now
      (omega (arith, c.in-Some.ensures.variant.0 refl)) c.in-Some.ensures.value c.self.invariant.0 in
      put_place c.self.inside.routes.now c.self.inside.all.items c.args.place
      (record c.in-Some.output_route.now { open_tickets = c.settle.new.self })
      (open_tickets_settled c.self.inside.routes.now c.in-Some.output_route.now.open_tickets c.settle.new.self
      c.args.chunk c.settle.ensures.few c.settle.ensures.many held)
      c.self.invariant.0,
  c.self.invariant.1,
)

pub returns-clause-settled : goal.returns-clause-settled
returns-clause-settled g c =
    subst
    (λ (o : RouterShown). SettlesAt o.stores c.args.place c.args.chunk
    (stores_of (slice_set c.self.inside.all.items c.args.place
    (record c.in-Some.output_route.now { open_tickets = c.settle.new.self }))))
    c.self.view_is
    (settles c.self.inside.all.items c.args.place c.args.chunk c.in-Some.output_route.now
    (record c.in-Some.output_route.now { open_tickets = c.settle.new.self })
    (omega (arith, c.in-Some.ensures.variant.0 refl)) c.in-Some.ensures.value
    (c.settle.ensures.few, c.settle.ensures.many))
