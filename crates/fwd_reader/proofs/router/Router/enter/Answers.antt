use Rattle.std.proofs.Common.{arith, refl, sym, ap, subst, ◌∙◌}
use Rattle.std.specs.Prelude.{slice_set, Some}
use Rattle.std.specs.Option.{option_and_then}
use Rattle.fwd_match.specs.Patterns.{route}
use Rattle.fwd_reader.specs.Routers.{RouterShown, stores_of}
use Rattle.fwd_reader.specs.Admissions.{Enters}
use Rattle.fwd_reader.specs.OpenTickets.{AreAllSame}
use Rattle.fwd_peers.specs.Peers.{first_route}
use Rattle.fwd_reader.proofs.Admitting.{at_place, enters, keeps_routed, put_place}
use Rattle.fwd_reader.proofs.Refusing.{all_same, same_at}
use Rattle.fwd_reader.proofs.Routed.{open_tickets_same}
use Rattle.fwd_reader.proofs.router.Router.enter.Goals as goal

pub admit-requires : goal.admit-requires
admit-requires g c = (
  c.self.inside.routes.now,
  c.self.invariant.1,
  ap (λ (o : RouterShown). first_route o.routes c.args.source.now) c.self.view_is ∙ c.requires,
)

pub invariant_of-self-in-Err : goal.invariant_of-self-in-Err
invariant_of-self-in-Err g c =
    let held = at_place c.self.inside.routes.now c.self.inside.all.items c.args.output c.in-Some.output_route.now
    (omega (arith, c.in-Some.ensures.variant.0 refl)) c.in-Some.ensures.value c.self.invariant.0 in (
      put_place c.self.inside.routes.now c.self.inside.all.items c.args.output c.admit.new.self
          (open_tickets_same c.self.inside.routes.now c.in-Some.output_route.now.open_tickets c.admit.new.self.open_tickets
          c.in-Err.ensures.same held) c.self.invariant.0,
      c.self.invariant.1,
    )

pub invariant_of-self-2 : goal.invariant_of-self-2
invariant_of-self-2 g c =
    let held = at_place c.self.inside.routes.now c.self.inside.all.items c.args.output c.in-Some.output_route.now
    (omega (arith, c.in-Some.ensures.variant.0 refl)) c.in-Some.ensures.value c.self.invariant.0 in
    let kept = c.in-Ok.ensures.kept in (
      put_place c.self.inside.routes.now c.self.inside.all.items c.args.output c.admit.new.self
          (keeps_routed c.self.inside.routes.now c.args.output kept.0
          c.in-Some.output_route.now.open_tickets c.admit.new.self.open_tickets
          (sym (ap (option_and_then (λ a. route c.self.inside.routes.now a.1.tag)) kept.1.0)
          ∙ (ap (λ (o : RouterShown). first_route o.routes c.args.source.now) c.self.view_is ∙ c.requires))
          kept.2 held) c.self.invariant.0,
      c.self.invariant.1,
    )

pub returns-clause-entered : goal.returns-clause-entered
returns-clause-entered g c =
    let kept = c.in-Ok.ensures.kept in (
      kept.0,
      kept.1,
      subst
          (λ (o : RouterShown). Enters o.stores c.args.output kept.0
          (stores_of (slice_set c.self.inside.all.items c.args.output c.admit.new.self)))
          c.self.view_is
          (enters c.self.inside.all.items c.args.output c.in-Some.output_route.now c.admit.new.self
          kept.0 (omega (arith, c.in-Some.ensures.variant.0 refl)) c.in-Some.ensures.value
          kept.2),
      kept.3,
    )

pub returns-in_default-clause-same : goal.returns-in_default-clause-same
returns-in_default-clause-same g c =
    subst (λ (o : RouterShown). AreAllSame o.stores (stores_of c.self.inside.all.items))
    c.self.view_is (all_same (stores_of c.self.inside.all.items))

pub returns-in-Err-clause-same : goal.returns-in-Err-clause-same
returns-in-Err-clause-same g c =
    subst
    (λ (o : RouterShown). AreAllSame o.stores
    (stores_of (slice_set c.self.inside.all.items c.args.output c.admit.new.self)))
    c.self.view_is
    (same_at c.self.inside.all.items c.args.output c.in-Some.output_route.now c.admit.new.self
    (omega (arith, c.in-Some.ensures.variant.0 refl)) c.in-Some.ensures.value
    c.in-Err.ensures.same)
