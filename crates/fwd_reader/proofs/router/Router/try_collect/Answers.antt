use Rattle.std.proofs.Common.{arith, refl, subst}
use Rattle.std.specs.Prelude.{slice_set}
use Rattle.fwd_reader.specs.Routers.{RouterShown, stores_of}
use Rattle.fwd_reader.specs.Answering.{AnswersSome}
use Rattle.fwd_reader.specs.Collections.{CollectsInPart, CollectsWhole}
use Rattle.fwd_reader.specs.OpenTickets.{TellsDue}
use Rattle.fwd_reader.specs.Rounds.{ChangesAt, most_rounds}
use Rattle.fwd_reader.proofs.Collecting.{changes, tells}
use Rattle.fwd_reader.proofs.Told.{on_err}
use Rattle.fwd_reader.specs.Promises.{TellsPromised}
use Rattle.fwd_reader.specs.OpenConnections.{sources_in}
use Rattle.fwd_run.proofs.Adding.{routes_onward}
use Rattle.fwd_reader.proofs.Admitting.{at_place, put_place}
use Rattle.fwd_reader.proofs.router.Router.try_collect.Goals as goal

pub invariant_of-self-in_err-collect : goal.invariant_of-self-in_err-collect
invariant_of-self-in_err-collect g c = (
  let held = at_place c.self.inside.routes.now c.self.inside.all.items c.args.number c.in-Some.output_route.now
      (omega (arith, c.in-Some.ensures.variant.0 refl)) c.in-Some.ensures.value c.self.invariant.0 in
      put_place c.self.inside.routes.now c.self.inside.all.items c.args.number c.collect.new.self
      (c.collect.ensures.routed c.self.inside.routes.now held) c.self.invariant.0,
  routes_onward c.self.inside.routes.now c.self.inside.reached c.collect.new.reached c.collect.ensures.onward.0 c.collect.ensures.onward.1 c.self.invariant.1,
)

pub returns-in_err-collect-clause-promised : goal.returns-in_err-collect-clause-promised
returns-in_err-collect-clause-promised g c =
    let held = at_place c.self.inside.routes.now c.self.inside.all.items c.args.number c.in-Some.output_route.now
    (omega (arith, c.in-Some.ensures.variant.0 refl)) c.in-Some.ensures.value c.self.invariant.0 in
    subst
    (λ (o : RouterShown). TellsPromised o.routes c.collect.new.reached
    (sources_in c.args.connections.now) (sources_in c.collect.new.connections))
    c.self.view_is (c.collect.ensures.promised c.self.inside.routes.now held)

pub invariant_of-self-2 : goal.invariant_of-self-2
invariant_of-self-2 g c = (
  let held = at_place c.self.inside.routes.now c.self.inside.all.items c.args.number c.in-Some.output_route.now
      (omega (arith, c.in-Some.ensures.variant.0 refl)) c.in-Some.ensures.value c.self.invariant.0 in
      put_place c.self.inside.routes.now c.self.inside.all.items c.args.number c.collect.new.self
      (c.collect.ensures.routed c.self.inside.routes.now held) c.self.invariant.0,
  routes_onward c.self.inside.routes.now c.self.inside.reached c.collect.new.reached c.collect.ensures.onward.0 c.collect.ensures.onward.1 c.self.invariant.1,
)

pub returns-clause-promised : goal.returns-clause-promised
returns-clause-promised g c =
    let held = at_place c.self.inside.routes.now c.self.inside.all.items c.args.number c.in-Some.output_route.now
    (omega (arith, c.in-Some.ensures.variant.0 refl)) c.in-Some.ensures.value c.self.invariant.0 in
    subst
    (λ (o : RouterShown). TellsPromised o.routes c.collect.new.reached
    (sources_in c.args.connections.now) (sources_in c.collect.new.connections))
    c.self.view_is (c.collect.ensures.promised c.self.inside.routes.now held)

pub returns-in_err-collect-clause-part : goal.returns-in_err-collect-clause-part
returns-in_err-collect-clause-part g c = λ within.
    on_err c.from_residual.result
    (subst
    (λ (o : RouterShown). ChangesAt
    (λ s t. CollectsInPart s (sources_in c.args.connections.now)
    t (sources_in c.collect.new.connections))
    o.stores c.args.number
    (stores_of (slice_set c.self.inside.all.items c.args.number c.collect.new.self)))
    c.self.view_is
    (changes
    (λ s t. CollectsInPart s (sources_in c.args.connections.now)
    t (sources_in c.collect.new.connections))
    c.self.inside.all.items c.args.number c.in-Some.output_route.now c.collect.new.self
    (omega (arith, c.in-Some.ensures.variant.0 refl)) c.in-Some.ensures.value
    c.in_err-collect.ensures.part))

pub returns-clause-whole : goal.returns-clause-whole
returns-clause-whole g c = λ within.
    subst
    (λ (o : RouterShown). ChangesAt
    (λ s t. CollectsWhole most_rounds s (sources_in c.args.connections.now)
    t (sources_in c.collect.new.connections) × TellsDue c.is_due.result t)
    o.stores c.args.number
    (stores_of (slice_set c.self.inside.all.items c.args.number c.collect.new.self)))
    c.self.view_is
    (changes
    (λ s t. CollectsWhole most_rounds s (sources_in c.args.connections.now)
    t (sources_in c.collect.new.connections) × TellsDue c.is_due.result t)
    c.self.inside.all.items c.args.number c.in-Some.output_route.now c.collect.new.self
    (omega (arith, c.in-Some.ensures.variant.0 refl)) c.in-Some.ensures.value (
      c.in_ok-collect.ensures.whole,
      tells c.is_due.result c.collect.new.self.open_tickets
          c.is_due.ensures.quiet c.is_due.ensures.due,
    ))

pub returns-in_err-collect-clause-answers : goal.returns-in_err-collect-clause-answers
returns-in_err-collect-clause-answers g c = λ within.
    subst
    (λ (o : RouterShown). ChangesAt
    (λ s t. AnswersSome s (sources_in c.args.connections.now) c.args.answered.now
    t (sources_in c.collect.new.connections) c.collect.new.answered)
    o.stores c.args.number
    (stores_of (slice_set c.self.inside.all.items c.args.number c.collect.new.self)))
    c.self.view_is
    (changes
    (λ s t. AnswersSome s (sources_in c.args.connections.now) c.args.answered.now
    t (sources_in c.collect.new.connections) c.collect.new.answered)
    c.self.inside.all.items c.args.number c.in-Some.output_route.now c.collect.new.self
    (omega (arith, c.in-Some.ensures.variant.0 refl)) c.in-Some.ensures.value
    c.collect.ensures.answers)

pub returns-clause-answers : goal.returns-clause-answers
returns-clause-answers g c = λ within.
    subst
    (λ (o : RouterShown). ChangesAt
    (λ s t. AnswersSome s (sources_in c.args.connections.now) c.args.answered.now
    t (sources_in c.collect.new.connections) c.collect.new.answered)
    o.stores c.args.number
    (stores_of (slice_set c.self.inside.all.items c.args.number c.collect.new.self)))
    c.self.view_is
    (changes
    (λ s t. AnswersSome s (sources_in c.args.connections.now) c.args.answered.now
    t (sources_in c.collect.new.connections) c.collect.new.answered)
    c.self.inside.all.items c.args.number c.in-Some.output_route.now c.collect.new.self
    (omega (arith, c.in-Some.ensures.variant.0 refl)) c.in-Some.ensures.value
    c.collect.ensures.answers)
