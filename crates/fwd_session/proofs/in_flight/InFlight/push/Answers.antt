use Rattle.std.proofs.Common.{length, lit<, ap, ◌∙◌, arith}
use Rattle.std.specs.Prelude.{◌++◌, [], ◌∷◌}
use Rattle.fwd_session.specs.Flights.{flights_of}
use Rattle.fwd_session.proofs.Carrying.{flights_length, flights_push}
use Rattle.fwd_session.proofs.in_flight.InFlight.push.Goals as goal

pub push_reserved-requires : goal.push_reserved-requires
push_reserved-requires c =
    let f = c.self.inside in
    omega (arith, c.requires, c.self.invariant.1, f.chunks.ok.0, flights_length f.chunks.items f.since.items c.self.invariant.0, ap length c.self.view_is)

pub push-requires : goal.push-requires
push-requires c =
    let f = c.self.inside in (
      lit< tt,
      omega (arith, c.requires, c.self.invariant.0, flights_length f.chunks.items f.since.items c.self.invariant.0, ap length c.self.view_is),
    )

pub returns : goal.returns
returns c =
    let f = c.self.inside in
    (λ i. flights_of (c.push_reserved.ensures.items i) (c.push.ensures.items i))
    ∙ flights_push f.chunks.items f.since.items c.args.chunk c.args.since c.self.invariant.0
    ∙ ap (λ fs. fs ++ record { chunk = c.args.chunk; since = c.args.since } ∷ []) c.self.view_is
