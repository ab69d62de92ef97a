use Rattle.std.proofs.Common.{◌<◌, Some, length, lit<, sym, ap, ◌∙◌, arith}
use Rattle.std.specs.Prelude.{remove, slice_get}
use Rattle.std.proofs.lemmas.Option.{slice_get-get_or}
use Rattle.fwd_session.specs.Flights.{flights_of, flight_chunks}
use Rattle.fwd_session.proofs.Carrying.{flights_chunks, flights_length, flights_remove}
use Rattle.fwd_session.proofs.in_flight.InFlight.remove.Goals as goal

pub remove-requires : goal.remove-requires
remove-requires c =
    let f = c.self.inside in (
      lit< tt,
      omega (arith, c.requires, c.self.invariant.0, flights_length f.chunks.items f.since.items c.self.invariant.0, ap length c.self.view_is),
    )

pub returns-clause-chunk : goal.returns-clause-chunk
returns-clause-chunk c =
    let f = c.self.inside in
    let there : c.args.place < length f.chunks.items = omega (arith, c.requires, flights_length f.chunks.items f.since.items c.self.invariant.0, ap length c.self.view_is) in
    ap (λ cs. slice_get cs c.args.place) (ap flight_chunks (sym c.self.view_is) ∙ flights_chunks f.chunks.items f.since.items c.self.invariant.0)
    ∙ slice_get-get_or f.chunks.items c.args.place c.remove-2.result there
    ∙ ap Some (sym c.remove-2.ensures.value)

pub returns-clause-left : goal.returns-clause-left
returns-clause-left c =
    let f = c.self.inside in
    (λ i. flights_of (c.remove-2.ensures.items i) (c.remove.ensures.items i))
    ∙ flights_remove f.chunks.items f.since.items c.args.place c.self.invariant.0
    ∙ ap (λ fs. remove fs c.args.place) c.self.view_is
