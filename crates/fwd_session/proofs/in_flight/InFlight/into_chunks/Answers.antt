use Rattle.std.proofs.Common.{sym, ap, ◌∙◌}
use Rattle.fwd_session.specs.Flights.{flight_chunks}
use Rattle.fwd_session.proofs.Carrying.{flights_chunks}
use Rattle.fwd_session.proofs.in_flight.InFlight.into_chunks.Goals as goal

pub returns : goal.returns
returns c = sym (flights_chunks c.self.inside.chunks.items c.self.inside.since.items c.self.invariant.0) ∙ ap flight_chunks c.self.view_is
