use Rattle.std.proofs.Common.{length, arith, ap}
use Rattle.fwd_session.proofs.Carrying.{flights_length}
use Rattle.fwd_session.proofs.in_flight.InFlight.len.Goals as goal

pub returns : goal.returns
returns c = omega (arith, c.len.ensures, c.self.inside.chunks.ok.0, flights_length c.self.inside.chunks.items c.self.inside.since.items c.self.invariant.0, ap length c.self.view_is)
