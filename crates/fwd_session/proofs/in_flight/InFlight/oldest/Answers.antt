use Rattle.std.proofs.Common.{ℕ, List, sym, ap, ◌∙◌}
use Rattle.std.specs.Prelude.{map, slice_get}
use Rattle.fwd_session.specs.History.{first_in}
use Rattle.fwd_session.specs.Flights.{InFlightChunk}
use Rattle.fwd_session.proofs.Carrying.{first_there, flights_since}
use Rattle.fwd_session.proofs.in_flight.InFlight.oldest.Goals as goal

pub returns : goal.returns
returns c =
    let since : List ℕ = c.self.inside.since.items in
    c.copied.ensures ∙ c.first.ensures.value ∙ ap (λ ts. slice_get ts 0) c.deref.ensures.0
    ∙ sym (first_there since)
    ∙ ap first_in (sym (flights_since c.self.inside.chunks.items since c.self.invariant.0)
    ∙ ap (λ (fs : List InFlightChunk). map (λ f. f.since) fs) c.self.view_is)
