-- What is seen of a router: which tags go to which output, the tickets of each, what each owes, and
-- the history of the run.
use Rattle.std.specs.Prelude.{ℕ, List, map}
use Rattle.fwd_run.specs.Runs.{RunEvent}
use Rattle.fwd_reader.specs.declared.open_tickets.OpenTickets.{OpenTickets}
use Rattle.fwd_reader.specs.declared.output_route.OutputRoute.{OutputRoute}
use Rattle.fwd_reader.specs.Owing.{Ledger}

-- the tickets of each of these outputs, in their order
abbrev pub stores_of : {J : Type 0} → List (OutputRoute J) → List OpenTickets
stores_of router = map (λ output_route. output_route.open_tickets) router

-- which tags go to which output, the tickets of each, what each owes to this reader's sources, and
-- the history of the run as far as it is known here, the newest event first
pub record RouterShown : Type 0 where
  pub routes : List (List (List ℕ))
  pub stores : List OpenTickets
  pub owed : Ledger
  pub reached : List RunEvent
