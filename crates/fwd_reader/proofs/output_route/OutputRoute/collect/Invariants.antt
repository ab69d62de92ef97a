use Rattle.std.proofs.Common.{ℕ, ◌+◌, List}
use Rattle.fwd_history.specs.Histories.{Comes}
use Rattle.fwd_reader.specs.declared.open_tickets.OpenTickets.{OpenTickets}
use Rattle.fwd_reader.specs.Answering.{AnswersSome}
use Rattle.fwd_reader.specs.OpenConnections.{sources_in}
use Rattle.fwd_reader.specs.Tellings.{Sources}
use Rattle.fwd_reader.specs.Promises.{HoldsRouted, TellsPromised}
use Rattle.fwd_reader.proofs.Told.{CollectsIn}
use Rattle.fwd_reader.proofs.output_route.OutputRoute.collect.Given as goal

abbrev pub invariant-loop : goal.invariant-loop
invariant-loop g l =
    ((routes : List (List (List ℕ))) → HoldsRouted routes l.fn.self.open_tickets
    → HoldsRouted routes l.self.open_tickets
    × TellsPromised routes l.reached (sources_in l.fn.connections) (sources_in l.connections))
    × ((more : ℕ) (t : OpenTickets) (told : Sources)
    → CollectsIn more l.self.open_tickets (sources_in l.connections) t told
    → CollectsIn (l.counter + more) l.fn.self.open_tickets (sources_in l.fn.connections) t told)
    × AnswersSome l.fn.self.open_tickets (sources_in l.fn.connections) l.fn.answered
    l.self.open_tickets (sources_in l.connections) l.answered
    × Comes l.fn.reached l.reached
