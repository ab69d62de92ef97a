use Rattle.std.proofs.Common.{◌≡◌, map}
use Rattle.fwd_history.specs.Histories.{Comes}
use Rattle.fwd_reader.specs.Answering.{AnswersTimes}
use Rattle.fwd_reader.specs.OpenConnections.{sources_in}
use Rattle.fwd_reader.specs.OpenTickets.{all_due}
use Rattle.fwd_reader.specs.Promises.{TellsPromised}
use Rattle.fwd_reader.specs.Rounds.{CollectsTimes}
use Rattle.fwd_reader.proofs.router.Router.collect_all.Given as goal

-- each output was collected so many times
abbrev pub invariant-loop : goal.invariant-loop
invariant-loop g l =
    (l.self.routes ≡ l.fn.self.routes)
    × TellsPromised l.fn.self.routes l.self.reached (sources_in l.fn.connections)
    (sources_in l.connections)
    × CollectsTimes l.counter (map all_due l.fn.self.stores) (sources_in l.fn.connections)
    l.self.stores (sources_in l.connections)
    × AnswersTimes l.counter
    (record l.fn.self { stores = map all_due l.fn.self.stores })
    (sources_in l.fn.connections) l.self (sources_in l.connections)
    × Comes l.fn.self.reached l.self.reached
