use Rattle.std.proofs.Common.{◌≡◌, ◌≤◌, length}
use Rattle.fwd_history.specs.Histories.{Comes}
use Rattle.fwd_reader.specs.Answering.{AnswersFirst}
use Rattle.fwd_reader.specs.OpenConnections.{sources_in}
use Rattle.fwd_reader.specs.Promises.{TellsPromised}
use Rattle.fwd_reader.specs.Rounds.{CollectsFirst}
use Rattle.fwd_reader.proofs.router.Router.collect.Given as goal

-- the outputs below this number were collected
abbrev pub invariant-loop-number : goal.invariant-loop-number
invariant-loop-number g l =
    (l.self.routes ≡ l.fn.self.routes)
    × TellsPromised l.fn.self.routes l.self.reached (sources_in l.fn.connections)
    (sources_in l.connections)
    × CollectsFirst l.number l.fn.self.stores (sources_in l.fn.connections) l.is_more
    l.self.stores (sources_in l.connections)
    × (length l.self.stores ≡ length l.fn.self.stores)
    × (l.number ≤ length l.fn.self.stores)
    × AnswersFirst l.number l.fn.self (sources_in l.fn.connections) l.self
    (sources_in l.connections)
    × Comes l.fn.self.reached l.self.reached
