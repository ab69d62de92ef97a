use Rattle.std.proofs.Common.{◌≡◌, ◌+◌, length}
use Rattle.fwd_reader.specs.declared.connections.Connections.{Connections}
use Rattle.fwd_reader.specs.OpenConnections.{connection_at, sources_in}
use Rattle.fwd_reader.specs.Queues.{RetriesAll}
use Rattle.fwd_reader.proofs.connections.Connections.retry_waiting.Given as goal

-- the same stand as before; and once those are asked again that are left, all are
abbrev pub invariant-loop : goal.invariant-loop
invariant-loop g l =
    (connection_at l.self ≡ connection_at l.fn.self) × (sources_in l.self ≡ sources_in l.fn.self)
    × (l.counter + length l.self.waiting.items ≡ length l.fn.self.waiting.items)
    × ((t : Connections _) → RetriesAll l.self.waiting.items l.self t
    → RetriesAll l.fn.self.waiting.items l.fn.self t)
