use Rattle.std.specs.Prelude.{◌≡◌}
use Rattle.relay_threads.proofs.readers.read.Given as goal

-- the seat keeps its parts
abbrev pub invariant-loop-request : goal.invariant-loop-request
invariant-loop-request g l = l.seat.parts ≡ l.fn.asking.0.parts
