use Rattle.std.proofs.Common.{◌≡◌, take}
use Rattle.fwd_failover.specs.Choices.{places}
use Rattle.fwd_output.proofs.server_order.numbers_of.Given as goal

abbrev pub invariant-loop-number : goal.invariant-loop-number
invariant-loop-number l = l.numbers.items ≡ places l.kind (take l.number l.standby)
