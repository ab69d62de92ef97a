use Rattle.std.proofs.Common.{arith}
use Rattle.fwd_msgpack.proofs.Torn.{nothing_read}
use Rattle.fwd_msgpack.proofs.scanner.Scanner.restart.Goals as goal

pub invariant_of-self : goal.invariant_of-self
invariant_of-self c = rw (c.clear.ensures, c.clear-2.ensures) (omega arith, (omega arith, nothing_read))
