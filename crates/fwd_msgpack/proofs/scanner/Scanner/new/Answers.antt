use Rattle.std.proofs.Common.{arith}
use Rattle.fwd_msgpack.proofs.Torn.{nothing_read}
use Rattle.fwd_msgpack.proofs.scanner.Scanner.new.Goals as goal

pub invariant_of-result : goal.invariant_of-result
invariant_of-result c = rw (c.new.ensures, c.new-2.ensures) (omega arith, (omega arith, nothing_read))
