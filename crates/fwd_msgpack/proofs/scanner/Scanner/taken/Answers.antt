use Rattle.std.proofs.Common.{arith, sum}
use Rattle.fwd_msgpack.proofs.Torn.{head_stage}
use Rattle.fwd_msgpack.proofs.scanner.Scanner.taken.Goals as goal

pub overflow_add-result : goal.overflow_add-result
overflow_add-result c =
    let s = c.self.inside in
    let is = head_stage s.limits.bytes s.used (sum s.stack) s.front s.stage c.in-Head.is c.self.invariant.1 in
    omega arith
