use Rattle.std.proofs.Common.{arith, sum, ap, ◌∙◌}
use Rattle.fwd_msgpack.specs.Scanners.{Standing}
use Rattle.fwd_msgpack.specs.ScanStates.{in_head}
use Rattle.fwd_msgpack.proofs.Torn.{head_stage, in_head_stage, torn_short}
use Rattle.fwd_msgpack.proofs.scanner.Scanner.hear.Goals as goal

pub push-requires : goal.push-requires
push-requires c =
    let s = c.self.inside in
    let stage = in_head_stage s.used s.stack s.front s.stage (ap (λ (s : Standing). in_head s.state) c.self.view_is ∙ c.requires) in
    let is = head_stage s.limits.bytes s.used (sum s.stack) s.front s.stage stage c.self.invariant.1 in
    let small = torn_short s.front is.1 in
    omega arith
