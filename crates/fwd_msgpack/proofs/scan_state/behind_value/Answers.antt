use Rattle.std.proofs.Common.{arith}
use Rattle.fwd_msgpack.proofs.Torn.{nothing_read}
use Rattle.fwd_msgpack.proofs.Within.{after_value-less}
use Rattle.fwd_msgpack.proofs.scan_state.behind_value.Goals as goal

pub returns-then-end_value-clause-stage : goal.returns-then-end_value-clause-stage
returns-then-end_value-clause-stage c limit used fits =
    let less = after_value-less c.args.stack.now c.end_value.new.self c.if-end_value.ensures in
    (omega (arith, less.owed), nothing_read)
