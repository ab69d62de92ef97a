use Rattle.std.proofs.Common.{arith}
use Rattle.fwd_msgpack.proofs.Turns.{behind_opening}
use Rattle.fwd_msgpack.proofs.scan.small_container.Goals as goal

pub returns-then-len-from-clause-same : goal.returns-then-len-from-clause-same
returns-then-len-from-clause-same c =
    let count = c.small_members-members.result in
    behind_opening _ _ c.args.bytes.now c.args.used c.args.stack.now count (c.small_members-members.ensures.opens (omega arith)) (omega arith) (omega arith) (omega arith) (omega arith)
