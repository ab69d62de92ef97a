-- The container's members stand in a row.
use Rattle.std.proofs.Common.{ap, arith}
use Rattle.fwd_msgpack.specs.Heads.{payload, members}
use Rattle.fwd_msgpack.proofs.Parts.{parts_row}
use Rattle.fwd_msgpack.proofs.value.Value.pairs.Goals as goal

pub invariant_of-result : goal.invariant_of-result
invariant_of-result c =
    let rows = parts_row c.args.self.bytes.now c.parts.result.0 c.parts.result.1.now c.args.self.whole c.parts.ensures.value (ap payload c.in-Map-default.is-0) in
    record { count = omega (arith, c.from.ensures, rows.count_is, ap members c.in-Map-default.is-0); row = rows.row }
