use Rattle.std.proofs.Common.{arith}
use Rattle.fwd_msgpack.proofs.Parts.{last_first}
use Rattle.fwd_msgpack.specs.Scans.{most_bytes, most_deep}
use Rattle.fwd_msgpack.proofs.Turns.{plain_first}
use Rattle.fwd_msgpack.proofs.members.first_len.Goals as goal

pub returns-then-values-eq1 : goal.returns-then-values-eq1
returns-then-values-eq1 c = last_first c.args.row.now c.requires.row (omega (arith, c.requires.count, c.if-values-eq1.true))

pub returns-in-Some : goal.returns-in-Some
returns-in-Some c =
    let item = c.in-Some.ensures in
    plain_first most_bytes most_deep c.args.row.now c.in-Some.size item.plain (omega (arith, item.fits)) (omega (arith, item.fits))
