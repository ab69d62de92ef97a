use Rattle.fwd_msgpack.proofs.Flats.{item_there}
use Rattle.fwd_msgpack.proofs.flat.value_len.Goals as goal

pub returns-in-Some-clause-value : goal.returns-in-Some-clause-value
returns-in-Some-clause-value c inside = item_there c.args.limits.depth c.args.bytes.now c.args.at c.in-Some.len (c.in-Some.ensures.plain inside) inside
