use Rattle.std.proofs.Common.{sym}
use Rattle.fwd_msgpack.proofs.Flats.{value_there}
use Rattle.fwd_msgpack.proofs.flat.whole_len.Goals as goal

pub returns-in-Whole-clause-value : goal.returns-in-Whole-clause-value
returns-in-Whole-clause-value c = (value_there c.args.limits.bytes c.args.limits.depth c.args.bytes.now c.in-Whole.len (sym c.in-Whole.ensures)).1

pub returns-in-Whole-clause-within : goal.returns-in-Whole-clause-within
returns-in-Whole-clause-within c = (value_there c.args.limits.bytes c.args.limits.depth c.args.bytes.now c.in-Whole.len (sym c.in-Whole.ensures)).0
