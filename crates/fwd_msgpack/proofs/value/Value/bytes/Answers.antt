use Rattle.fwd_msgpack.proofs.Bounds.{whole_bounded}
use Rattle.fwd_msgpack.proofs.value.Value.bytes.Goals as goal

pub returns-clause-bound : goal.returns-clause-bound
returns-clause-bound c = whole_bounded c.args.self.bytes.now c.args.self.whole
