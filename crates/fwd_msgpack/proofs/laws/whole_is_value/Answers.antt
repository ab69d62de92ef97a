use Rattle.fwd_msgpack.proofs.Splittings.{whole_value}
use Rattle.fwd_msgpack.proofs.laws.whole_is_value.Goals as goal

pub returns : goal.returns
returns c = whole_value
