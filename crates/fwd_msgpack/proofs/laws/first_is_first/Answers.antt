use Rattle.fwd_msgpack.proofs.Faults.{first_is}
use Rattle.fwd_msgpack.proofs.laws.first_is_first.Goals as goal

pub returns : goal.returns
returns c = first_is
