use Rattle.fwd_msgpack.proofs.Splittings.{pairs_are}
use Rattle.fwd_msgpack.proofs.laws.pairs_are_members.Goals as goal

pub returns : goal.returns
returns c = pairs_are
