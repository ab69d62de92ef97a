use Rattle.fwd_msgpack.proofs.Splittings.{elements_are}
use Rattle.fwd_msgpack.proofs.laws.elements_are_members.Goals as goal

pub returns : goal.returns
returns c = elements_are
