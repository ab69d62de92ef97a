use Rattle.fwd_msgpack.proofs.Shortest.{shortest}
use Rattle.fwd_msgpack.proofs.laws.written_is_shortest.Goals as goal

pub returns : goal.returns
returns c = shortest
