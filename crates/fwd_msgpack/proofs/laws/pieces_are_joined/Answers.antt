use Rattle.fwd_msgpack.proofs.Pieces.{joined}
use Rattle.fwd_msgpack.proofs.laws.pieces_are_joined.Goals as goal

pub returns : goal.returns
returns c = joined
