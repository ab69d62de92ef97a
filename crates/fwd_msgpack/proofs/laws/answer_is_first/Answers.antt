use Rattle.fwd_msgpack.proofs.Pieces.{told_first}
use Rattle.fwd_msgpack.proofs.laws.answer_is_first.Goals as goal

pub returns : goal.returns
returns c = told_first
