use Rattle.fwd_session.proofs.Pieces.{hears_many}
use Rattle.fwd_session.proofs.laws.pieces_are_one.Goals as goal

pub returns : goal.returns
returns c s bytes pieces = hears_many pieces s bytes
