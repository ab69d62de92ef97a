use Rattle.fwd_source.proofs.Pieces.{pieces_are_one}
use Rattle.fwd_source.proofs.laws.pieces_are_one.Goals as goal

pub returns : goal.returns
returns c s bytes pieces = pieces_are_one s bytes pieces
