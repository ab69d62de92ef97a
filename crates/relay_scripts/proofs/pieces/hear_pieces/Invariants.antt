use Rattle.std.proofs.Common.{length}
use Rattle.relay_scripts.proofs.pieces.hear_pieces.Given as goal

abbrev pub decreases-pieces : goal.decreases-pieces
decreases-pieces l = length l.rest
