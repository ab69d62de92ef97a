use Rattle.std.proofs.Common.{length}
use Rattle.fwd_core.proofs.returned_numbers.+rising.Given as goal

abbrev pub decreases-rising : goal.decreases-rising
decreases-rising l = length l.chunks.now
