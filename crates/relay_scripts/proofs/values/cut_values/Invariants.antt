use Rattle.std.proofs.Common.{length}
use Rattle.relay_scripts.proofs.values.cut_values.Given as goal

abbrev pub decreases-loop-used : goal.decreases-loop-used
decreases-loop-used l = length l.rest
