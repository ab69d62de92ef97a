use Rattle.std.proofs.Common.{length}
use Rattle.relay_scripts.proofs.values.values_of.Given as goal

abbrev pub decreases-loop-value : goal.decreases-loop-value
decreases-loop-value l = length l.rest
