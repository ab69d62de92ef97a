use Rattle.std.proofs.Common.{length}
use Rattle.relay_scripts.proofs.mutants.heard_by_values.Given as goal

abbrev pub decreases-loop-value : goal.decreases-loop-value
decreases-loop-value l = length l.rest
