use Rattle.std.proofs.Common.{length}
use Rattle.relay_scripts.proofs.outputs.drop_session.Given as goal

abbrev pub decreases-loop-chunk : goal.decreases-loop-chunk
decreases-loop-chunk l = length l.session.accepted
