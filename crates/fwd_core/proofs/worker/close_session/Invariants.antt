use Rattle.std.proofs.Common.{length}
use Rattle.fwd_core.proofs.worker.close_session.Given as goal

abbrev pub decreases-loop-acked : goal.decreases-loop-acked
decreases-loop-acked l = length l.session.accepted
