use Rattle.std.proofs.Common.{◌≡◌, Some, length}
use Rattle.fwd_workers.specs.Placed.{Stands, with}
use Rattle.relay_threads.proofs.idle_worker.MetWorker.end.Given as goal

-- the worker has its session, of which chunks were settled, and what it took
abbrev pub invariant-loop-acked : goal.invariant-loop-acked
invariant-loop-acked g l = Stands l.page (with l.taken (Some l.session)) l.terms

-- how many chunks are accepted still
abbrev pub decreases-loop-acked : goal.decreases-loop-acked
decreases-loop-acked g l = length l.session.accepted
