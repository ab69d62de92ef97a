use Rattle.std.proofs.Common.{sym, subst}
use Rattle.fwd_workers.specs.Served.{IsFree}
use Rattle.fwd_workers.proofs.Keeping.{hears-free}
use Rattle.fwd_workers.proofs.serve.hear.Goals as goal

pub returns-in-Acked-clause-chunk : goal.returns-in-Acked-clause-chunk
returns-in-Acked-clause-chunk g c free =
    subst IsFree (sym c.in-Ok.ensures.next) (hears-free c.args.session.now c.args.bytes.now free)

pub returns-in-Fault-clause-chunk : goal.returns-in-Fault-clause-chunk
returns-in-Fault-clause-chunk g c free =
    subst IsFree (sym c.in-Ok.ensures.next) (hears-free c.args.session.now c.args.bytes.now free)
