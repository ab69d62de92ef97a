use Rattle.std.proofs.Common.{sym, subst}
use Rattle.fwd_output.proofs.CouplingLemmas.{flushes-coupled}
use Rattle.fwd_output.proofs.OutputLemmas.{Holds, flushes}
use Rattle.fwd_output.proofs.output.OutputState.flush.Goals as goal

pub invariant_of-self : goal.invariant_of-self
invariant_of-self c =
    let o = c.self.inside in
    let own = c.self.invariant in
    let k = o.book.live in
    subst (λ b. Holds b k o.servers) (sym c.flush.ensures.flushed)
    (flushes-coupled o.buffer k c.args.now c.args.kind own.0, flushes (record { buffer = o.buffer; book = k; servers = o.servers }) c.args.now c.args.kind own.1)
