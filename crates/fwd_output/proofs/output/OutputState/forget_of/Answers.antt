use Rattle.std.proofs.Common.{sym, ap, subst}
use Rattle.fwd_book.specs.History.{is_of}
use Rattle.fwd_book.specs.Live.{BookState}
use Rattle.fwd_output.proofs.CouplingLemmas.{drops-coupled}
use Rattle.fwd_output.proofs.OutputLemmas.{Holds, forgotten_of}
use Rattle.fwd_output.proofs.output.OutputState.forget_of.Goals as goal

pub invariant_of-self : goal.invariant_of-self
invariant_of-self c =
    let o = c.self.inside in
    let own = c.self.invariant in
    subst (λ k. Holds o.buffer k o.servers) (sym (ap (λ (k : BookState). k.live) c.forget_of.ensures.left))
    (drops-coupled o.buffer o.book.live (is_of c.args.conn) own.0, forgotten_of (record { buffer = o.buffer; book = o.book.live; servers = o.servers }) c.args.conn own.1)
