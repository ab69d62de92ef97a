use Rattle.std.proofs.Common.{◌≡◌, sym, subst}
use Rattle.fwd_chunks.specs.Live.{live_takes}
use Rattle.fwd_output.proofs.CouplingLemmas.{takes-coupled}
use Rattle.fwd_output.proofs.Basics.{either_way}
use Rattle.fwd_output.proofs.OutputLemmas.{Holds, takes}
use Rattle.fwd_output.proofs.output.OutputState.take_wanted.Goals as goal

pub invariant_of-self : goal.invariant_of-self
invariant_of-self c =
    let o = c.self.inside in
    let own = c.self.invariant in
    let k = o.book.live in
    either_way (c.take_wanted.new.self ≡ live_takes o.buffer c.args.worker c.args.wanted c.args.now) (c.take_wanted.new.self ≡ o.buffer) (Holds c.take_wanted.new.self k o.servers) c.take_wanted.result c.take_wanted.ensures.ok c.take_wanted.ensures.err
    (λ e. subst (λ b. Holds b k o.servers) (sym e) (takes-coupled o.buffer k c.args.worker c.args.wanted c.args.now own.0, takes (record { buffer = o.buffer; book = k; servers = o.servers }) c.args.worker c.args.wanted c.args.now own.1))
    (λ e. subst (λ b. Holds b k o.servers) (sym e) own)
