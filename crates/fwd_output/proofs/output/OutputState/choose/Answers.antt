use Rattle.std.proofs.Common.{◌≡◌, ◌∙◌, max, sym, ap, subst}
use Rattle.fwd_failover.specs.Live.{live_looked}
use Rattle.fwd_output.specs.Coupling.{IsCoupled}
use Rattle.fwd_output.specs.OutputEvents.{IsLiveOutput}
use Rattle.fwd_output.proofs.CouplingLemmas.{looks-coupled}
use Rattle.fwd_output.proofs.OutputLemmas.{looked}
use Rattle.fwd_output.proofs.output.OutputState.choose.Goals as goal

pub invariant_of-self : goal.invariant_of-self
invariant_of-self c =
    let o = c.self.inside in
    let own = c.self.invariant in
    let now = c.args.now in
    let servers : c.choose.new.self ≡ live_looked o.servers (max o.buffer.moment now) = c.choose.ensures.after ∙ ap (live_looked o.servers) c.look-moment.ensures.greatest in (
      subst (λ b. IsCoupled b o.book.live) (sym c.look-moment.ensures.looked) (looks-coupled o.buffer o.book.live now own.0),
      subst IsLiveOutput (sym (λ i. record { buffer = c.look-moment.ensures.looked i; book = o.book.live; servers = servers i }))
          (looked (record { buffer = o.buffer; book = o.book.live; servers = o.servers }) now own.1),
    )
