use Rattle.std.proofs.Common.{ap, sym, ◌∙◌}
use Rattle.fwd_peers.proofs.Owning.{conn_heard}
use Rattle.fwd_peers.proofs.source_peer.SourcePeer.take_in.Goals as goal

pub invariant_of-self : goal.invariant_of-self
invariant_of-self g c =
    c.self.invariant
    ∙ sym (ap (λ live. live.setup.conn) c.in-Ok.ensures.live ∙ conn_heard c.self.inside.source.live c.args.bytes.now)

pub invariant_of-self-in-Fault : goal.invariant_of-self-in-Fault
invariant_of-self-in-Fault g c =
    c.self.invariant
    ∙ sym (ap (λ live. live.setup.conn) c.in-Ok.ensures.live ∙ conn_heard c.self.inside.source.live c.args.bytes.now)
