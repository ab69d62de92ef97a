use Rattle.std.proofs.Common.{sym, ap, ◌∙◌}
use Rattle.fwd_peers.specs.Peers.{PeerShown}
use Rattle.fwd_peers.proofs.source_peer.SourcePeer.answer.Goals as goal

pub returns-clause-delivered : goal.returns-clause-delivered
returns-clause-delivered g c = λ setting receipts given has conn.
    c.after-reached.ensures.delivered setting receipts c.args.receipt.now given has
    (conn ∙ sym (ap (λ (p : PeerShown). p.id) c.self.view_is) ∙ c.self.invariant)
