use Rattle.std.proofs.Common.{arith, inl, inr}
use Rattle.fwd_peers.proofs.Acks.{ack_length}
use Rattle.fwd_peers.proofs.source_peer.SourcePeer.put.Goals as goal

pub returns-then-append_ack : goal.returns-then-append_ack
returns-then-append_ack g c = inl (grind arith, grind (arith, ack_length))

pub returns : goal.returns
returns g c = inr (grind arith, grind (arith, ack_length))
