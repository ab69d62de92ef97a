use Rattle.fwd_peers.proofs.source_peer.SourcePeer.write.Goals as goal

pub returns : goal.returns
returns g c = record {
  end = c.send-visit.result;
  between = c.send-visit.new.self;
  sent = c.send-visit.ensures;
  after = c.visited.ensures;
  answer = c.stands.ensures;
}
