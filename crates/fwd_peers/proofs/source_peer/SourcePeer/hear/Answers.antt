use Rattle.std.proofs.Common.{rules, take}
use Rattle.fwd_peers.proofs.Hearing.{reads}
use Rattle.fwd_peers.proofs.source_peer.SourcePeer.hear.Goals as goal

pub returns-clause-read : goal.returns-clause-read
returns-clause-read g c = λ open_ few.
    reads _ _ _ c.args.self.now c.read-count.new.self c.take_in.new.self c.visited.new.self
    (take c.read-count.result.0 c.read-count.new.room) c.read-count.result.1 c.is_full.result
    (search rules) (search rules) c.take_in.ensures.taken c.take_in.ensures.others c.visited.ensures c.is_full.ensures
