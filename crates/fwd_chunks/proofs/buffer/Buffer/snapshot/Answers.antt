use Rattle.std.proofs.Common.{subst, sym}
use Rattle.fwd_chunks.specs.Live.{LiveBuffer}
use Rattle.fwd_chunks.specs.TagCounts.{AreTagCounts, tagged_in}
use Rattle.fwd_chunks.proofs.Counted.{listed-counts}
use Rattle.fwd_chunks.proofs.buffer.Buffer.snapshot.Goals as goal

pub returns : goal.returns
returns c = record {
  counts = c.held.ensures;
  tags = subst (λ (b : LiveBuffer). AreTagCounts (tagged_in b.chunks) c.in_ok-listed.field-0) c.self.view_is
      (subst (AreTagCounts (tagged_in c.self.inside.index.chunks)) (sym c.in_ok-listed.ensures.list)
      (listed-counts c.self.inside.tags c.self.inside.index.chunks c.in_ok-listed.ensures.once c.self.invariant.counted));
}
