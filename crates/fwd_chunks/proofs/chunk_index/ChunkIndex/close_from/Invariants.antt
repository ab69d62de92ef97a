use Rattle.std.proofs.Common.{◌≡◌, ◌+◌, length, filter}
use Rattle.fwd_chunks.specs.declared.chunk_state.ChunkState.TheVariants.{Closed}
use Rattle.fwd_chunks.specs.Live.{staged, changed}
use Rattle.fwd_chunks.specs.Slots.{began_by}
use Rattle.fwd_chunks.proofs.chunk_index.ChunkIndex.close_from.Given as goal

abbrev pub invariant-loop-number : goal.invariant-loop-number
invariant-loop-number l = record {
  kept : l.self ≡ record l.initial.self { chunks = l.self.chunks };
  closed : changed (began_by l.moment) (staged Closed) l.self.chunks
      ≡ changed (began_by l.moment) (staged Closed) l.initial.self.chunks;
  counted : l.count + length (filter (began_by l.moment) l.self.chunks)
      ≡ length (filter (began_by l.moment) l.initial.self.chunks);
}

abbrev pub decreases-loop-number : goal.decreases-loop-number
decreases-loop-number l = length (filter (began_by l.moment) l.self.chunks)
