use Rattle.std.proofs.Common.{◌≡◌, ◌≤◌, length}
use Rattle.std.specs.Vec.Iter.{into_iter_items}
use Rattle.fwd_chunks.specs.Slots.{AreAbove, appended}
use Rattle.fwd_chunks.proofs.chunk_index.ChunkIndex.append.Given as goal

abbrev pub invariant-loop-chunk : goal.invariant-loop-chunk
invariant-loop-chunk l = record {
  can : (goal.iterator-loop-chunk).can_next l.chunk-iterator;
  finite : (goal.iterator-loop-chunk).is_finite l.chunk-iterator;
  room : length (into_iter_items l.chunk-iterator) ≤ l.self.room;
  above : AreAbove l.self.last (into_iter_items l.chunk-iterator);
  left : appended l.self (into_iter_items l.chunk-iterator) ≡ appended l.fn.self l.fn.fresh.items;
}
