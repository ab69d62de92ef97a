use Rattle.std.specs.Prelude.{map}
use Rattle.std.specs.Vec.Iter.{into_iter_items, into_iter_len}
use Rattle.fwd_chunks.specs.Live.{LiveBuffer}
use Rattle.fwd_book.specs.Live.{LiveBook}
use Rattle.fwd_output.specs.Coupling.{IsCoupled}
use Rattle.fwd_output.specs.HandedBack.{IsHandedBack, lost_back}
use Rattle.fwd_output.proofs.output.put_all_back.Given as goal

-- what the rest comes to from here on, all come to from the beginning on
abbrev pub invariant-loop-chunk : goal.invariant-loop-chunk
invariant-loop-chunk l =
    ((d : LiveBuffer) → IsHandedBack l.buffer (map lost_back (into_iter_items l.rest)) l.now d
    → IsHandedBack l.fn.buffer (map lost_back l.fn.chunks.items) l.now d)
    × ((k : LiveBook) → IsCoupled l.fn.buffer k → IsCoupled l.buffer k)

abbrev pub decreases-loop-chunk : goal.decreases-loop-chunk
decreases-loop-chunk l = into_iter_len l.rest
