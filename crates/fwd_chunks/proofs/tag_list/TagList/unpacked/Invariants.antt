use Rattle.fwd_chunks.proofs.Unpacking.{Unpacks}
use Rattle.fwd_chunks.proofs.tag_list.TagList.unpacked.Given as goal

abbrev pub invariant-loop-row : goal.invariant-loop-row
invariant-loop-row l = Unpacks l.row-items l.initial.names l.names l.counts.items l.row-index
