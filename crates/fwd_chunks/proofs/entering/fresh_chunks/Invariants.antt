use Rattle.std.proofs.Common.{◌≡◌, ◌+◌, ◌<◌, ◌≤◌, ◌^◌, ◌++◌, length}
use Rattle.fwd_chunks.specs.Cells.{size_of}
use Rattle.fwd_chunks.specs.Filling.{fresh_of, needed}
use Rattle.fwd_chunks.specs.Parts.{entries_in}
use Rattle.fwd_chunks.proofs.entering.fresh_chunks.Given as goal

abbrev pub invariant-loop-rest : goal.invariant-loop-rest
invariant-loop-rest l = record {
  made : l.chunks.items ++ fresh_of l.fresh.limit l.fresh.tag.now l.fresh.since (l.fresh.first + length l.chunks.items) (entries_in l.rest) ≡ fresh_of l.fresh.limit l.fresh.tag.now l.fresh.since l.fresh.first (entries_in l.part);
  numbers : l.fresh.first + length l.chunks.items + needed l.fresh.limit (entries_in l.rest) ≤ 2 ^ 64;
  size : size_of (entries_in l.rest) < 2 ^ 32;
}

abbrev pub decreases-loop-rest : goal.decreases-loop-rest
decreases-loop-rest l = length (entries_in l.rest)
