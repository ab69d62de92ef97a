use Rattle.std.proofs.Common.{◌≡◌, ◌+◌, ◌≤◌, length}
use Rattle.fwd_chunks.specs.Filling.{needed}
use Rattle.fwd_chunks.specs.Parts.{entries_in}
use Rattle.fwd_chunks.proofs.entry_range.EntryRange.needed.Given as goal

abbrev pub invariant-loop-rest : goal.invariant-loop-rest
invariant-loop-rest l = record {
  value : l.count + needed l.limit (entries_in l.rest) ≡ needed l.limit (entries_in l.self);
  within : l.count + length (entries_in l.rest) ≤ length (entries_in l.self);
}

abbrev pub decreases-loop-rest : goal.decreases-loop-rest
decreases-loop-rest l = length (entries_in l.rest)
