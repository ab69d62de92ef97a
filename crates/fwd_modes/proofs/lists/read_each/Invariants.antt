use Rattle.std.proofs.Common.{◌≡◌, ◌+◌, ◌^◌, ◌<◌, length}
use Rattle.std.specs.List.{concat}
use Rattle.fwd_modes.specs.Entries.{packed_entries}
use Rattle.fwd_modes.proofs.EntryLemmas.{behind}
use Rattle.fwd_modes.proofs.lists.read_each.Given as goal

-- the entries so far, and those of the rest, are all
abbrev pub invariant-entries : goal.invariant-entries
invariant-entries l = record {
  said : behind l.kept (packed_entries l.fn.depth l.rest) ≡ packed_entries l.fn.depth l.fn.packed;
  fits : length (concat l.kept) + length l.rest < 2 ^ 32;
}

abbrev pub decreases-entries : goal.decreases-entries
decreases-entries l = length l.rest
