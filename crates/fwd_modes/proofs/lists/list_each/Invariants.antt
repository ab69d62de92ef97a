use Rattle.std.proofs.Common.{◌≡◌, ◌+◌, ◌^◌, ◌<◌, length}
use Rattle.std.specs.List.{concat}
use Rattle.fwd_msgpack.specs.Values.{bytes_of, members_left}
use Rattle.fwd_modes.specs.Entries.{entries_of, listed_entries}
use Rattle.fwd_modes.proofs.EntryLemmas.{behind}
use Rattle.fwd_modes.proofs.lists.list_each.Given as goal

-- the entries so far, and those of the members to come, are all
abbrev pub invariant-loop-member : goal.invariant-loop-member
invariant-loop-member l = record {
  said : behind l.kept (entries_of (members_left l.member-iterator))
      ≡ listed_entries (bytes_of l.list);
  fits : length (concat l.kept) + length (concat (members_left l.member-iterator)) < 2 ^ 32;
}
