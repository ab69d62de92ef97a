use Rattle.std.proofs.Common.{◌≡◌, ◌≤◌, ◌-◌, length, take, drop}
use Rattle.fwd_modes.specs.Entries.{AreCut, cut_at, packed_entries}
use Rattle.fwd_modes.proofs.EntryLemmas.{behind}
use Rattle.fwd_modes.proofs.lists.ends_of_kept.Given as goal

-- the entries so far, and those of the rest, are all
abbrev pub invariant-entries : goal.invariant-entries
invariant-entries l = record {
  inside : l.used ≤ length l.fn.packed;
  cut : AreCut 0 l.ends.items (take l.used l.fn.packed);
  said : behind (cut_at 0 l.ends.items (take l.used l.fn.packed)) (packed_entries l.fn.depth (drop l.used l.fn.packed))
      ≡ packed_entries l.fn.depth l.fn.packed;
}

abbrev pub decreases-entries : goal.decreases-entries
decreases-entries l = length l.fn.packed - l.used
