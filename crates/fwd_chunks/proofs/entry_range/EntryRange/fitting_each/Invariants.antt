use Rattle.std.proofs.Common.{◌≡◌, ◌+◌, ◌-◌, ◌≤◌, length}
use Rattle.fwd_chunks.specs.Filling.{fitting}
use Rattle.fwd_chunks.specs.Parts.{entries_in}
use Rattle.fwd_chunks.proofs.entry_range.EntryRange.fitting_each.Given as goal

-- those so far, and those of the entries to come that fit, are all that fit
abbrev pub invariant-loop-entry : goal.invariant-loop-entry
invariant-loop-entry l = record {
  room : l.room ≤ l.limit;
  left : l.count + length (entries_in l.entry-iterator) ≤ length (entries_in l.self);
  count : l.count + fitting l.limit (l.limit - l.room) (entries_in l.entry-iterator) ≡ fitting l.limit l.used (entries_in l.self);
}
