use Rattle.std.proofs.Common.{◌≡◌}
use Rattle.fwd_chunks.specs.Pieces.{body_entries_left}
use Rattle.fwd_chunks.proofs.entries.BodyEntries.is.Given as goal

-- what is left is the same where all is, and all where what is left is
abbrev pub invariant-loop-entry : goal.invariant-loop-entry
invariant-loop-entry l = record {
  to : body_entries_left l.entry-iterator ≡ body_entries_left l.theirs → body_entries_left l.fn.self ≡ body_entries_left l.fn.other;
  fro : body_entries_left l.fn.self ≡ body_entries_left l.fn.other → body_entries_left l.entry-iterator ≡ body_entries_left l.theirs;
}
