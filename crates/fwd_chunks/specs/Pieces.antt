-- What the readers of a chunk's entries still give.
use Rattle.std.specs.Prelude.{ℕ, List, [], ◌++◌, Option, Some, None}
use Rattle.fwd_chunks.specs.declared.entry_range.EntryRange.{EntryRange}
use Rattle.fwd_chunks.specs.declared.entries.BodyEntries.{BodyEntries}
use Rattle.fwd_chunks.specs.declared.body_parts.BodyParts.{BodyParts}
use Rattle.fwd_chunks.specs.Rows.{joined, bytes_each}
use Rattle.fwd_chunks.specs.Parts.{entries_in}

-- the entries of a row that was begun
abbrev pub begun : Option EntryRange → List (List ℕ)
begun None = []
begun (Some p) = entries_in p

-- the entries of a chunk that are still to come
abbrev pub body_entries_left : BodyEntries → List (List ℕ)
body_entries_left e = begun e.part ++ joined e.slices.now

-- the pieces that are still to come
abbrev pub parts_left : BodyParts → List (List ℕ)
parts_left p = bytes_each p.slices.now
