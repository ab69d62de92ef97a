-- Entries of a request that stand in a row.
use Rattle.std.specs.Prelude.{ℕ, List, take, drop}
use Rattle.fwd_chunks.specs.declared.entry_range.EntryRange.{EntryRange}

-- the entries: so many of the request's, behind so many others
abbrev pub entries_in : EntryRange → List (List ℕ)
entries_in p = take p.count (drop p.first p.batch.now.entries)
