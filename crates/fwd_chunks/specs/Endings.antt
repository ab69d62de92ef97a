-- Where the entries end that are still to come.
use Rattle.std.specs.Prelude.{ℕ, List}
use Rattle.fwd_modes.specs.Entries.{ends_from}
use Rattle.fwd_chunks.specs.declared.body_parts.EntryEnds.{EntryEnds}
use Rattle.fwd_chunks.specs.Pieces.{body_entries_left}

-- the ends that are still to come
abbrev pub ends_left : EntryEnds → List ℕ
ends_left e = ends_from e.place (body_entries_left e.entries)
